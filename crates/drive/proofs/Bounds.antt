-- Bounds of an outcome: its stores, and the bytes of a Done read.
use mathlib.Core.Path.{◌≡◌, refl, ap}
use mathlib.Core.Bool.{Bool, true, false}
use Prim.Native.Nat.{ℕ, ◌≤◌}
use native.Mathlib.Omega.{arith}
use borrow.Author.Tests.{ltb-false}
use lib.ListN.{length}
use lib.Dec.{ltb, eqb}
use Rattle.model.specs.declared.Answer.TheVariants.{Done}
use Rattle.model.specs.Sizes.{Device, bucket_size, disk_size}
use Rattle.model.specs.State.{State}
use Rattle.model.specs.Calls.{Call, format_call, read_call, write_call, erase_call, drain_call, recover_call, Outcome, refusal, plan_of, lent_buffer, carry_out, turned_down, call}
use Rattle.model.proofs.Calling.{read_passed}
use Rattle.model.proofs.Outcomes.{Ends, refused, cut, done, ends}
use Rattle.geometry.proofs.Passed.{lengths_hold}
use Rattle.geometry.proofs.Places.{nth_inside}

module _ (n : ℕ) (k : Call) (s : State) (d : Device) where
  pub stores_within : (call n k s d).stores ≤ n
  unfolding call carry_out turned_down
  stores_within = go (eqb (refusal k s d) 0) refl (ltb n (length (plan_of k s d).stores)) refl
    where
      go : (q : Bool) → eqb (refusal k s d) 0 ≡ q → (t : Bool) → ltb n (length (plan_of k s d).stores) ≡ t → (call n k s d).stores ≤ n
      go false e t g = rw e (omega arith)
      go true e true g = rw (e, g) (omega arith)
      go true e false g = rw (e, g) (omega (arith, ltb-false n (length (plan_of k s d).stores) g))

-- a read that is not turned down asks for no more bytes than the disk has
read_room : (k : Call) (s : State) (d : Device) → refusal k s d ≡ 0 → length (lent_buffer k) ≤ length d.disk
unfolding lent_buffer disk_size
read_room (format_call z) s d h = omega arith
read_room (read_call b off buffer) s d h =
    let p = read_passed s d b off buffer h in
    let l = lengths_hold s.sizes d p.0.lent_whole in
    omega (arith, l.disk_length, p.1.range_in, nth_inside b s.sizes.b (bucket_size s.sizes) p.1.b_in)
read_room (write_call b off bytes) s d h = omega arith
read_room erase_call s d h = omega arith
read_room drain_call s d h = omega arith
read_room (recover_call z) s d h = omega arith

pub done_room : (n : ℕ) (k : Call) (s : State) (d : Device) → (call n k s d).answer ≡ Done → length (lent_buffer k) ≤ length d.disk
unfolding turned_down
done_room n k s d e = go (ends n k s d)
  where
    go : Ends n k s d → length (lent_buffer k) ≤ length d.disk
    go (refused h q) = let no : ◌≡◌ {A = ℕ} 0 1 = cc (ap (λ (o : Outcome). o.answer) q) in absurd (omega arith)
    go (cut h l q) = let no : ◌≡◌ {A = ℕ} 0 1 = cc (ap (λ (o : Outcome). o.answer) q) in absurd (omega arith)
    go (done h q) = read_room k s d h
