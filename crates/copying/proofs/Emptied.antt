-- The room's erase, and the entry before it, leave all other buckets outside the ledger as they were.
use Prim.Native.Nat.{ℕ, ◌-◌, ◌<◌}
use mathlib.Core.Path.{◌≡◌, refl}
use mathlib.Core.Bool.{true, false}
use mathlib.Core.Logic.{◌⊎◌, inl, inr}
use native.Mathlib.Omega.{arith}
use lib.Dec.{leb}
use borrow.Author.Tests.{leb-true}
use Rattle.lists.proofs.Tests.{true_or_false}
use Rattle.lists.proofs.Parts.{length-ff}
use Rattle.model.specs.declared.Sizes.{Sizes}
use Rattle.model.specs.Sizes.{Device, body}
use Rattle.model.specs.Spare.{tag_bytes, entry_tag}
use Rattle.model.specs.Image.{blanks}
use Rattle.model.specs.Ledger.{in_use, other_of}
use Rattle.model.specs.Steps.{entry_store, entry_stores, noted_erase}
use Rattle.model.proofs.Limits.{Limits, on_chip}
use Rattle.model.proofs.Frames.{Lengths, Fits}
use Rattle.noted.proofs.Entries.{in_use_inside, other_inside}
use Rattle.meter.specs.Run.{Run, run_all}
use Rattle.copying.specs.declared.Room.{Room}
use Rattle.copying.specs.Fresh.{erases}
use Rattle.copying.proofs.Unmoved.{Unmoved, AllBeside, run_unmoved}

module _ (z : Sizes) (limits : Limits z) where
  entry-fits : (d : Device) (l k x : ℕ) → l < z.c → k < z.p → Fits z (entry_store z d l k x)
  unfolding entry_store entry_tag tag_bytes
  entry-fits d l k x hl hk = (hl, hk, length-ff z.s, refl)

  noted_beside : (d : Device) (x : ℕ) → x < body z → AllBeside z limits.p_low x (noted_erase z d x)
  unfolding noted_erase entry_stores entry_store
  noted_beside d x hx = go (true_or_false (leb 1 (blanks z d (in_use z d))))
    where
      go : (leb 1 (blanks z d (in_use z d)) ≡ true) ⊎ (leb 1 (blanks z d (in_use z d)) ≡ false) → AllBeside z limits.p_low x (noted_erase z d x)
      go (inl e) =
          let used = in_use_inside z limits d in
          let k : z.p - blanks z d (in_use z d) < z.p = omega (arith, limits.p_low, leb-true 1 (blanks z d (in_use z d)) e) in
          rw e (entry-fits d (in_use z d) _ x used.1 k, used.0, (on_chip z x hx, inl refl, tt))
      go (inr e) =
          let used = in_use_inside z limits d in
          let other = other_inside z limits (in_use z d) in
          rw e (entry-fits d (other_of z (in_use z d)) 0 x other.1 limits.p_low, other.0, (used.1, inr used.0, (on_chip z x hx, inl refl, tt)))

  pub erases_unmoved : (room : Room) → room.bucket < body z → (r : Run) → Lengths z r.device
      → Unmoved z limits.p_low room.bucket r.device (run_all z (erases z r.device room) r).device
  unfolding erases
  erases_unmoved room hc r lens = run_unmoved z limits.p_low room.bucket hc (erases z r.device room) r lens (go (true_or_false room.erase))
    where
      go : (room.erase ≡ true) ⊎ (room.erase ≡ false) → AllBeside z limits.p_low room.bucket (erases z r.device room)
      go (inl e) = rw e (noted_beside r.device room.bucket hc)
      go (inr e) = rw e tt
