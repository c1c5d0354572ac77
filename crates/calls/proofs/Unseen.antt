-- A read's lent bytes: what stands there before is not seen after, but for their count.
use Prim.Native.Nat.{ℕ}
use mathlib.Core.Path.{◌≡◌, refl}
use mathlib.Core.Bool.{Bool, true, false}
use mathlib.Core.List.{List}
use lib.ListN.{length}
use lib.Dec.{ltb, eqb}
use Rattle.model.specs.Sizes.{Device}
use Rattle.model.specs.Steps.{Plan}
use Rattle.model.specs.Calls.{read_call, is_done, tests, refusal, sizes_of, plan_of, done_answer, lent_buffer, read_buffer, carry_out, turned_down, decide, call}
use Rattle.state.specs.declared.State.{State}
use Rattle.state.specs.View.{view_of}
use Rattle.outcome.specs.Handed.{handed}
use Rattle.calls.specs.Arrays.{seen}

module _ (n b off : ℕ) (x y : List ℕ) (e : length x ≡ length y) (s : State) (d : Device) where
  carried : (p : Plan) → seen (handed s (carry_out n (read_call b off x) (view_of s) d p)) ≡ seen (handed s (carry_out n (read_call b off y) (view_of s) d p))
  unfolding seen handed is_done sizes_of done_answer lent_buffer read_buffer carry_out
  carried p = go (ltb n (length p.stores)) refl
    where
      go : (t : Bool) → ltb n (length p.stores) ≡ t → seen (handed s (carry_out n (read_call b off x) (view_of s) d p)) ≡ seen (handed s (carry_out n (read_call b off y) (view_of s) d p))
      go true h = rw h
      go false h = rw (h, e)

  decided : (r : ℕ) (p : Plan) → seen (handed s (decide n (read_call b off x) (view_of s) d r p)) ≡ seen (handed s (decide n (read_call b off y) (view_of s) d r p))
  unfolding seen handed is_done turned_down
  decided r p = go (eqb r 0) refl
    where
      go : (t : Bool) → eqb r 0 ≡ t → seen (handed s (decide n (read_call b off x) (view_of s) d r p)) ≡ seen (handed s (decide n (read_call b off y) (view_of s) d r p))
      go true h = rw h (carried p)
      go false h = rw h

  same-refusal : refusal (read_call b off x) (view_of s) d ≡ refusal (read_call b off y) (view_of s) d
  unfolding refusal tests
  same-refusal = rw e

  pub unseen : seen (handed s (call n (read_call b off x) (view_of s) d)) ≡ seen (handed s (call n (read_call b off y) (view_of s) d))
  unfolding call plan_of
  unseen = rw same-refusal (decided (refusal (read_call b off y) (view_of s) d) _)
