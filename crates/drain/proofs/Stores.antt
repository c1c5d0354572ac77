-- The stores of a drain, from each listed back-end bucket to the next.
use Prim.Native.Nat.{ℕ, ◌+◌, ◌<◌}
use mathlib.Core.Path.{◌≡◌, sym, ◌∙◌}
use mathlib.Core.Bool.{true}
use mathlib.Core.List.{List}
use native.Mathlib.Omega.{arith}
use Rattle.lists.specs.Lists.{row, keep, below, member, concat_map}
use Rattle.lists.proofs.Rows.{concat_more}
use Rattle.model.specs.declared.Sizes.{Sizes}
use Rattle.model.specs.Sizes.{Device}
use Rattle.model.specs.Stores.{Store}
use Rattle.model.specs.State.{State}
use Rattle.model.specs.Operations.{unclean, drain_stores}
use Rattle.image.specs.Chip.{spare_only}
use Rattle.meter.specs.Run.{Run, run_all}
use Rattle.meter.proofs.Runs.{run_append}
use Rattle.order.specs.Order.{next_of}
use Rattle.lists.proofs.Filters.{take_more}
use Rattle.order.proofs.Next.{next_passes, next_kept}
use Rattle.unclean.proofs.Leaves.{same-unclean}

-- those of the back-end buckets below n
unfoldable pub stores_to : Sizes → Device → State → ℕ → List Store
stores_to z d s n = concat_map (drain_stores z d s) (keep (unclean z d s) (below n))

module _ (z : Sizes) (d : Device) (s : State) (l : List ℕ) (listed : (b : ℕ) → unclean z (spare_only d.spare) s b ≡ member b l) where
  all_listed : (b : ℕ) → b < z.b → unclean z d s b ≡ member b l
  all_listed b h = sym (same-unclean z d s b) ∙ listed b

  -- the next one is unclean
  pub next_unclean : (from : ℕ) → next_of from z.b l < z.b → unclean z d s (next_of from z.b l) ≡ true
  next_unclean from h = next_passes (unclean z d s) l z.b all_listed from h

  pub stores_start : (r : Run) → r ≡ run_all z (stores_to z d s (next_of 0 z.b l)) r
  unfolding stores_to concat_map keep below row run_all
  stores_start r = rw (next_kept (unclean z d s) l z.b all_listed 0 (omega arith))

  pub stores_more : (b : ℕ) (r : Run) → b < z.b → unclean z d s b ≡ true
      → run_all z (drain_stores z d s b) (run_all z (stores_to z d s b) r) ≡ run_all z (stores_to z d s (next_of (b + 1) z.b l)) r
  unfolding stores_to
  stores_more b r h e =
      let f = drain_stores z d s in
      let t = unclean z d s in
      rw (next_kept t l z.b all_listed (b + 1) (omega arith), take_more t b e, concat_more f (keep t (below b)) b)
      (sym (run_append z (concat_map f (keep t (below b))) (f b) r))
