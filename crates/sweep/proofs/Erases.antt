-- Runs that erase buckets: one turn longer, and the whole sweep.
use Prim.Native.Nat.{ℕ, ◌+◌}
use mathlib.Core.Path.{◌≡◌, refl, ap, ◌∙◌}
use mathlib.Core.Bool.{Bool, true, false}
use mathlib.Core.List.{List, [], ◌∷◌, map}
use Rattle.lists.specs.Lists.{below, keep}
use Rattle.lists.proofs.Rows.{map_append}
use Rattle.lists.proofs.Turns.{keep_more, keep_same}
use Rattle.model.specs.declared.Sizes.{Sizes}
use Rattle.model.specs.Sizes.{Device, body}
use Rattle.model.specs.Stores.{Store, erase, tag_of}
use Rattle.model.specs.Ledger.{ledger_tag, holds_epoch, names, named}
use Rattle.model.specs.Recover.{swept}
use Rattle.image.specs.Chip.{spare_only}
use Rattle.meter.specs.Run.{Run, step, run_all}
use Rattle.meter.proofs.Runs.{run_append}

module _ (z : Sizes) (t : ℕ → Bool) (k : ℕ) (r : Run) where
  pub erased_more : t k ≡ true → run_all z (map erase (keep t (below (k + 1)))) r ≡ step z (erase k) (run_all z (map erase (keep t (below k))) r)
  unfolding run_all
  erased_more h = ap (λ (ss : List Store). run_all z ss r) (keep_more k t erase h) ∙ run_append z (map erase (keep t (below k))) (erase k ∷ []) r

  pub erased_same : t k ≡ false → run_all z (map erase (keep t (below (k + 1)))) r ≡ run_all z (map erase (keep t (below k))) r
  erased_same h = ap (λ (ss : List Store). run_all z ss r) (keep_same k t erase h)

module _ (z : Sizes) (d : Device) where
  -- the spare bytes alone say what is named
  same_names : keep (named z (spare_only d.spare)) (below (body z)) ≡ keep (named z d) (below (body z))
  unfolding named names ledger_tag holds_epoch tag_of
  same_names = refl

  -- the named buckets, then the ledger's two
  pub sweep_run : (r : Run)
      → run_all z (map erase (swept z d)) r ≡ step z (erase (body z + 1)) (step z (erase (body z)) (run_all z (map erase (keep (named z (spare_only d.spare)) (below (body z)))) r))
  unfolding swept run_all
  sweep_run r =
      rw (same_names, map_append erase (keep (named z d) (below (body z))) (body z ∷ (body z + 1) ∷ []))
      (run_append z (map erase (keep (named z d) (below (body z)))) (erase (body z) ∷ erase (body z + 1) ∷ []) r)
