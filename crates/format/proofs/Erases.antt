-- A run that erases the first buckets, one longer.
use Prim.Native.Nat.{ℕ, ◌+◌}
use mathlib.Core.Path.{◌≡◌, ap, ◌∙◌}
use mathlib.Core.List.{List, [], ◌∷◌, map}
use Rattle.lists.specs.Lists.{below}
use Rattle.lists.proofs.Rows.{below_more, map_append}
use Rattle.model.specs.declared.Sizes.{Sizes}
use Rattle.model.specs.Stores.{Store, erase}
use Rattle.meter.specs.Run.{Run, step, run_all}
use Rattle.meter.proofs.Runs.{run_append}

pub erases_more : (z : Sizes) (k : ℕ) (r : Run) → run_all z (map erase (below (k + 1))) r ≡ step z (erase k) (run_all z (map erase (below k)) r)
unfolding run_all
erases_more z k r =
    ap (λ (ss : List Store). run_all z ss r) (ap (map erase) (below_more k) ∙ map_append erase (below k) (k ∷ []))
    ∙ run_append z (map erase (below k)) (erase k ∷ []) r
