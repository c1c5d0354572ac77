use Prim.Native.Nat.{ℕ}
use mathlib.Core.List.{[], ◌∷◌, ◌++◌}
use mathlib.Core.Path.{◌≡◌, ◌∙◌, ap}
use Rattle.lists.proofs.Arrays.{joined-fits}
use Rattle.lists.specs.Arrays.{joined}
use Rattle.lists.specs.Lists.{head}
use Rattle.model.specs.Steps.{freed}
use Rattle.model.specs.State.{moved}
use Rattle.fifo.specs.View.{list_of}
use Rattle.state.proofs.Bounds.{free_fits}
use Rattle.state.proofs.State.freed.Goals as goal

pub returns : goal.returns
unfolding freed moved
returns c = let gc = list_of c.args.self.gc in
    let free = list_of c.args.self.free in
    let f : list_of c.push-free.result ≡ free ++ (head gc ∷ []) =
    c.push-free.ensures ∙ (ap (λ (x : ℕ). joined 256 free (x ∷ [])) c.head-head.ensures ∙ joined-fits 256 free (head gc ∷ []) (free_fits c.requires)) in
    rw (c.rest-gc.ensures, f)
