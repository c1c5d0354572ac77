use Rattle.lists.specs.Lists.{empty}
use mathlib.Core.Logic.{inl, inr}
use mathlib.Core.Path.{refl}
use Rattle.overlay.proofs.lay_over.Goals as goal

pub lay_runs-requires : goal.lay_runs-requires
lay_runs-requires c = let p = c.requires in record { readable = p.readable; list_value = p.list_value; fact = inl refl; window_bound = p.window_bound }

pub returns : goal.returns
unfolding empty
returns c = λ base size shows. c.lay_runs.ensures base size (inr (refl, shows))
