use mathlib.Core.Path.{refl}
use mathlib.Core.Logic.{inl, inr}
use Rattle.overlay.proofs.lay_out.Goals as goal

pub lay_runs-requires : goal.lay_runs-requires
lay_runs-requires c = let p = c.requires in record { readable = p.readable; list_value = p.list_value; fact = inr p.under_len; window_bound = p.window_bound }

pub returns : goal.returns
returns c = let start = c in c.lay_runs.ensures start.args.under.now start.requires.under_len (inl refl)
