-- Recovery behind its erases: how far it comes.
use Rattle.std.specs.Prelude.{ℕ}
use Rattle.model.specs.declared.Sizes.{Sizes}
use Rattle.model.specs.Recover.{rebuilt}
use Rattle.meter.specs.Run.{Run, run_all}
use Rattle.steps.specs.Turns.{Progress}

-- once the stores were asked for, on the chip and disk that the erases leave
unfoldable pub rebuilding : Sizes → ℕ → Run → Progress
rebuilding z next r = let p = rebuilt z r.device next in record { run = run_all z p.stores r; state = p.state }
