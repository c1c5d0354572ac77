-- `workbench::bench::Bench::start` meets its contract.
use mathlib.Core.Path.{sym}
use mathlib.Core.Bool.{true≢false}
use Rattle.drive.specs.Recorder.{fresh}
use Rattle.workbench.proofs.bench.Bench.start.Goals as goal

pub returns : goal.returns
unfolding fresh
returns c = rw c.unformatted-recorder.ensures (λ e. absurd (true≢false (sym e)))
