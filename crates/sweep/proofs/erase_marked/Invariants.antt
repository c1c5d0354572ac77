use mathlib.Core.Path.{◌≡◌}
use mathlib.Core.List.{map}
use Rattle.lists.specs.Lists.{below, keep}
use Rattle.model.specs.Stores.{erase}
use Rattle.model.specs.Ledger.{named}
use Rattle.meter.specs.Run.{run_all}
use Rattle.meter.specs.Lent.{run_of, Stays}
use Rattle.image.specs.Chip.{spare_only}
use Rattle.sweep.proofs.erase_marked.Given as goal

abbrev pub invariant-loop-bucket : goal.invariant-loop-bucket
invariant-loop-bucket l = record {
  stays : Stays l.z l.initial.run l.run;
  erased : run_of l.run ≡ run_all l.z (map erase (keep (named l.z (spare_only l.initial.run.spare.now)) (below l.bucket))) (run_of l.initial.run);
}
