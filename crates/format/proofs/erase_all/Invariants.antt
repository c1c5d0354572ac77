use mathlib.Core.Path.{◌≡◌}
use mathlib.Core.List.{map}
use Rattle.lists.specs.Lists.{below}
use Rattle.model.specs.Stores.{erase}
use Rattle.meter.specs.Run.{run_all}
use Rattle.meter.specs.Lent.{run_of, Stays}
use Rattle.format.proofs.erase_all.Given as goal

abbrev pub invariant-loop-bucket : goal.invariant-loop-bucket
invariant-loop-bucket l = record {
  stays : Stays l.z l.initial.run l.run;
  erased : run_of l.run ≡ run_all l.z (map erase (below l.bucket)) (run_of l.initial.run);
}
