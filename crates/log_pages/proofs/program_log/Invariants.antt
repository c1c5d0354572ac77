use Rattle.log_pages.specs.Logs.{page_store}
use Rattle.meter.specs.Run.{run_all}
use Rattle.meter.specs.Lent.{run_of, Stays}
use Rattle.lists.specs.Lists.{row}
use mathlib.Core.Path.{◌≡◌}
use Rattle.log_pages.proofs.program_log.Given as goal

abbrev pub invariant-loop-o : goal.invariant-loop-o
invariant-loop-o l = record {
  stays : Stays l.z l.initial.run l.run;
  made : run_of l.run ≡ run_all l.z (row l.o (page_store l.z l.log l.bytes)) (run_of l.initial.run);
}
