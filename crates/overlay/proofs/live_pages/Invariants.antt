use Rattle.overlay.specs.Runs.{EndsBy}
use Rattle.overlay.proofs.live_pages.Given as goal

abbrev pub invariant-loop-page : goal.invariant-loop-page
invariant-loop-page l = EndsBy l.z l.spare l.c l.x l.page
