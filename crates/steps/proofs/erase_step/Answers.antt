use Rattle.steps.specs.Turns.{after}
use Rattle.state.proofs.Queued.{head-below}
use Rattle.state.proofs.Bounds.{freed_bounded}
use Rattle.state.specs.View.{places_of}
use Rattle.fifo.specs.View.{list_of}
use Rattle.meter.specs.Run.{run_all}
use Rattle.meter.proofs.Stays.{stays_here}
use Rattle.model.specs.Sizes.{body}
use Rattle.model.specs.Steps.{erase_step, nothing}
use Rattle.lists.proofs.Arrays.{empty-length}
use Rattle.lists.specs.Lists.{empty}
use borrow.Author.Tests.{eq-eqb, ne_eqb}
use mathlib.Core.Bool.{false}
use mathlib.Core.Path.{◌≡◌, sym, ◌∙◌}
use Rattle.steps.proofs.erase_step.Goals as goal

pub returns-then-n-eq0 : goal.returns-then-n-eq0
unfolding after erase_step nothing run_all
returns-then-n-eq0 c = let gc = list_of c.args.s.gc in
    record { after = rw (empty-length gc, eq-eqb _ _ (sym c.used-n.ensures.0 ∙ c.if-n-eq0.true)); stays = stays_here _ _ c.requires.lent }

pub erase_noted-requires : goal.erase_noted-requires
erase_noted-requires c = let start = c in
    let s = start.args.s in
    let some : empty (list_of s.gc) ≡ false = empty-length (list_of s.gc) ∙ ne_eqb _ _ (λ z. c.if-n-eq0.false (c.used-n.ensures.0 ∙ z)) in
    record { lent = start.requires.lent; limits = (start.requires.orderly.limits, rw c.head-head.ensures (head-below (body s.sizes) (list_of s.gc) start.requires.orderly.gc some)) }

pub freed-requires : goal.freed-requires
freed-requires c = let start = c in
    let if1 = c.if-n-eq0 in
    let used = c.used-n in
    let s = start.args.s in
    freed_bounded (places_of s) start.requires.orderly.bounded (empty-length (list_of s.gc) ∙ ne_eqb _ _ (λ z. if1.false (used.ensures.0 ∙ z)))

pub returns : goal.returns
unfolding after erase_step run_all
returns c = let start = c in
    let if1 = c.if-n-eq0 in
    let used = c.used-n in
    let head = c.head-head in
    let gc = list_of start.args.s.gc in
    let some : empty gc ≡ false = empty-length gc ∙ ne_eqb _ _ (λ z. if1.false (used.ensures.0 ∙ z)) in
    record { after = rw (c.erase_noted.ensures.after, c.freed.ensures, head.ensures, some); stays = c.erase_noted.ensures.stays }
