use mathlib.Core.Path.{sym, ◌∙◌}
use borrow.Author.Tests.{eq-eqb, ne_eqb}
use Rattle.lists.proofs.Arrays.{empty-length}
use Rattle.fifo.specs.View.{list_of}
use Rattle.copying.specs.Fresh.{room_of}
use Rattle.copying.proofs.room_of.Goals as goal

pub returns-then-used-eq0 : goal.returns-then-used-eq0
unfolding room_of
returns-then-used-eq0 c =
    let s = c.args.s in
    rw (c.head-bucket.ensures, c.used-erase.ensures.0, empty-length (list_of s.gc), empty-length (list_of s.free), eq-eqb _ _ (sym c.used.ensures.0 ∙ c.if-used-eq0.true))

pub returns : goal.returns
unfolding room_of
returns c =
    let free = list_of c.args.s.free in
    rw (c.head-bucket-2.ensures, empty-length free, ne_eqb _ _ (λ z. c.if-used-eq0.false (c.used.ensures.0 ∙ z)))
