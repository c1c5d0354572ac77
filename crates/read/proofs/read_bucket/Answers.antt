use Rattle.read.proofs.Plans.{epochs_left, read_stays, read_copies}
use Rattle.read.proofs.Copies.{sources}
use Rattle.state.specs.View.{places_of}
use Rattle.geometry.specs.Geometry.{device}
use mathlib.Core.Path.{sym, ◌∙◌}
use Rattle.read.proofs.read_bucket.Goals as goal

pub answer-requires : goal.answer-requires
answer-requires c = let p = c.requires in
    record { sources = sources p.reads p.lent; buffer_bound = p.reads.range }

pub returns-then-stores_nothing : goal.returns-then-stores_nothing
returns-then-stores_nothing c = let stores-nothing = c.stores_nothing in
    let if1 = c.if-stores_nothing in
    let a = c.args in
    let d = device a.flash.now a.spare.now a.disk.now in
    rw (read_stays a.s.sizes d a.b (places_of a.s) (sym stores-nothing.ensures ∙ if1.true), ← c.touched-new.ensures) c.answer.ensures

pub copy_read-requires : goal.copy_read-requires
copy_read-requires c = let start = c in
    record { lent = start.requires.lent; reads = start.requires.reads; next_le_last_epoch = epochs_left start.args.b (places_of start.args.s) (sym c.stores_nothing.ensures ∙ c.if-stores_nothing.false) }

pub returns : goal.returns
returns c = let stores-nothing = c.stores_nothing in
    let if1 = c.if-stores_nothing in
    let copy_read = c.copy_read in
    let a = c.args in
    let d = device a.flash.now a.spare.now a.disk.now in
    rw (read_copies a.s.sizes d a.b (places_of a.s) (sym stores-nothing.ensures ∙ if1.false)) copy_read.ensures
