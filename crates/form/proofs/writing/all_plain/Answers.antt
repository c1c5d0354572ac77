-- `writing::all_plain` meets its contract.
use mathlib.Core.Path.{refl, sym, ◌∙◌}
use native.Mathlib.Omega.{arith}
use native.Mathlib.Numerals.{add-one}
use lib.ListN.{drop_of_length-le}
use lib.Seq.{drop-cons}
use Rattle.lists.specs.Lists.{all}
use Rattle.queue.specs.View.{no_entry}
use Rattle.form.proofs.writing.all_plain.Goals as goal

pub loop-e-init : goal.loop-e-init
loop-e-init c = refl

pub returns-then-not-is_plain : goal.returns-then-not-is_plain
unfolding all
returns-then-not-is_plain c = let entries = c.args.entries.now in let i = c.loop-e.e-index in
    sym (c.loop-e.invariant ∙ rw (drop-cons entries i no_entry (omega arith), sym c.is_plain.ensures ∙ c.if-not-is_plain.true))

pub loop-e-preserved : goal.loop-e-preserved
unfolding all
loop-e-preserved c = let entries = c.args.entries.now in let i = c.loop-e.e-index in
    c.loop-e.invariant ∙ rw (add-one i, drop-cons entries i no_entry (omega arith), sym c.is_plain.ensures ∙ c.if-not-is_plain.false)

pub returns : goal.returns
unfolding all
returns c = sym (c.loop-e.invariant ∙ rw (drop_of_length-le c.args.entries.now {i = c.loop-e.e-index} (omega arith)))
