use Rattle.holes.proofs.Found.{blank-recoverable}
use Rattle.image.specs.Chip.{spare_only}
use Rattle.model.specs.Ledger.{entries_fit, found_fits, occupied, first_epoch, recoverable}
use Rattle.model.specs.Sizes.{body}
use Rattle.lists.proofs.Tests.{and_false}
use Rattle.lists.specs.Lists.{every, all_below, keep, below, distinct}
use mathlib.Core.List.{map}
use mathlib.Core.Bool as bool
use mathlib.Core.Bool.{Bool, true, false, ◌&&◌}
use mathlib.Core.Path.{◌≡◌, sym, ap, ◌∙◌}
use Rattle.holes.proofs.recoverable.Goals as goal

pub returns-then-is_blank : goal.returns-then-is_blank
returns-then-is_blank c = let o = c in c.body_fits.ensures ∙ blank-recoverable o.args.z (spare_only o.args.spare.now) o.requires.limits.p_low (sym c.is_blank.ensures ∙ c.if-is_blank.true)

pub returns-then-not-entries_fit : goal.returns-then-not-entries_fit
unfolding recoverable every
returns-then-not-entries_fit c = let a = c.args in let d = spare_only a.spare.now in
    let found = all_below (body a.z) (found_fits a.z d) in
    let differ = distinct (map (first_epoch a.z d) (keep (occupied a.z d) (below (body a.z)))) in
    let none : entries_fit a.z d ≡ false = sym c.entries_fit.ensures ∙ c.if-not-entries_fit.true in
    rw none (sym (ap (λ (t : Bool). found && t) (and_false differ) ∙ and_false found))

pub returns-then-not-all_found : goal.returns-then-not-all_found
unfolding recoverable every
returns-then-not-all_found c = rw (sym c.all_found.ensures ∙ c.if-not-all_found.true)

pub found_differ-requires : goal.found_differ-requires
found_differ-requires c = record { chip = c.requires; marks = c.named-marks.ensures; spare_value = sym c.all_found.ensures ∙ c.if-not-all_found.false }

pub returns : goal.returns
unfolding recoverable every
returns c = let a = c.args in let d = spare_only a.spare.now in
    let entries : entries_fit a.z d ≡ true = sym c.entries_fit.ensures ∙ c.if-not-entries_fit.false in
    rw (sym c.all_found.ensures ∙ c.if-not-all_found.false, entries) (c.found_differ.ensures ∙ sym (bool.and-true _))
