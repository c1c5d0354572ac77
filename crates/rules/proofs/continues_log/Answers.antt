use mathlib.Core.Path.{sym, ◌∙◌}
use Rattle.rules.proofs.Walk.{continues_first, continues_later}
use Rattle.model.proofs.Tags.{blank_unprogrammed, spoiled_unprogrammed}
use Rattle.spare.proofs.Looked.{seen-blank, seen-spoiled, seen-programmed}
use Rattle.image.specs.Chip.{spare_only}
use Rattle.rules.proofs.continues_log.Goals as goal

pub returns-then-k-eq0 : goal.returns-then-k-eq0
returns-then-k-eq0 c = let a = c.args in sym (continues_first a.z (spare_only a.spare.now) a.c a.k c.if-k-eq0.true)

pub returns-in-Blank : goal.returns-in-Blank
returns-in-Blank c = let a = c.args in
    rw (continues_later a.z (spare_only a.spare.now) a.c a.k c.if-k-eq0.false, blank_unprogrammed _ (seen-blank _ (sym c.page_seen-page.ensures ∙ c.in-Blank.is)))

pub returns-in-Spoiled : goal.returns-in-Spoiled
returns-in-Spoiled c = let a = c.args in
    rw (continues_later a.z (spare_only a.spare.now) a.c a.k c.if-k-eq0.false, spoiled_unprogrammed _ (seen-spoiled _ (sym c.page_seen-page.ensures ∙ c.in-Spoiled.is)))

pub returns-in-Programmed : goal.returns-in-Programmed
returns-in-Programmed c = let s = c in let a = s.args in
    let says = seen-programmed _ _ (sym c.page_seen-page.ensures ∙ c.in-Programmed.is) in
    rw (continues_later a.z (spare_only a.spare.now) a.c a.k c.if-k-eq0.false, says.0) (c.continues.ensures _ _ says.1 s.requires.k_value)
