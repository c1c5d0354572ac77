use mathlib.Core.Path.{sym, ◌∙◌}
use Rattle.rules.proofs.Walk.{stands-blank, stands-spoiled, stands-programmed}
use Rattle.spare.proofs.Looked.{seen-blank, seen-spoiled, seen-programmed}
use Rattle.image.specs.Chip.{spare_only}
use Rattle.rules.proofs.page_fits.Goals as goal

pub rules_hold-requires : goal.rules_hold-requires
rules_hold-requires c = let s = c in
    record { chip = s.requires.chip; c_lt_c = s.requires.c_lt_c; k_value = (seen-programmed _ _ (sym c.page_seen-page.ensures ∙ c.in-Programmed.is)).1; head_at = s.requires.head_at }

pub returns-in-Blank : goal.returns-in-Blank
returns-in-Blank c = let a = c.args in
    sym (stands-blank a.z (spare_only a.spare.now) a.c a.k (seen-blank _ (sym c.page_seen-page.ensures ∙ c.in-Blank.is)))

pub returns-in-Spoiled : goal.returns-in-Spoiled
returns-in-Spoiled c = let a = c.args in
    c.is_behind.ensures ∙ sym (stands-spoiled a.z (spare_only a.spare.now) a.c a.k (seen-spoiled _ (sym c.page_seen-page.ensures ∙ c.in-Spoiled.is)))

pub returns-in-Programmed : goal.returns-in-Programmed
returns-in-Programmed c = let a = c.args in
    rw (c.is_behind-in-Programmed.ensures, c.rules_hold.ensures) (sym (stands-programmed a.z (spare_only a.spare.now) a.c a.k (seen-programmed _ _ (sym c.page_seen-page.ensures ∙ c.in-Programmed.is)).0))
