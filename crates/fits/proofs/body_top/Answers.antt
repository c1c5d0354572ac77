use mathlib.Core.Path.{refl, sym, ◌∙◌}
use native.Mathlib.Nat.{max-eq_left}
use native.Mathlib.Numerals.{add-one}
use native.Mathlib.Omega.{arith}
use Rattle.lists.specs.Lists.{max_below}
use Rattle.model.specs.Image.{used, epoch_of}
use Rattle.model.proofs.Formed.{epoch_unused}
use Rattle.model.proofs.Limits.{on_chip}
use Rattle.image.specs.Chip.{spare_only}
use Rattle.rules.proofs.Epochs.{some_told, none_told}
use Rattle.fits.proofs.body_top.Goals as goal
use Rattle.fits.proofs.body_top.Goals.{in-Some, in_default}

pub loop-c-init : goal.loop-c-init
unfolding max_below
loop-c-init c = refl

pub head_epoch-requires : goal.head_epoch-requires
head_epoch-requires c = record { chip = c.requires.chip; c_lt_c = on_chip c.args.z c.loop-c.c (omega arith); no_kind = c.requires.headed c.loop-c.c (omega arith) }

pub loop-c-preserved : goal.loop-c-preserved
unfolding max_below
loop-c-preserved c = let z = c.args.z in let d = spare_only c.args.spare.now in let l = c.loop-c in
    elim c.match-head_epoch.branch [
      | in-Some w ↦ let told = some_told (used z d l.c) (epoch_of z d l.c) w.in-Some.epoch (sym w.in-Some.is ∙ c.head_epoch.ensures) in
          w.top-is ∙ (w.max-top.ensures ∙ rw (add-one l.c, l.invariant, told.1))
      | in_default w ↦ let none = none_told (used z d l.c) (epoch_of z d l.c) (sym w.in_default.is ∙ c.head_epoch.ensures) in
          w.top-is ∙ rw (add-one l.c, l.invariant, epoch_unused z d l.c none) (sym (max-eq_left (omega arith)))
    ]
