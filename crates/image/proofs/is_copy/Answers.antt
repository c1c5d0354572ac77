use Rattle.image.specs.Chip.{spare_only}
use Rattle.image.proofs.First.{head-blank}
use Rattle.model.specs.Image.{used, is_copy}
use Rattle.model.specs.Spare.{programmed, spoiled}
use Rattle.image.proofs.is_copy.Goals as goal

pub returns : goal.returns
unfolding is_copy used programmed spoiled
returns c = let a = c.args in
    rw (c.programmed_kind.ensures, c.head_kind-kind.ensures, head-blank a.z (spare_only a.spare.now) a.c c.requires.chip.limits.p_low c.requires.c_value)
