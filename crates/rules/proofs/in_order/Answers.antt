use Rattle.rules.proofs.Walk.{begins_told}
use Rattle.image.specs.Chip.{spare_only}
use Rattle.rules.proofs.in_order.Goals as goal

pub returns : goal.returns
returns c = let s = c in let a = s.args in
    rw (begins_told a.z (spare_only a.spare.now) a.c a.k a.head a.f s.requires.c_lt_c.1 s.requires.head_at s.requires.k_value, c.continues_log.ensures)
