use Rattle.overlay.proofs.Found.{listed}
use Rattle.image.proofs.First.{formed_bucket}
use Rattle.image.specs.Chip.{spare_only}
use Rattle.model.proofs.Limits.{on_chip}
use Rattle.model.specs.Sizes.{body}
use native.Mathlib.Omega.{arith}
use Rattle.overlay.proofs.pages_used_at.Goals as goal

pub overflow_cast-list : goal.overflow_cast-list
overflow_cast-list c = omega (arith, c.shared_slice_known-3-1.given c.args.j)

pub pages_used-requires : goal.pages_used-requires
pages_used-requires c = let start = c in let p = start.requires in let a = start.args in
    let inside = listed (body a.z) a.list.now p.list_value.0 a.j p.list_value.1 in
    record { chip = record { limits = p.tagged.limits; spare_length = p.tagged.spare_length }; c_lt_c = on_chip a.z _ inside; c_value = formed_bucket a.z (spare_only a.spare.now) p.tagged.body_formed _ inside }
