use Rattle.std.proofs.Common.{◌*◌, sym, ap, ◌∙◌}
use Rattle.model.specs.Sizes.{flash_size, disk_size}
use Rattle.remerge.proofs.Inside.{piece_inside}
use Rattle.remerge.proofs.compare.compare_listed.Goals as goal

pub piece-on_disk-requires : goal.piece-on_disk-requires
unfolding disk_size
piece-on_disk-requires c = piece_inside c.args.z.b c.bucket-size.result c.args.b (ap (λ n. c.args.z.b * n) c.bucket-size.ensures.0 ∙ sym c.requires.disk_len) c.requires.b_lt_b

pub piece-on_chip-requires : goal.piece-on_chip-requires
unfolding flash_size
piece-on_chip-requires c =
    piece_inside c.args.z.c c.bucket-size.result c.below-c.result (ap (λ n. c.args.z.c * n) c.bucket-size.ensures.0 ∙ sym c.requires.readable.flash_length) c.below-c.ensures
