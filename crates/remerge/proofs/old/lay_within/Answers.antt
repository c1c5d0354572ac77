use Rattle.std.proofs.Common.{◌*◌, sym, ap, ◌∙◌, arith}
use Rattle.model.specs.Sizes.{flash_size}
use Rattle.remerge.proofs.Inside.{piece_inside}
use Rattle.remerge.proofs.old.lay_within.Goals as goal

pub slice_bounds-lay_out-end : goal.slice_bounds-lay_out-end
unfolding flash_size
slice_bounds-lay_out-end c =
    let inside = piece_inside c.args.z.c c.bucket.result c.args.target (ap (λ n. c.args.z.c * n) c.bucket.ensures.0 ∙ sym c.requires.readable.flash_length) c.requires.target_lt_c.0 in
    omega (arith, inside, c.bucket.ensures.0, c.requires.target_lt_c.1, c.requires.chip_len, c.copy_from_slice.ensures.len)
