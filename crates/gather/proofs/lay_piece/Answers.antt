use Rattle.geometry.proofs.Passed.{products}
use Rattle.model.specs.Sizes.{bucket_size}
use Rattle.lists.proofs.Lent.{lent_part, lent_length}
use native.Mathlib.Omega.{arith}
use Prim.Native.Nat.{◌*◌}
use Rattle.gather.proofs.lay_piece.Goals as goal

pub overflow_mul-size : goal.overflow_mul-size
overflow_mul-size c = omega (arith, (products c.requires.readable.limits).bucket)

pub overflow_mul-at : goal.overflow_mul-at
unfolding bucket_size
overflow_mul-at c = let p = c.requires in omega (arith, p.z_in_bounds)

pub overflow_add-end : goal.overflow_add-end
unfolding bucket_size
overflow_add-end c = let p = c.requires in omega (arith, p.z_in_bounds)

pub slice_bounds-lay_out-end : goal.slice_bounds-lay_out-end
unfolding bucket_size
slice_bounds-lay_out-end c = let p = c.requires in omega (arith, p.z_in_bounds)

pub lay_out-requires : goal.lay_out-requires
unfolding bucket_size
lay_out-requires c = let start = c in let a = start.args in
    record { readable = start.requires.readable; list_value = start.requires.list_value; under_len = lent_length a.area.now (a.index * (a.z.p * a.z.s)) (a.z.p * a.z.s) start.requires.z_in_bounds; window_bound = start.requires.window_bound }

pub returns : goal.returns
unfolding bucket_size
returns c = let start = c in let a = start.args in
    rw (lent_part a.area.now (a.index * (a.z.p * a.z.s)) (a.z.p * a.z.s)) at c.lay_out.ensures
