-- `rewrite::check_first` meets its contract.
use mathlib.Core.Path.{sym, ◌∙◌}
use native.Mathlib.Omega.{arith}
use lib.Seq.{length-take-le}
use Rattle.model.specs.Sizes.{flash_size, bucket_size}
use Rattle.model.proofs.Limits.{limits_of}
use Rattle.geometry.proofs.Passed.{products}
use Rattle.rewrite.specs.Rewrite.{sizes_bytes, sizes_of}
use Rattle.rewrite.proofs.First.{eighteen, beyond_limits, within_room, beyond_room, no_sizes}
use Rattle.rewrite.proofs.check_first.Goals as goal

pub returns-then-not-is_sizes_line : goal.returns-then-not-is_sizes_line
returns-then-not-is_sizes_line c = sym (no_sizes c.args.input.now (sym c.is_sizes_line.ensures ∙ c.if-not-is_sizes_line.true))

pub slice_bounds-sizes_of-end : goal.slice_bounds-sizes_of-end
slice_bounds-sizes_of-end c = let h = sym c.is_sizes_line.ensures ∙ c.if-not-is_sizes_line.false in
    sym (length-take-le 18 c.args.input.now (eighteen c.args.input.now h))

pub returns-then-not-limits : goal.returns-then-not-limits
unfolding sizes_of sizes_bytes
returns-then-not-limits c = let h = sym c.is_sizes_line.ensures ∙ c.if-not-is_sizes_line.false in
    sym (beyond_limits c.args.input.now h c.sizes_of-z.result c.sizes_of-z.ensures
    (sym c.limits.ensures ∙ c.if-not-limits.true))

pub overflow_mul-z : goal.overflow_mul-z
overflow_mul-z c = omega (arith, products (limits_of _ (sym c.limits.ensures ∙ c.if-not-limits.false)))

pub overflow_mul-z-2 : goal.overflow_mul-z-2
overflow_mul-z-2 c = omega (arith, products (limits_of _ (sym c.limits.ensures ∙ c.if-not-limits.false)))

pub returns : goal.returns
unfolding sizes_of sizes_bytes flash_size bucket_size
returns c = let h = sym c.is_sizes_line.ensures ∙ c.if-not-is_sizes_line.false in
    sym (within_room c.args.input.now h c.sizes_of-z.result c.sizes_of-z.ensures
    (sym c.limits.ensures ∙ c.if-not-limits.false) (omega arith))

pub returns-then-z-gt-DATA : goal.returns-then-z-gt-DATA
unfolding sizes_of sizes_bytes flash_size bucket_size
returns-then-z-gt-DATA c = let h = sym c.is_sizes_line.ensures ∙ c.if-not-is_sizes_line.false in
    sym (beyond_room c.args.input.now h c.sizes_of-z.result c.sizes_of-z.ensures
    (sym c.limits.ensures ∙ c.if-not-limits.false) (omega arith))
