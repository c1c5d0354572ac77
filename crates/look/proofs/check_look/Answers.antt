use Rattle.model.proofs.Limits.{limits_of}
use Rattle.geometry.proofs.Passed.{products}
use Rattle.model.specs.Tests.{first_failed}
use Rattle.model.specs.Calls.{look_tests}
use Rattle.model.specs.Sizes.{flash_size, bucket_size}
use borrow.Author.Tests.{eq-eqb, ne_eqb}
use native.Mathlib.Omega.{arith}
use mathlib.Core.Path.{sym, ◌∙◌}
use Rattle.look.proofs.check_look.Goals as goal

pub overflow_mul-z : goal.overflow_mul-z
overflow_mul-z c = omega (arith, products (limits_of _ (sym c.limits.ensures ∙ c.if-not-limits.false)))

pub overflow_mul-z-2 : goal.overflow_mul-z-2
overflow_mul-z-2 c = omega (arith, products (limits_of _ (sym c.limits.ensures ∙ c.if-not-limits.false)))

pub returns-then-bucket-z : goal.returns-then-bucket-z
unfolding first_failed look_tests flash_size bucket_size
returns-then-bucket-z c = rw (sym c.limits.ensures ∙ c.if-not-limits.false, eq-eqb _ _ c.if-flash-z.false, c.if-bucket-z.true)

pub returns-else-bucket-z : goal.returns-else-bucket-z
unfolding first_failed look_tests flash_size bucket_size
returns-else-bucket-z c = rw (sym c.limits.ensures ∙ c.if-not-limits.false, eq-eqb _ _ c.if-flash-z.false, c.if-bucket-z.false)

pub returns-then-flash-z : goal.returns-then-flash-z
unfolding first_failed look_tests flash_size bucket_size
returns-then-flash-z c = rw (sym c.limits.ensures ∙ c.if-not-limits.false, ne_eqb _ _ c.if-flash-z.true)

pub returns-then-not-limits : goal.returns-then-not-limits
unfolding first_failed look_tests
returns-then-not-limits c = rw (sym c.limits.ensures ∙ c.if-not-limits.true)
