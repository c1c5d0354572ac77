use native.Mathlib.Omega.{arith}
use Rattle.rules.proofs.log_end.Goals as goal

pub overflow_add-end : goal.overflow_add-end
overflow_add-end c = omega (arith, c.requires.limits.p_high)
