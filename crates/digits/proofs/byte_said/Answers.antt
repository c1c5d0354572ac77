-- `digits::byte_said` meets its contract.
use native.Mathlib.Omega.{arith}
use Prim.Native.Nat.{ℕ, ◌+◌, ◌*◌, ◌<◌}
use mathlib.Core.List.{List}
use lib.ListN.{length}
use Rattle.lists.proofs.Arrays.{all_at}
use Rattle.model.proofs.Digits.{bytes_length, byte_at}
use Rattle.model.specs.Driving.{is_digit, bytes_of}
use Rattle.digits.proofs.byte_said.Goals as goal

-- both digits of the byte stand within the line
inside : (line : List ℕ) (at : ℕ) → at < length (bytes_of line) → at * 2 + 1 < length line
inside line at h = omega (arith, bytes_length line)

pub overflow_mul-at : goal.overflow_mul-at
overflow_mul-at c = omega (arith, inside c.args.line.now c.args.at c.requires.at_in_bounds)

pub bounds-line-at : goal.bounds-line-at
bounds-line-at c = omega (arith, inside c.args.line.now c.args.at c.requires.at_in_bounds)

pub value_of-high-requires : goal.value_of-high-requires
value_of-high-requires c =
    all_at is_digit c.args.line.now c.requires.line_value (c.args.at * 2) 0 (omega (arith, inside c.args.line.now c.args.at c.requires.at_in_bounds))

pub overflow_mul-at-2 : goal.overflow_mul-at-2
overflow_mul-at-2 c = omega (arith, inside c.args.line.now c.args.at c.requires.at_in_bounds)

pub overflow_add-at : goal.overflow_add-at
overflow_add-at c = omega (arith, inside c.args.line.now c.args.at c.requires.at_in_bounds)

pub bounds-line-at-2 : goal.bounds-line-at-2
bounds-line-at-2 c = inside c.args.line.now c.args.at c.requires.at_in_bounds

pub value_of-low-requires : goal.value_of-low-requires
value_of-low-requires c = all_at is_digit c.args.line.now c.requires.line_value (c.args.at * 2 + 1) 0 (inside c.args.line.now c.args.at c.requires.at_in_bounds)

pub returns : goal.returns
returns c = omega (
  arith,
  c.value_of-high.ensures.0,
  c.value_of-low.ensures.0,
  byte_at c.args.line.now c.args.at (omega (arith, inside c.args.line.now c.args.at c.requires.at_in_bounds)),
)
