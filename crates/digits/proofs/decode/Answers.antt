-- `digits::decode` meets its contract.
use mathlib.Core.List.{append-nil}
use mathlib.Core.Path.{◌≡◌, ◌∙◌}
use native.Mathlib.Omega.{arith}
use lib.Seq.{get_or-drop}
use lib.ListN.{length, drop, length-drop, drop_of_length-le}
use Rattle.lists.proofs.Lent.{copy_more}
use Rattle.lists.specs.Lists.{part}
use Rattle.model.specs.Driving.{bytes_of}
use Rattle.model.proofs.Digits.{bytes_length}
use Rattle.digits.proofs.decode.Goals as goal

pub overflow_add-from : goal.overflow_add-from
overflow_add-from c = let bytes = bytes_of c.args.line.now in
    omega (arith, bytes_length c.args.line.now, length-drop c.args.from bytes)

pub byte_said-requires : goal.byte_said-requires
byte_said-requires c = record {
  line_value = c.requires.line_value;
  at_in_bounds = omega (arith, length-drop c.args.from (bytes_of c.args.line.now), c.requires.out_in_bounds);
}

pub loop-i-preserved : goal.loop-i-preserved
loop-i-preserved c = let bytes = bytes_of c.args.line.now in
    rw (c.loop-i.invariant, c.byte_said.ensures, ← get_or-drop c.args.from bytes c.loop-i.i 0)
    (copy_more (drop c.args.from bytes) c.args.out.now c.loop-i.i (omega arith) (omega arith))

pub returns : goal.returns
unfolding part
returns c = let e : c.loop-i.i ≡ length c.args.out.now = omega arith in
    c.loop-i.invariant ∙ rw (drop_of_length-le c.args.out.now {i = c.loop-i.i} (omega arith), append-nil, e)
