-- `text::put_bytes` meets its contract.
use mathlib.Core.Path.{sym, ◌∙◌}
use native.Mathlib.Omega.{arith}
use lib.Seq.{take_all}
use Rattle.lists.proofs.Splices.{splice-none}
use Rattle.model.specs.Driving.{digits_of}
use Rattle.text.proofs.Digits.{put_more}
use Rattle.text.proofs.put_bytes.Goals as goal

pub loop-i-init : goal.loop-i-init
unfolding digits_of
loop-i-init c = sym (splice-none c.args.out.now c.args.at)

pub loop-i-preserved : goal.loop-i-preserved
loop-i-preserved c = let a = c.args in
    c.put_byte.ensures ∙ rw c.loop-i.invariant (put_more a.out.now a.at a.bytes.now c.loop-i.i (omega arith) (omega (arith, c.requires)))

pub returns : goal.returns
returns c = c.loop-i.invariant ∙ rw (take_all c.loop-i.i c.args.bytes.now (omega arith))
