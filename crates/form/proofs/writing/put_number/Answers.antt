-- `writing::put_number` meets its contract.
use Prim.Native.Nat.{suc, ◌-◌}
use mathlib.Core.Path.{◌≡◌, refl, sym, ◌∙◌}
use native.Mathlib.Omega.{arith}
use lib.ListN.{length-set}
use Rattle.lists.proofs.Splices.{splice-none}
use Rattle.form.specs.Numbers.{number_bytes}
use Rattle.form.proofs.Written.{put_last}
use Rattle.form.proofs.writing.put_number.Goals as goal

pub loop-i-init : goal.loop-i-init
loop-i-init c = (refl, refl)

pub loop-i-preserved : goal.loop-i-preserved
loop-i-preserved c = let l = c.loop-i in
    let a = c.args in
    let step : suc (l.i - 1) ≡ l.i = omega arith in
    (simp length-set (omega arith), put_last l.out a.at (l.i - 1) l.rest (omega arith) ∙ rw step l.invariant.1)

pub returns : goal.returns
unfolding number_bytes
returns c = let l = c.loop-i in
    let a = c.args in
    let end : l.i ≡ 0 = omega arith in
    sym (splice-none l.out a.at) ∙ rw end at l.invariant.1
