-- `receive::first_fault` meets its contract.
use native.Mathlib.Omega.{arith}
use mathlib.Core.Bool.{Bool, false}
use lib.ListN.{length-replicate}
use Rattle.lists.specs.Lists.{part}
use Rattle.model.proofs.Refusals.{refused_lem}
use Rattle.lines.proofs.Ahead.{line_next}
use Rattle.receive.proofs.Given.{marks_none}
use Rattle.receive.proofs.Walked.{looked_none, looked_more, looked_fault, looked_all}
use Rattle.receive.proofs.first_fault.Goals as goal

pub loop-at-init : goal.loop-at-init
loop-at-init c = (omega arith, omega arith, length-replicate {A = Bool} 16384 false, looked_none c.args.z c.args.text.now (marks_none 16384))

pub returns-in-Err : goal.returns-in-Err
unfolding part
returns-in-Err c =
    let a = c.args in
    let end = c.line_end-end in
    let next = line_next a.text.now c.loop-at.at end.result c.loop-at-test.true end.ensures.lower_bound.2 end.ensures.one_line in
    let looked = c.loop-at.invariant.3 in
    let fault = c.in-Err.ensures.by_index looked.given looked.marked in
    looked_fault a.z a.text.now looked end.result next fault.0 (refused_lem c.in-Err.refusal)

pub loop-at-preserved : goal.loop-at-preserved
unfolding part
loop-at-preserved c =
    let a = c.args in
    let end = c.line_end-end in
    let next = line_next a.text.now c.loop-at.at end.result c.loop-at-test.true end.ensures.lower_bound.2 end.ensures.one_line in
    let looked = c.loop-at.invariant.3 in
    let fault = c.in_default.ensures.by_index looked.given looked.marked in (
      omega arith,
      omega arith,
      c.check_line.ensures.marks_len,
      looked_more a.z a.text.now looked end.result next fault.0 fault.1,
    )

pub returns : goal.returns
returns c = let a = c.args in
    looked_all a.z a.text.now c.loop-at.invariant.3 (omega arith)
