-- `receive::lay_lines` meets its contract.
use mathlib.Core.List.{[]}
use native.Mathlib.Omega.{arith}
use Rattle.lists.specs.Lists.{part}
use Rattle.geometry.specs.Geometry.{device}
use Rattle.lines.proofs.Ahead.{line_next}
use Rattle.receive.proofs.Walked.{laid_none, line_reads_lem, laid_more, laid_all}
use Rattle.receive.proofs.lay_lines.Goals as goal

pub loop-at-init : goal.loop-at-init
loop-at-init c = let a = c.args in
    (omega arith, c.requires.flash_len.0, c.requires.flash_len.1, laid_none a.z a.text.now (device a.flash.now a.spare.now []) c.requires.limits.1)

pub lay_line-requires : goal.lay_line-requires
unfolding part
lay_line-requires c =
    let a = c.args in
    let laid = c.loop-at.invariant in
    let end = c.line_end-end in
    let next = line_next a.text.now c.loop-at.at end.result c.loop-at-test.true end.ensures.lower_bound.2 end.ensures.one_line in
    let chip = device a.flash.now a.spare.now [] in
    record { limits = (c.requires.limits.0, line_reads_lem a.z a.text.now chip laid.3 end.result next); flash_len = (laid.1, laid.2) }

pub loop-at-preserved : goal.loop-at-preserved
unfolding part
loop-at-preserved c =
    let a = c.args in
    let end = c.line_end-end in
    let next = line_next a.text.now c.loop-at.at end.result c.loop-at-test.true end.ensures.lower_bound.2 end.ensures.one_line in
    let chip = device a.flash.now a.spare.now [] in
    let line = c.lay_line.ensures in (
      omega (arith, end.ensures.lower_bound.1),
      line.flash_len_2.0,
      line.flash_len_2.1,
      rw line.spare_after (laid_more a.z a.text.now chip c.loop-at.invariant.3 end.result next),
    )

pub returns : goal.returns
returns c = let a = c.args in
    laid_all a.z a.text.now (device a.flash.now a.spare.now []) c.loop-at.invariant.3 (omega arith)
