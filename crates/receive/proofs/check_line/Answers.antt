-- `receive::check_line` meets its contract.
use Prim.Native.Nat.{◌<◌}
use mathlib.Core.Bool.{true}
use mathlib.Core.Path.{sym, ◌∙◌}
use native.Mathlib.Omega.{arith}
use lib.ListN.{length, length-set}
use Rattle.geometry.proofs.Passed.{products}
use Rattle.receive.proofs.Given.{marks_next, fault_unread, fault_marked}
use Rattle.receive.proofs.check_line.Goals as goal

pub returns-then-not-line_reads : goal.returns-then-not-line_reads
returns-then-not-line_reads c =
    let a = c.args in
    let unread = sym c.line_reads.ensures ∙ c.if-not-line_reads.true in
    record { by_index = λ given m. (fault_unread a.z given a.line.now unread, tt); marks_len = c.requires.1 }

pub place_of-page-requires : goal.place_of-page-requires
place_of-page-requires c = (c.requires.0, sym c.line_reads.ensures ∙ c.if-not-line_reads.false)

pub bounds-marks-page : goal.bounds-marks-page
bounds-marks-page c = omega (arith, c.place_of-page.ensures.1, (products c.requires.0).pages, c.requires.1)

pub returns-then-marks-page : goal.returns-then-marks-page
returns-then-marks-page c =
    let a = c.args in
    let reads = sym c.line_reads.ensures ∙ c.if-not-line_reads.false in
    let page = c.place_of-page.result in
    let inside : page < length a.marks.now = omega (arith, c.place_of-page.ensures.1, (products c.requires.0).pages, c.requires.1) in record {
      by_index = λ given m. (
        sym (fault_marked a.z given a.line.now a.marks.now page m reads c.place_of-page.ensures.0 inside ∙ rw c.if-marks-page.true),
        tt,
      );
      marks_len = c.requires.1;
    }

pub bounds-marks-page-2 : goal.bounds-marks-page-2
bounds-marks-page-2 c = omega (arith, c.place_of-page.ensures.1, (products c.requires.0).pages, c.requires.1)

pub returns : goal.returns
returns c =
    let a = c.args in
    let reads = sym c.line_reads.ensures ∙ c.if-not-line_reads.false in
    let marks = a.marks.now in
    let page = c.place_of-page.result in
    let inside : page < length marks = omega (arith, c.place_of-page.ensures.1, (products c.requires.0).pages, c.requires.1) in record {
      by_index = λ given m. (
        sym (fault_marked a.z given a.line.now marks page m reads c.place_of-page.ensures.0 inside ∙ rw c.if-marks-page.false),
        rw (← c.place_of-page.ensures.0) (marks_next marks given page inside m),
      );
      marks_len = length-set marks page true ∙ c.requires.1;
    }
