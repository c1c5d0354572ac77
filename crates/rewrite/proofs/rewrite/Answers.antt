-- `rewrite::rewrite` meets its contract.
use mathlib.Core.Path.{◌≡◌, sym, ap, ◌∙◌}
use mathlib.Core.List.{[]}
use native.Mathlib.Omega.{arith}
use lib.ListN.{take}
use lib.Seq.{length-take-le}
use Rattle.model.specs.Tests.{first_failed, number_of}
use Rattle.model.proofs.Refusals.{refused_lem}
use Rattle.model.specs.Sizes.{limits, flash_size}
use Rattle.model.specs.Driving.{shown}
use Rattle.rewrite.specs.Rewrite.{first_tests, rewritten}
use Rattle.rewrite.proofs.Output.{printed, first_shown, in_limits, in_room, behind, digits_held, sizes_said, rest-shown}
use Rattle.rewrite.proofs.rewrite.Goals as goal

pub slice_bounds-check_first-end-2 : goal.slice_bounds-check_first-end-2
slice_bounds-check_first-end-2 c = sym (length-take-le c.args.end c.args.text.now c.requires.1)

pub returns-in-Err : goal.returns-in-Err
returns-in-Err c = let a = c.args in
    let refusal = c.in-Err.refusal in
    let show = c.show in
    let shown_is : shown c.number.result 1 [] ≡ rewritten (take a.end a.text.now) =
    rw c.number.ensures (first_shown (take a.end a.text.now) (number_of refusal) c.in-Err.ensures (refused_lem refusal)) in
    let p = printed (shown c.number.result 1 []) a.text.now show.new.out show.result show.ensures.0 show.ensures.1 in
    (p.0, p.1 ∙ shown_is)

pub slice_bounds-sizes_of-end-2 : goal.slice_bounds-sizes_of-end-2
slice_bounds-sizes_of-end-2 c = sym (length-take-le 18 c.args.text.now (omega (arith, c.requires.0)))

pub rewrite_text-requires : goal.rewrite_text-requires
rewrite_text-requires c =
    let l = c.args.text.now in
    let end = c.args.end in
    let p = c.requires in
    let none : first_failed (first_tests (take end l)) ≡ 0 = sym c.in_default.ensures in
    let rest = behind l end c.min-from.result (omega arith) in
    let said = c.sizes_of-z.ensures ∙ sizes_said l end none in
    record {
      z_value = (
        ap limits said ∙ in_limits (take end l) none,
        omega (arith, ap flash_size said, in_room (take end l) none),
        p.2,
        p.3,
      );
      text_len = (p.0, rest.0, p.1, digits_held l end none);
    }

pub returns : goal.returns
returns c =
    let l = c.args.text.now in
    let end = c.args.end in
    let none : first_failed (first_tests (take end l)) ≡ 0 = sym c.in_default.ensures in
    let rest = behind l end c.min-from.result (omega arith) in
    let sizes = c.sizes_of-z in
    let e = c.rewrite_text.ensures in
    (e.0, e.1 ∙ rest-shown l end none sizes.result _ sizes.ensures rest.1)
