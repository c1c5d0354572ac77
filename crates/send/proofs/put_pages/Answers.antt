-- `send::put_pages` meets its contract.
use mathlib.Core.List.{[]}
use mathlib.Core.Path.{◌≡◌, refl, sym, ◌∙◌}
use Prim.Native.Nat.{◌*◌}
use native.Mathlib.Omega.{arith}
use Rattle.lists.specs.Lists.{row, below, keep, concat_map}
use Rattle.lists.proofs.Splices.{splice-none}
use Rattle.model.specs.Mail.{is_listed, text_of}
use Rattle.geometry.specs.Geometry.{device}
use Rattle.geometry.proofs.Passed.{products}
use Rattle.send.proofs.Lengths.{tag_inside, line_fits_lem}
use Rattle.send.proofs.Lines.{lines_same, line_laid}
use Rattle.send.proofs.put_pages.Goals.{then-is_listed, else-is_listed}
use Rattle.send.proofs.put_pages.Goals as goal

pub overflow_mul-pages : goal.overflow_mul-pages
overflow_mul-pages c = omega (arith, (products c.requires.limits.0).pages)

pub line_length-line-requires : goal.line_length-line-requires
line_length-line-requires c = c.requires.limits.0

pub loop-page-init : goal.loop-page-init
unfolding below row keep concat_map
loop-page-init c = (refl, sym (splice-none c.args.text.now 0))

pub is_listed-requires : goal.is_listed-requires
is_listed-requires c = rw c.requires.limits.2 (tag_inside c.args.z c.loop-page.page c.loop-page-test.true)

pub put_page-requires : goal.put_page-requires
unfolding is_listed
put_page-requires c = let a = c.args in
    let p = c.requires.limits in
    let l = c.loop-page in
    let fits = line_fits_lem a.z (device a.flash.now a.spare.now []) p.1 p.2 l.page c.loop-page-test.true (sym c.is_listed.ensures ∙ c.if-is_listed.true) in
    (p.0, p.1, p.2, c.loop-page-test.true, omega (arith, l.invariant.0, c.requires.spare_in_bounds, fits))

pub overflow_add-at : goal.overflow_add-at
unfolding is_listed
overflow_add-at c = let a = c.args in
    let p = c.requires.limits in
    let l = c.loop-page in
    let fits = line_fits_lem a.z (device a.flash.now a.spare.now []) p.1 p.2 l.page c.loop-page-test.true (sym c.is_listed.ensures ∙ c.if-is_listed.true) in
    omega (arith, l.invariant.0, c.requires.spare_in_bounds, fits, c.line_length-line.ensures)

pub loop-page-preserved : goal.loop-page-preserved
unfolding is_listed
loop-page-preserved c = let a = c.args in
    let p = c.requires in
    let l = c.loop-page in
    let d = device a.flash.now a.spare.now [] in
    let e = sym c.is_listed.ensures in
    elim c.if-is_listed.branch [
      | then-is_listed w ↦
          let n = line_laid a.z d p.limits.1 p.limits.2 l.page c.loop-page-test.true (e ∙ w.if-is_listed.true) a.text.now p.spare_in_bounds in (
            w.at-is ∙ rw (l.invariant.0, c.line_length-line.ensures) n.0,
            w.text-is ∙ w.put_page.ensures ∙ rw (l.invariant.0, l.invariant.1) n.1,
          )
      | else-is_listed w ↦
          let n = lines_same a.z d l.page (e ∙ w.if-is_listed.false) in (
            w.at-is ∙ rw n l.invariant.0,
            w.text-is ∙ rw n l.invariant.1,
          )
    ]

pub returns : goal.returns
unfolding text_of
returns c = let z = c.args.z in
    let e : c.loop-page.page ≡ z.c * z.p = omega arith in
    record { value = rw e at c.loop-page.invariant.0; text_after = rw e at c.loop-page.invariant.1 }
