-- `state_bytes` meets its contract.
use mathlib.Core.Bool.{true, false}
use mathlib.Core.Path.{◌≡◌, sym, ap, ◌∙◌}
use native.Mathlib.Omega.{arith}
use borrow.Author.Tests.{le-leb, lt-leb}
use lib.Dec.{leb}
use lib.ListN.{length}
use Rattle.state.specs.View.{view_of}
use Rattle.form.specs.Form.{form_of, has_form}
use Rattle.std.proofs.Common.{Some}
use Rattle.form.proofs.state_bytes.Goals as goal

pub returns-then-not-has_form : goal.returns-then-not-has_form
returns-then-not-has_form c = let none : has_form (view_of c.args.s) ≡ false = sym c.has_form.ensures.value ∙ c.if-not-has_form.true in
    record { value = rw none; out_after = rw none; upper_bound = omega arith }

pub returns-then-out-size : goal.returns-then-out-size
returns-then-out-size c = let s = c.args.s in
    let had = c.has_form.ensures in
    let has = c.if-not-has_form.false in
    let seen = had.s_value has in
    let form : has_form (view_of s) ≡ true = sym had.value ∙ has in
    let size : length (form_of (view_of s)) ≡ c.form_size-size.result = ap (λ v. length (form_of v)) seen ∙ sym c.form_size-size.ensures in
    let short : leb (length (form_of (view_of s))) (length c.args.out.now) ≡ false = rw size (lt-leb _ _ c.if-out-size.true) in
    record { value = rw (form, short); out_after = rw (form, short); upper_bound = omega arith }

pub put_state-requires : goal.put_state-requires
put_state-requires c = rw (← c.form_size-size.ensures) (omega arith)

pub returns : goal.returns
returns c = let s = c.args.s in
    let had = c.has_form.ensures in
    let has = c.if-not-has_form.false in
    let seen = had.s_value has in
    let form : has_form (view_of s) ≡ true = sym had.value ∙ has in
    let size : length (form_of (view_of s)) ≡ c.form_size-size.result = ap (λ v. length (form_of v)) seen ∙ sym c.form_size-size.ensures in
    let room : leb (length (form_of (view_of s))) (length c.args.out.now) ≡ true = rw size (le-leb _ _ c.if-out-size.false) in
    record { value = rw (form, room) (ap Some (sym size)); out_after = rw (form, room, seen) c.put_state.ensures; upper_bound = omega arith }
