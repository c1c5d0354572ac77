-- `state_of` meets its contract.
use mathlib.Core.Bool.{true, false}
use mathlib.Core.Path.{◌≡◌, sym, ◌∙◌}
use Rattle.form.specs.Form.{is_form}
use Rattle.form.proofs.state_of.Goals as goal

pub returns-then-not-is_form : goal.returns-then-not-is_form
returns-then-not-is_form c = let none : is_form c.args.bytes.now ≡ false = sym c.is_form.ensures ∙ c.if-not-is_form.true in
    rw none c.unformatted.ensures

pub state_in-requires : goal.state_in-requires
state_in-requires c = sym c.is_form.ensures ∙ c.if-not-is_form.false

pub returns : goal.returns
returns c = let form : is_form c.args.bytes.now ≡ true = sym c.is_form.ensures ∙ c.if-not-is_form.false in
    rw form c.state_in.ensures
