-- State to bytes and bytes to state are each other's inverse; how long a form may be.
use Rattle.std.specs.Prelude.{ℕ, ◌≤◌, ◌≡◌, true, List, length}
use Rattle.lists.specs.Lists.{all}
use Rattle.model.specs.State.{State}
use Rattle.form.specs.Numbers.{in_bytes}
use Rattle.form.specs.Form.{form_of, has_form, typed, is_form, state_in}

-- the form of a state that has one is read as that state
abbrev pub ReadsBack : Type 0
ReadsBack = (s : State) → has_form s ≡ true → typed s ≡ true → (is_form (form_of s) ≡ true) × (state_in (form_of s) ≡ s)

-- a state that is read from a form has one, the very bytes
abbrev pub WritesBack : Type 0
WritesBack = (l : List ℕ) → all (in_bytes 1) l ≡ true → is_form l ≡ true → (has_form (state_in l) ≡ true) × (typed (state_in l) ≡ true) × (form_of (state_in l) ≡ l)

-- no form is longer than `LONGEST`: a buffer of so many bytes has room for each
abbrev pub NeverLonger : Type 0
NeverLonger = (s : State) → has_form s ≡ true → length (form_of s) ≤ 1113
