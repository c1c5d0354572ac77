-- What a caller may rely on of a text that was written, and of a buffer that was lent for it.
use mathlib.Core.Path.{◌≡◌, refl, ap, ◌∙◌}
use mathlib.Core.Bool.{Bool, true, false}
use mathlib.Core.List.{List, ◌++◌}
use Prim.Native.Nat.{ℕ, ◌≤◌}
use native.Mathlib.Omega.{arith}
use lib.ListN.{length, take, drop, length-append, length-drop}
use lib.Seq.{take-append_seam}
use lib.Dec.{eqb}
use borrow.Author.Tests.{eqb-true}
use Rattle.model.specs.declared.Sizes.{Sizes}
use Rattle.model.specs.declared.Answer.TheVariants.{Done, Refused}
use Rattle.model.specs.Sizes.{Device}
use Rattle.model.specs.Tests.{first_failed}
use Rattle.model.specs.Mail.{TextWritten, text_of, write_tests, write_text}
use Rattle.send.specs.declared.Written.{Written}
use Rattle.send.specs.Text.{text_written}
use Rattle.send.proofs.Passed.{text_fits}

module _ (z : Sizes) (d : Device) (w : Written) (before after : List ℕ) (e : text_written w after ≡ write_text z d before) where
  -- the number of the first test that fails, or 0
  abbrev number : ℕ
  number = first_failed (write_tests z d (length before))

  taken : eqb number 0 ≡ true → text_written w after ≡ record { answer = Done; length = length (text_of z d); buffer = text_of z d ++ drop (length (text_of z d)) before }
  unfolding write_text
  taken q = e ∙ rw q

  refused : eqb number 0 ≡ false → text_written w after ≡ record { answer = Refused number; length = 0; buffer = before }
  unfolding write_text
  refused q = e ∙ rw q

  -- the text is in the buffer, which keeps its length
  pub written_fits : (w.length ≤ length after) × (length after ≡ length before)
  written_fits = go (eqb number 0) refl
    where
      go : (t : Bool) → eqb number 0 ≡ t → (w.length ≤ length after) × (length after ≡ length before)
      go true q =
          let text = text_of z d in
          let long : w.length ≡ length text = ap (λ (r : TextWritten). r.length) (taken q) in
          let room = text_fits z d (length before) (eqb-true number 0 q) in
          let whole : length after ≡ length (text ++ drop (length text) before) = ap (λ (r : TextWritten). length r.buffer) (taken q) in
          let same : length after ≡ length before = omega (arith, length-append text (drop (length text) before), length-drop (length text) before) in
          (omega arith, same)
      go false q =
          let none : w.length ≡ 0 = ap (λ (r : TextWritten). r.length) (refused q) in
          (omega arith, ap (λ (r : TextWritten). length r.buffer) (refused q))

  -- what was written is the text
  pub written_text : w.answer ≡ Done → take w.length after ≡ text_of z d
  written_text done = go (eqb number 0) refl
    where
      go : (t : Bool) → eqb number 0 ≡ t → take w.length after ≡ text_of z d
      go true q = ap (λ (r : TextWritten). take r.length r.buffer) (taken q) ∙ take-append_seam (text_of z d) (drop (length (text_of z d)) before)
      go false q =
          let other : w.answer ≡ Refused number = ap (λ (r : TextWritten). r.answer) (refused q) in
          let never : ◌≡◌ {A = ℕ} 0 1 = cc in
          absurd (omega arith)
