-- The tests of a text that is read, what they say once passed, and the reader's two ways to answer.
use Prim.Native.Nat.{ℕ, zero, suc}
use mathlib.Core.Path.{◌≡◌, refl, sym, ◌∙◌}
use mathlib.Core.List.{List, [], ◌∷◌}
use lib.ListN.{length}
use lib.Dec.{eqb, eqb-suc-zero}
use borrow.Author.Tests.{ne_eqb}
use Rattle.std.specs.Prelude.{if◌then◌else◌}
use Rattle.model.specs.declared.Sizes.{Sizes}
use Rattle.model.specs.declared.Answer.TheVariants.{Done, Refused}
use Rattle.model.specs.Sizes.{Device, flash_size, spare_size}
use Rattle.model.specs.Tests.{Test, first_failed}
use Rattle.model.specs.Mail.{chip_tests, text_fault, read_tests, image_of, read_text}
use Rattle.model.proofs.Limits.{Limits}
use Rattle.receive.specs.Given.{text_read}
use Rattle.geometry.proofs.Passed.{chip_passed, chip_first}

-- a text that is not refused, and the chip that it is read onto
pub record Accepted (z : Sizes) (d : Device) (text : List ℕ) : Type 0 where
  pub bounds : Limits z
  pub flash_length : length d.flash ≡ flash_size z
  pub spare_length : length d.spare ≡ spare_size z
  pub sound : text_fault z text ≡ 0

module _ (z : Sizes) (d : Device) (text : List ℕ) where
  abbrev fault_test : List Test
  fault_test = (text_fault z text, eqb (text_fault z text) 0) ∷ []

  -- a fault is the number of its own test
  fault_number : first_failed fault_test ≡ text_fault z text
  unfolding first_failed
  fault_number = go (text_fault z text)
    where
      go : (n : ℕ) → (if eqb n 0 then 0 else n) ≡ n
      go zero = refl
      go (suc n) = rw (eqb-suc-zero n)

  pub fault_last : first_failed (read_tests z d text) ≡ (let n = first_failed (chip_tests z d) in if eqb n 0 then text_fault z text else n)
  unfolding read_tests
  fault_last = chip_first z d fault_test ∙ rw fault_number

  pub accepted : first_failed (read_tests z d text) ≡ 0 → Accepted z d text
  unfolding read_tests
  accepted h =
      let pass = chip_passed z d fault_test h in
      record { bounds = pass.0; flash_length = pass.1; spare_length = pass.2; sound = sym fault_number ∙ pass.3 }

  pub text_refused : {n : ℕ} → n ≡ first_failed (read_tests z d text) → (n ≡ 0 → ⊥) → text_read (Refused n) d ≡ read_text z d text
  unfolding read_text
  text_refused {n} e ne = rw (← e, ne_eqb n 0 ne)

  pub text_taken : first_failed (read_tests z d text) ≡ 0 → text_read Done (image_of z d text) ≡ read_text z d text
  unfolding read_text
  text_taken h = rw h
