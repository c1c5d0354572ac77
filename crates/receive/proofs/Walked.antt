-- A walk over the lines of a text, which looks at them or lays them onto the chip: what the lines ahead still decide.
use Prim.Native.Nat.{ℕ, ◌+◌, ◌-◌, ◌≤◌}
use mathlib.Core.Path.{◌≡◌, refl, sym, ◌∙◌}
use mathlib.Core.Bool.{Bool, true}
use mathlib.Core.List.{List, [], ◌∷◌, map}
use native.Mathlib.Omega.{arith}
use lib.ListN.{length, drop, drop_of_length-le}
use borrow.Author.Tests.{ne_eqb}
use Rattle.lists.specs.Lists.{all, part, empty}
use Rattle.lists.proofs.Tests.{and_left, and_right}
use Rattle.model.specs.declared.Sizes.{Sizes}
use Rattle.model.specs.Sizes.{Device}
use Rattle.model.specs.Stores.{apply, apply_all}
use Rattle.model.specs.Tests.{first_failed}
use Rattle.model.specs.Driving.{lines_from, lines_of}
use Rattle.model.specs.Mail.{line_reads, place_of, line_tests, fault_in, text_fault, line_store}
use Rattle.receive.specs.Given.{Marks, sound_lines}

-- the lines of a text from a place on
abbrev pub lines_at : (text : List ℕ) → (at : ℕ) → List (List ℕ)
lines_at text at = lines_from [] (drop at text)

-- a line's bytes, without its line feed
abbrev pub line_at : (text : List ℕ) → (at end : ℕ) → List ℕ
line_at text at end = part text at (end - at)

abbrev pub NextLine : (text : List ℕ) → (at end : ℕ) → Type 0
NextLine text at end = lines_at text at ≡ line_at text at end ∷ lines_at text (end + 1)

no_lines : (text : List ℕ) (at : ℕ) → length text ≤ at → lines_at text at ≡ []
unfolding lines_from empty
no_lines text at h = rw (drop_of_length-le text {i = at} h)

-- no line before the place is faulty, and their pages are marked
pub record Looked (z : Sizes) (text : List ℕ) (marks : List Bool) (before at : ℕ) : Type 0 where
  pub given : List ℕ
  pub marked : Marks marks given
  pub fault_ahead : text_fault z text ≡ fault_in z given (lines_at text at)
  pub sound_ahead : sound_lines z [] (lines_of text) ≡ before + sound_lines z given (lines_at text at)

module _ (z : Sizes) (text : List ℕ) where
  pub looked_none : {marks : List Bool} → Marks marks [] → Looked z text marks 0 0
  unfolding text_fault lines_of
  looked_none m = record { given = []; marked = m; fault_ahead = refl; sound_ahead = omega arith }

  module _ {marks : List Bool} {before at : ℕ} (looked : Looked z text marks before at) where
    pub looked_all : length text ≤ at → (0 ≡ text_fault z text) × (before ≡ sound_lines z [] (lines_of text))
    unfolding fault_in sound_lines
    looked_all h = let none = no_lines text at h in (sym (looked.fault_ahead ∙ rw none), sym (looked.sound_ahead ∙ rw none (omega arith)))

    module _ (end : ℕ) (next : NextLine text at end) where
      pub looked_more : {marked : List Bool} → 0 ≡ first_failed (line_tests z looked.given (line_at text at end))
          → Marks marked (place_of z (line_at text at end) ∷ looked.given) → Looked z text marked (before + 1) (end + 1)
      unfolding fault_in sound_lines
      looked_more e m =
          record {
            given = place_of z (line_at text at end) ∷ looked.given;
            marked = m;
            fault_ahead = looked.fault_ahead ∙ rw (next, ← e);
            sound_ahead = looked.sound_ahead ∙ rw (next, ← e) (omega arith);
          }

      pub looked_fault : {number : ℕ} → number ≡ first_failed (line_tests z looked.given (line_at text at end)) → (number ≡ 0 → ⊥)
          → (number ≡ text_fault z text) × (before ≡ sound_lines z [] (lines_of text))
      unfolding fault_in sound_lines
      looked_fault {number} e ne =
          let faulty = ne_eqb number 0 ne in
          (sym (looked.fault_ahead ∙ rw (next, ← e, faulty)), sym (looked.sound_ahead ∙ rw (next, ← e, faulty) (omega arith)))

-- the lines before the place are laid: those ahead make of the chip what all of them make of the first one
pub record Laid (z : Sizes) (text : List ℕ) (first chip : Device) (at : ℕ) : Type 0 where
  pub reads : all (line_reads z) (lines_at text at) ≡ true
  pub image_ahead : apply_all z first (map (line_store z) (lines_of text)) ≡ apply_all z chip (map (line_store z) (lines_at text at))

module _ (z : Sizes) (text : List ℕ) (first : Device) where
  pub laid_none : all (line_reads z) (lines_of text) ≡ true → Laid z text first first 0
  unfolding lines_of
  laid_none h = record { reads = h; image_ahead = refl }

  module _ {chip : Device} {at : ℕ} (laid : Laid z text first chip at) where
    pub laid_all : length text ≤ at → chip ≡ apply_all z first (map (line_store z) (lines_of text))
    unfolding apply_all
    laid_all h = sym (laid.image_ahead ∙ rw (no_lines text at h))

    module _ (end : ℕ) (next : NextLine text at end) where
      pub line_reads_lem : line_reads z (line_at text at end) ≡ true
      unfolding all
      line_reads_lem = and_left (line_reads z (line_at text at end)) (all (line_reads z) (lines_at text (end + 1))) (rw next at laid.reads)

      pub laid_more : Laid z text first (apply z chip (line_store z (line_at text at end))) (end + 1)
      unfolding all apply_all
      laid_more = record {
        reads = and_right (line_reads z (line_at text at end)) (all (line_reads z) (lines_at text (end + 1))) (rw next at laid.reads);
        image_ahead = laid.image_ahead ∙ rw next;
      }
