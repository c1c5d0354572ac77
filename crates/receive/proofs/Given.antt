-- Marks for the pages that were given, and the number of a line by its page's mark.
use Prim.Native.Nat.{ℕ, ◌<◌}
use mathlib.Core.Path.{◌≡◌, refl, ap, ◌∙◌}
use mathlib.Core.Bool.{Bool, true, false, not, ◌||◌}
use mathlib.Core.List.{List, [], ◌∷◌}
use native.Mathlib.Omega.{arith}
use native.Mathlib.Decide.{ℕ_discrete}
use lib.ListN.{length, get_or, set, replicate, length-replicate, length-set, get_or-replicate}
use lib.Seq.{get_or-set_same, get_or-set_other}
use lib.Dec.{eqb}
use borrow.Author.Tests.{eq-eqb, ne_eqb}
use Rattle.std.specs.Prelude.{if◌then◌else◌}
use Rattle.lists.specs.Lists.{member, any}
use Rattle.model.specs.declared.Sizes.{Sizes}
use Rattle.model.specs.Tests.{first_failed}
use Rattle.model.specs.Mail.{line_reads, place_of, line_tests}
use Rattle.receive.specs.Given.{Marks}

pub marks_none : (n : ℕ) → Marks (replicate n false) []
unfolding member any
marks_none n g h = get_or-replicate n g false false (rw (length-replicate {A = Bool} n false) at h)

pub marks_next : (marks : List Bool) (given : List ℕ) (p : ℕ) → p < length marks → Marks marks given → Marks (set marks p true) (p ∷ given)
unfolding member any
marks_next marks given p h m g hg = go (ℕ_discrete g p)
  where
    go : Dec (g ≡ p) → get_or (set marks p true) g false ≡ (eqb g p || member g given)
    go (yes e) = ap (λ (i : ℕ). get_or (set marks p true) i false) e ∙ get_or-set_same marks p true false h ∙ rw (eq-eqb g p e)
    go (no ne) = get_or-set_other marks p g true false ne ∙ m g (omega (arith, length-set marks p true)) ∙ rw (ne_eqb g p ne)

module _ (z : Sizes) (given line : List ℕ) where
  pub fault_unread : line_reads z line ≡ false → 9 ≡ first_failed (line_tests z given line)
  unfolding line_tests first_failed
  fault_unread h = rw h

  pub fault_marked : (marks : List Bool) (page : ℕ) → Marks marks given → line_reads z line ≡ true → page ≡ place_of z line → page < length marks
      → first_failed (line_tests z given line) ≡ (if get_or marks page false then 10 else 0)
  unfolding line_tests first_failed
  fault_marked marks page m h e inside = rw (h, ← e, m page inside) (go (member page given))
    where
      go : (t : Bool) → ◌≡◌ {A = ℕ} (if not t then 0 else 10) (if t then 10 else 0)
      go true = refl
      go false = refl
