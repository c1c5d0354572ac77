-- Lines of digits that are written one after the other, each ended by a line feed, are read as these lines.
use Prim.Native.Nat.{ℕ, ◌≤◌}
use mathlib.Core.Path.{◌≡◌, refl, sym, ap, ◌∙◌}
use mathlib.Core.Bool.{true}
use mathlib.Core.List.{List, [], ◌∷◌, ◌++◌, map, append_assoc, append-nil}
use native.Mathlib.Omega.{arith}
use Rattle.lists.specs.Lists.{all, empty, times, concat_map}
use Rattle.lists.proofs.Tests.{and_left, and_right}
use Rattle.lists.proofs.Counts.{times_self, times_cons}
use Rattle.model.specs.Driving.{is_digit, lines_from, lines_of}
use Rattle.model.proofs.Digits.{digit_no_feed}

line_ended : (held line rest : List ℕ) → all is_digit line ≡ true → lines_from held (line ++ (10 ∷ rest)) ≡ (held ++ line) ∷ lines_from [] rest
unfolding lines_from all
line_ended held [] rest h = ap (λ (l : List ℕ). l ∷ lines_from [] rest) (sym (append-nil held))
line_ended held (c ∷ line) rest h =
    rw (digit_no_feed c (and_left (is_digit c) (all is_digit line) h))
    (line_ended (held ++ (c ∷ [])) line rest (and_right (is_digit c) (all is_digit line) h) ∙ rw (append_assoc held (c ∷ []) line))

pub lines_ended : (line : ℕ → List ℕ) (gs : List ℕ) → ((g : ℕ) → 1 ≤ times g gs → all is_digit (line g) ≡ true)
    → lines_of (concat_map (λ g. line g ++ (10 ∷ [])) gs) ≡ map line gs
unfolding lines_of lines_from concat_map empty
lines_ended line [] h = refl
lines_ended line (g ∷ gs) h =
    let rest = concat_map (λ x. line x ++ (10 ∷ [])) gs in
    rw (append_assoc (line g) (10 ∷ []) rest)
    (line_ended [] (line g) rest (h g (omega (arith, times_cons g g gs, times_self g)))
    ∙ ap (λ ls. line g ∷ ls) (lines_ended line gs (λ x q. h x (omega (arith, times_cons x g gs)))))
