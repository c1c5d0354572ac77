-- Pieces walked one after the other: the texts written of them are the output of the whole.
use mathlib.Core.Path.{◌≡◌, refl, sym, ap, ◌∙◌}
use mathlib.Core.List.{List, [], ◌∷◌, ◌++◌, append_assoc, append-nil}
use Prim.Native.Nat.{ℕ}
use Rattle.model.specs.Driving.{output}
use Rattle.input.specs.Ways.{Place, Way, Leg, Ways, pieces, texts, WholeInput}

-- one piece more
pub ways_on : (from mid to : Place) (legs : List Leg) (piece text : List ℕ) → Ways from legs mid → Way mid piece text to
    → Ways from (legs ++ (record { piece = piece; text = text; to = to } ∷ [])) to
unfolding Ways
ways_on from mid to [] piece text here way = (λ rest. way rest ∙ here (piece ++ rest), λ rest. refl)
ways_on from mid to (l ∷ ls) piece text (first, others) way = (first, ways_on l.to mid to ls piece text others way)

-- from a place with the same output
pub ways_from : (from from' to : Place) (legs : List Leg) → ((rest : List ℕ) → from rest ≡ from' rest) → Ways from legs to → Ways from' legs to
unfolding Ways
ways_from from from' to [] same here = λ rest. here rest ∙ same rest
ways_from from from' to (l ∷ ls) same (first, others) = (λ rest. first rest ∙ same (l.piece ++ rest), others)

joined : (from to : Place) (legs : List Leg) → Ways from legs to → Way from (pieces legs) (texts legs) to
unfolding Ways pieces texts
joined from to [] here rest = here rest
joined from to (l ∷ ls) (first, others) rest =
    append_assoc l.text (texts ls) (to rest)
    ∙ (ap (λ (t : List ℕ). l.text ++ t) (joined l.to to ls others rest)
    ∙ (first (pieces ls ++ rest) ∙ ap from (sym (append_assoc l.piece (pieces ls) rest))))

pub whole_input : WholeInput
unfolding WholeInput
whole_input legs to ways = joined output to legs ways [] ∙ ap output (append-nil (pieces legs))
