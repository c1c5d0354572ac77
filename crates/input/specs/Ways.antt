-- The program's way through its input, piece by piece, and the text that it writes on the way.
use Rattle.std.specs.Prelude.{ℕ, ◌≡◌, List, [], ◌∷◌, ◌++◌, length, take}
use Rattle.model.specs.Driving.{output}

-- where the program stands: the whole output from there on, for each rest of the input
abbrev pub Place : Type 0
Place = List ℕ → List ℕ

-- from place to place by way of these bytes: the text written, and then all that is to come, are what was to come
abbrev pub Way : (from : Place) → (bytes text : List ℕ) → (to : Place) → Type 0
Way from bytes text to = (rest : List ℕ) → text ++ to rest ≡ from (bytes ++ rest)

-- a way on which so many characters were written
pub record Walked (from : Place) (bytes : List ℕ) (written : ℕ) (to : Place) : Type 0 where
  pub text : List ℕ
  pub counted : length text ≡ written
  pub way : Way from bytes text to

-- nothing behind a hole: whatever follows the bytes, the characters written are the first of those that were to come
pub record Begun (from : Place) (bytes : List ℕ) (written : ℕ) : Type 0 where
  pub text : List ℕ
  pub counted : length text ≡ written
  pub first : (rest : List ℕ) → take written (from (bytes ++ rest)) ≡ text

-- the end of the input: all that was to come is written, so many characters, and nothing is to come
pub record Closed (from : Place) (written : ℕ) (to : Place) : Type 0 where
  pub counted : length (from []) ≡ written
  pub nothing : to [] ≡ []

-- ---- pieces, one after the other

-- a piece, the text written of it, and where it led
pub record Leg : Type 0 where
  pub piece : List ℕ
  pub text : List ℕ
  pub to : Place

-- each piece is walked from where the one before it led
unfoldable pub Ways : (from : Place) → List Leg → (to : Place) → Type 0
Ways from [] to = (rest : List ℕ) → to rest ≡ from rest
Ways from (l ∷ ls) to = Way from l.piece l.text l.to × Ways l.to ls to

unfoldable pub pieces : List Leg → List ℕ
pieces [] = []
pieces (l ∷ ls) = l.piece ++ pieces ls

unfoldable pub texts : List Leg → List ℕ
texts [] = []
texts (l ∷ ls) = l.text ++ texts ls

-- "Whole input, then whole output": whatever the pieces, the texts written of them and then what is to come at the end are the output of the whole
unfoldable pub WholeInput : Type 0
WholeInput = (legs : List Leg) (to : Place) → Ways output legs to → texts legs ++ to [] ≡ output (pieces legs)
