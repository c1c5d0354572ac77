-- The bytes that digits say, one at a time; the digits of bytes, and that they say these bytes.
use mathlib.Core.Path.{◌≡◌, refl, sym, ap, ◌∙◌}
use mathlib.Core.Bool.{Bool, true, false, ◌&&◌, true≢false}
use mathlib.Core.List.{List, [], ◌∷◌, ◌++◌}
use Prim.Native.Nat.{ℕ, zero, suc, ◌+◌, ◌*◌, ◌/◌, ◌%◌, ◌<◌, ◌≤◌}
use native.Mathlib.Omega.{arith}
use native.Mathlib.Decide.{dec_lt}
use borrow.Author.Tests.{ltb-true, lt-ltb, eqb-true, ne_eqb}
use lib.ListN.{length, get_or, get_or-eq_default}
use lib.Dec.{eqb}
use Rattle.lists.specs.Lists.{within, all, all_below}
use Rattle.lists.proofs.Tests.{and_left, and_right, and-true}
use Rattle.lists.proofs.Rows.{all-below}
use Rattle.lists.proofs.Arrays.{all_at}
use Rattle.model.specs.Driving.{digit_value, is_digit, digit, bytes_of, digits_of}
use Rattle.model.specs.Mail.{is_byte}

pub bytes_length : (l : List ℕ) → length (bytes_of l) ≡ length l / 2
unfolding bytes_of
bytes_length [] = omega arith
bytes_length (h ∷ []) = omega arith
bytes_length (h ∷ g ∷ l) = let e = bytes_length l in omega arith

-- byte i is that of the digits 2 i and 2 i + 1
pub byte_at : (l : List ℕ) (i : ℕ) → i < length l / 2
    → get_or (bytes_of l) i 0 ≡ digit_value (get_or l (i * 2) 0) * 16 + digit_value (get_or l (i * 2 + 1) 0)
unfolding bytes_of
byte_at [] i h = absurd (omega arith)
byte_at (a ∷ []) i h = absurd (omega arith)
byte_at (a ∷ b ∷ l) zero h = refl
byte_at (a ∷ b ∷ l) (suc i) h =
    let low : suc i * 2 + 1 ≡ suc (suc (i * 2 + 1)) = omega arith in
    let high : suc i * 2 ≡ suc (suc (i * 2)) = omega arith in
    rw (low, high) (byte_at l i (omega arith))

pub byte_behind : (l : List ℕ) (i : ℕ) → length l / 2 ≤ i → get_or (bytes_of l) i 0 ≡ 0
byte_behind l i h = get_or-eq_default (bytes_of l) 0 (omega (arith, bytes_length l))

pub digit-below : (c : ℕ) → is_digit c ≡ true → digit_value c < 16
unfolding is_digit
digit-below c e = ltb-true (digit_value c) 16 e

pub digit_no_feed : (c : ℕ) → is_digit c ≡ true → eqb c 10 ≡ false
unfolding is_digit digit_value within
digit_no_feed c h = ne_eqb c 10 (λ e. true≢false (sym h ∙ ap is_digit e))

-- what digits say are bytes
pub bytes_said : (l : List ℕ) → all is_digit l ≡ true → all is_byte (bytes_of l) ≡ true
unfolding bytes_of all is_byte
bytes_said [] h = refl
bytes_said (a ∷ []) h = refl
bytes_said (a ∷ b ∷ l) h =
    let rest : is_digit b && all is_digit l ≡ true = and_right (is_digit a) (is_digit b && all is_digit l) h in
    let high : digit_value a < 16 = digit-below a (and_left (is_digit a) (is_digit b && all is_digit l) h) in
    let low : digit_value b < 16 = digit-below b (and_left (is_digit b) (all is_digit l) rest) in
    and-true (lt-ltb (digit_value a * 16 + digit_value b) 256 (omega arith)) (bytes_said l (and_right (is_digit b) (all is_digit l) rest))

pub byte_small : (l : List ℕ) (i : ℕ) → all is_digit l ≡ true → get_or (bytes_of l) i 0 < 256
unfolding is_byte
byte_small l i e = at (dec_lt i (length (bytes_of l)))
  where
    at : Dec (i < length (bytes_of l)) → get_or (bytes_of l) i 0 < 256
    at (yes h) = ltb-true (get_or (bytes_of l) i 0) 256 (all_at is_byte (bytes_of l) (bytes_said l e) i 0 h)
    at (no h) = omega (arith, byte_behind l i (omega (arith, bytes_length l)))

-- ---- digits of bytes

pub digits_append : (vs ws : List ℕ) → digits_of (vs ++ ws) ≡ digits_of vs ++ digits_of ws
unfolding digits_of
digits_append [] ws = refl
digits_append (v ∷ vs) ws = ap (λ (l : List ℕ). digit (v / 16) ∷ digit (v % 16) ∷ l) (digits_append vs ws)

pub digits_length : (vs : List ℕ) → length (digits_of vs) ≡ length vs * 2
unfolding digits_of
digits_length [] = omega arith
digits_length (v ∷ vs) = let e = digits_length vs in omega arith

-- ---- digits of bytes say these bytes

unfoldable has_value : ℕ → Bool
has_value v = eqb (digit_value (digit v)) v

-- of each of the sixteen, by computation
sixteen : all_below 16 has_value ≡ true
unfolding all_below has_value digit_value digit within
sixteen = refl

digit_value_lem : (v : ℕ) → v < 16 → digit_value (digit v) ≡ v
unfolding has_value
digit_value_lem v h = eqb-true (digit_value (digit v)) v (all-below 16 has_value sixteen v h)

digit-digit : (v : ℕ) → v < 16 → is_digit (digit v) ≡ true
unfolding is_digit
digit-digit v h = rw (digit_value_lem v h) (lt-ltb v 16 h)

module _ (v : ℕ) (vs : List ℕ) (h : all is_byte (v ∷ vs) ≡ true) where
  first_byte : v < 256
  unfolding all is_byte
  first_byte = ltb-true v 256 (and_left (is_byte v) (all is_byte vs) h)

  rest_bytes : all is_byte vs ≡ true
  unfolding all
  rest_bytes = and_right (is_byte v) (all is_byte vs) h

pub digits_said : (vs : List ℕ) → all is_byte vs ≡ true → all is_digit (digits_of vs) ≡ true
unfolding digits_of all
digits_said [] h = refl
digits_said (v ∷ vs) h =
    let small : v < 256 = first_byte v vs h in
    rw (digit-digit (v / 16) (omega arith), digit-digit (v % 16) (omega arith)) (digits_said vs (rest_bytes v vs h))

pub digits_back : (vs : List ℕ) → all is_byte vs ≡ true → bytes_of (digits_of vs) ≡ vs
unfolding bytes_of digits_of
digits_back [] h = refl
digits_back (v ∷ vs) h =
    let small : v < 256 = first_byte v vs h in
    let whole : v / 16 * 16 + v % 16 ≡ v = omega arith in
    rw (digit_value_lem (v / 16) (omega arith), digit_value_lem (v % 16) (omega arith), whole, digits_back vs (rest_bytes v vs h))
