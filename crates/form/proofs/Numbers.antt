-- A number and its bytes are each other's inverse.
use Prim.Native.Nat.{ℕ, zero, suc, ◌+◌, ◌*◌, ◌/◌, ◌%◌, ◌^◌, ◌≤◌, ◌<◌}
use mathlib.Core.Path.{◌≡◌, refl, sym}
use mathlib.Core.Bool.{true}
use mathlib.Core.List.{List, [], ◌∷◌, ◌++◌}
use native.Mathlib.Numerals.{add-one}
use native.Mathlib.Nat.{pow-suc, div-add-mod'}
use native.Mathlib.Omega.{arith}
use borrow.Author.Tests.{ltb-true}
use lib.ListN.{length, take, get_or, length-append}
use lib.Seq.{append_snoc, get_or_at, take-suc}
use Rattle.lists.specs.Lists.{all}
use Rattle.lists.proofs.Tests.{and_left, and_right}
use Rattle.form.specs.Numbers.{number_bytes, number_in, in_bytes}

pub number_length : (w n : ℕ) → length (number_bytes w n) ≡ w
unfolding number_bytes
number_length zero n = refl
number_length (suc w) n = rw (length-append (number_bytes w (n / 256)) (n % 256 ∷ []), number_length w (n / 256)) (add-one w)

pub number_back : (w n : ℕ) (rest : List ℕ) → n < 256 ^ w → number_in w (number_bytes w n ++ rest) ≡ n
unfolding number_bytes number_in
number_back zero n rest h = omega arith
number_back (suc w) n rest h =
    let high = number_bytes w (n / 256) in
    let small : n / 256 < 256 ^ w = omega (arith, pow-suc 256 w) in
    rw (append_snoc high (n % 256) rest, number_back w (n / 256) (n % 256 ∷ rest) small, get_or_at high (n % 256) rest 0 w (number_length w (n / 256)))
    (div-add-mod' n 256)

-- ---- the way back: a list of bytes, each below 256; past its end it reads 0

pub byte_small : (l : List ℕ) → all (in_bytes 1) l ≡ true → (i : ℕ) → get_or l i 0 < 256
unfolding all in_bytes
byte_small [] h i = omega arith
byte_small (x ∷ l) h zero = ltb-true x 256 (and_left (in_bytes 1 x) (all (in_bytes 1) l) h)
byte_small (x ∷ l) h (suc i) = byte_small l (and_right (in_bytes 1 x) (all (in_bytes 1) l) h) i

pub number_small : (w : ℕ) (l : List ℕ) → all (in_bytes 1) l ≡ true → number_in w l < 256 ^ w
unfolding number_in
number_small zero l h = omega arith
number_small (suc w) l h = omega (arith, pow-suc 256 w, number_small w l h, byte_small l h w)

pub number_bytes_lem : (w : ℕ) (l : List ℕ) → w ≤ length l → all (in_bytes 1) l ≡ true → number_bytes w (number_in w l) ≡ take w l
unfolding number_bytes number_in
number_bytes_lem zero l fits h = refl
number_bytes_lem (suc w) l fits h =
    let byte = byte_small l h w in
    let high : (number_in w l * 256 + get_or l w 0) / 256 ≡ number_in w l = omega arith in
    let low : (number_in w l * 256 + get_or l w 0) % 256 ≡ get_or l w 0 = omega arith in
    rw (high, low, number_bytes_lem w l (omega arith) h) (sym (take-suc l w 0 fits))
