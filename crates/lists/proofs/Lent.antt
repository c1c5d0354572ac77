-- Laws of parts that code lends on: copied over byte by byte, and put back into the whole.
use mathlib.Core.Path.{◌≡◌, refl, ap, ◌∙◌}
use mathlib.Core.List.{List, [], ◌∷◌, ◌++◌}
use Prim.Native.Nat.{ℕ, zero, suc, ◌+◌, ◌-◌, ◌<◌, ◌≤◌}
use native.Mathlib.Nat.{le_of_suc-le-suc, not-suc-le-zero, add-sub_cancel_left}
use native.Mathlib.Numerals.{add-one}
use lib.ListN.{length, take, drop, get_or, set}
use lib.Seq.{drop-drop}
use borrow.Rule.Slice.PartMut.{mid_of, put_mid}
use Rattle.lists.specs.Lists.{splice, part}
use Rattle.lists.proofs.Parts.{length-part-fits}

copy-suc : (source area : List ℕ) (i : ℕ) → i < length source → i < length area
    → set (take i source ++ drop i area) i (get_or source i 0) ≡ take (suc i) source ++ drop (suc i) area
copy-suc [] area i h k = absurd (not-suc-le-zero h)
copy-suc (x ∷ xs) [] i h k = absurd (not-suc-le-zero k)
copy-suc (x ∷ xs) (y ∷ ys) zero h k = refl
copy-suc (x ∷ xs) (y ∷ ys) (suc i) h k = ap (λ (l : List ℕ). x ∷ l) (copy-suc xs ys i (le_of_suc-le-suc h) (le_of_suc-le-suc k))

-- one more byte of a copy
pub copy_more : (source area : List ℕ) (i : ℕ) → i < length source → i < length area
    → set (take i source ++ drop i area) i (get_or source i 0) ≡ take (i + 1) source ++ drop (i + 1) area
copy_more source area i h k = rw (add-one i) (copy-suc source area i h k)

-- what a lent part leaves of the whole, where it came back as the bytes bs
pub put_back : (l : List ℕ) (i n : ℕ) {bs back : List ℕ} → back ≡ bs → length bs ≡ n → put_mid i ((i + n) - i) l back ≡ splice l i bs
unfolding splice
put_back l i n e h = rw (e, add-sub_cancel_left i n, drop-drop n i l, h)

pub lent_part : (l : List ℕ) (i n : ℕ) → mid_of i ((i + n) - i) l ≡ part l i n
unfolding part
lent_part l i n = rw (add-sub_cancel_left i n)

pub lent_length : (l : List ℕ) (i n : ℕ) → i + n ≤ length l → length (mid_of i ((i + n) - i) l) ≡ n
lent_length l i n h = ap length (lent_part l i n) ∙ length-part-fits l i n h
