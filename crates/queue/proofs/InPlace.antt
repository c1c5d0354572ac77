-- A loop that writes over the array that it reads.
use Prim.Native.Nat.{ℕ, ◌+◌, ◌≤◌}
use mathlib.Core.Path.{◌≡◌, sym, ap, ◌∙◌}
use mathlib.Core.List.{List}
use native.Mathlib.Nat.{add-zero}
use native.Mathlib.Omega.{arith}
use lib.Seq.{drop-drop, drop-set-lt, get_or-drop}
use lib.ListN.{drop, get_or, set}

module _ {A : Type 0} (i : ℕ) (a l : List A) (e : drop i a ≡ drop i l) where
  -- the element that it comes to is still the first array's
  pub unwritten : (d : A) → get_or a i d ≡ get_or l i d
  unwritten d =
      ap (λ (k : ℕ). get_or a k d) (sym (add-zero i))
      ∙ (sym (get_or-drop i a 0 d) ∙ (ap (λ (m : List A). get_or m 0 d) e ∙ (get_or-drop i l 0 d ∙ ap (λ (k : ℕ). get_or l k d) (add-zero i))))

  pub unwritten_more : drop (i + 1) a ≡ drop (i + 1) l
  unwritten_more = sym (drop-drop 1 i a) ∙ (ap (drop 1) e ∙ drop-drop 1 i l)

  -- and so are those behind it, once it has written at or before that place
  pub unwritten_behind : (k : ℕ) (x : A) → k ≤ i → drop (i + 1) (set a k x) ≡ drop (i + 1) l
  unwritten_behind k x h = drop-set-lt (i + 1) a k x (omega arith) ∙ unwritten_more
