-- An array that keeps a list in its first places: the list without its first, and other places filled.
use Prim.Native.Nat.{ℕ, ◌-◌, ◌≤◌}
use mathlib.Core.Path.{◌≡◌, sym, ap, ◌∙◌}
use mathlib.Core.List.{List, [], append-nil}
use native.Mathlib.Omega.{arith}
use lib.ListN.{length, take, drop, replicate, drop_of_length-le, length-drop, length-take}
use lib.Seq.{length-take-le, paste}
use borrow.Rule.Slice.PartMut.{put_mid, mid_of}
use Rattle.lists.specs.Arrays.{padded}
use Rattle.lists.proofs.Arrays.{pasted_front, drop-take, take-used}

module _ {A : Type 0} where
  -- each of the places takes the next one's element
  pub moved_up : (n k : ℕ) (l : List A) → n ≡ length (take k l) → take (n - 1) (paste l 0 (drop 1 l) (n - 1)) ≡ drop 1 (take k l)
  moved_up n k l used =
      let moved : n - 1 ≤ length (drop 1 l) = simp length-drop (omega (arith, length-take k l)) in
      pasted_front l (drop 1 l) (n - 1) moved ∙ (sym (drop-take 1 n l) ∙ ap (drop 1) (take-used n k l used))

  -- the first n of c places stay, and d fills those behind them
  pub filled_behind : (c n : ℕ) (d : A) (l behind : List A) → length l ≡ c → n ≤ c → behind ≡ replicate (length (mid_of n (length l - n) l)) d
      → put_mid n (length l - n) l behind ≡ padded c d (take n l)
  unfolding padded
  filled_behind c n d l behind places some all =
      let none : drop (length l - n) (drop n l) ≡ [] = drop_of_length-le (drop n l) {i = length l - n} (simp length-drop (omega arith)) in
      let front : length (take n l) ≡ n = length-take-le n l (omega arith) in
      let filled : length (mid_of n (length l - n) l) ≡ c - n = simp (length-take, length-drop) (omega arith) in
      rw (none, append-nil behind, all, front, filled)
