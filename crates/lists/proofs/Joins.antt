-- Lists that are joined from the lists of numbers: their lengths, and a list joined from its own parts.
use Prim.Native.Nat.{ℕ, zero, suc, ◌+◌, ◌*◌, ◌≤◌, ◌<◌}
use mathlib.Core.Path.{◌≡◌, refl, sym, ap, ap₂, ◌∙◌}
use mathlib.Core.List.{List, [], ◌∷◌, ◌++◌}
use native.Mathlib.Omega.{arith}
use lib.ListN.{length, take, length-append}
use lib.Seq.{take-add, take_all}
use Rattle.lists.specs.Lists.{row, below, times, concat_map, part}
use Rattle.lists.proofs.Rows.{concat_more}
use Rattle.lists.proofs.Counts.{times_self, times_cons}

-- lists that are all of one length
pub concat_length : {A : Type 0} (f : ℕ → List A) (m : ℕ) (l : List ℕ) → ((x : ℕ) → 1 ≤ times x l → length (f x) ≡ m) → length (concat_map f l) ≡ length l * m
unfolding concat_map
concat_length f m [] h = omega arith
concat_length f m (x ∷ l) h =
    length-append (f x) (concat_map f l)
    ∙ omega (arith, h x (omega (arith, times_cons x x l, times_self x)), concat_length f m l (λ y q. h y (omega (arith, times_cons y x l))))

pub concat_alike : {A : Type 0} (f g : ℕ → List A) (n : ℕ) → ((k : ℕ) → k < n → f k ≡ g k) → concat_map f (below n) ≡ concat_map g (below n)
unfolding below row concat_map
concat_alike f g zero h = refl
concat_alike f g (suc n) h =
    concat_more f (below n) n ∙ (ap₂ (λ k l. k ++ l) (concat_alike f g n (λ k q. h k (omega arith))) (h n (omega arith)) ∙ sym (concat_more g (below n) n))

module _ (l : List ℕ) (m : ℕ) where
  concat_parts : (n : ℕ) → concat_map (λ k. part l (k * m) m) (below n) ≡ take (n * m) l
  unfolding below row concat_map part
  concat_parts zero = let e : 0 * m ≡ 0 = omega arith in rw e
  concat_parts (suc n) =
      let e : n * m + m ≡ suc n * m = omega arith in
      concat_more (λ k. part l (k * m) m) (below n) n
      ∙ (ap (λ r. r ++ part l (n * m) m) (concat_parts n) ∙ (sym (take-add (n * m) m l) ∙ ap (λ k. take k l) e))

  -- n parts of m bytes are the whole list
  pub concat_whole : (n : ℕ) → length l ≡ n * m → concat_map (λ k. part l (k * m) m) (below n) ≡ l
  concat_whole n e = concat_parts n ∙ take_all (n * m) l (omega arith)
