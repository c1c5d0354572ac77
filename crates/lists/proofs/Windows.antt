-- Windows: a part of a whole, and what a splice into the whole does to it.
use mathlib.Core.Path.{◌≡◌, sym, ap, ◌∙◌}
use mathlib.Core.Logic.{inl, inr}
use mathlib.Core.List.{List}
use Prim.Native.Nat.{ℕ, ◌+◌, ◌≤◌, ◌<◌, max, min}
use native.Mathlib.Nat.{add_assoc}
use native.Mathlib.Omega.{arith}
use lib.ListN.{length, get_or}
use lib.Seq.{ext_get_or}
use Rattle.lists.specs.Lists.{part, splice}
use Rattle.lists.proofs.Parts.{length-splice, length-part-fits, get_d_part, At, outside, inside, at}

-- a part of a part
pub part-part : (l : List ℕ) (a m i n : ℕ) → i + n ≤ m → a + m ≤ length l → part (part l a m) i n ≡ part l (a + i) n
part-part l a m i n h f =
    let lm : length (part l a m) ≡ m = length-part-fits l a m f in
    let ln : length (part (part l a m) i n) ≡ n = length-part-fits (part l a m) i n (rw lm h) in
    ext_get_or 0 (part (part l a m) i n) (part l (a + i) n) (ln ∙ sym (length-part-fits l (a + i) n (omega arith)))
    (λ k hk. let hk' : k < n = rw ln at hk in
    get_d_part (part l a m) i n k hk' ∙ get_d_part l a m (i + k) (omega arith) ∙ ap (λ (x : ℕ). get_or l x 0) (sym (add_assoc a i k)) ∙ sym (get_d_part l (a + i) n k hk'))

-- the window shows n bytes of l from index w on; the bytes bs are spliced into l from index i on
module _ (l : List ℕ) (w n i : ℕ) (bs : List ℕ) (shown : w + n ≤ length l) (fits : i + length bs ≤ length l) where
  shown-after : w + n ≤ length (splice l i bs)
  shown-after = rw (length-splice l i bs fits) shown

  length_window : length (part (splice l i bs) w n) ≡ n
  length_window = length-part-fits (splice l i bs) w n shown-after

  -- they lie apart
  pub window_apart : min (w + n) (i + length bs) ≤ max w i → part (splice l i bs) w n ≡ part l w n
  window_apart h =
      ext_get_or 0 (part (splice l i bs) w n) (part l w n) (length_window ∙ sym (length-part-fits l w n shown))
      (λ x hx. let hx' : x < n = rw length_window at hx in
      get_d_part (splice l i bs) w n x hx' ∙ go x hx' (at l i bs fits (w + x)) ∙ sym (get_d_part l w n x hx'))
    where
      go : (x : ℕ) → x < n → At l i bs (w + x) → get_or (splice l i bs) (w + x) 0 ≡ get_or l (w + x) 0
      go x hx (outside o e) = e
      go x hx (inside k hk ek e) = absurd (omega arith)

  -- they meet in m bytes, from index a of the window and index b of the bytes on
  module _ (a b m : ℕ) (meet : w + a ≡ i + b) (in_window : a + m ≤ n) (in_bytes_lem : b + m ≤ length bs)
      (first : (j : ℕ) → w ≤ j → i ≤ j → w + a ≤ j) (last : (j : ℕ) → j < w + n → j < i + length bs → j < w + a + m) where
    abbrev met : List ℕ
    met = part bs b m

    length_met : length met ≡ m
    length_met = length-part-fits bs b m in_bytes_lem

    met_fits : a + length met ≤ length (part l w n)
    met_fits = rw (length_met, length-part-fits l w n shown) in_window

    pub window_meets : part (splice l i bs) w n ≡ splice (part l w n) a (part bs b m)
    window_meets =
        ext_get_or 0 (part (splice l i bs) w n) (splice (part l w n) a met)
        (length_window ∙ sym (length-splice (part l w n) a met met_fits ∙ length-part-fits l w n shown))
        (λ x hx. let hx' : x < n = rw length_window at hx in
        get_d_part (splice l i bs) w n x hx' ∙ go x hx' (at l i bs fits (w + x)) (at (part l w n) a met met_fits x))
      where
        go : (x : ℕ) → x < n → At l i bs (w + x) → At (part l w n) a met x → get_or (splice l i bs) (w + x) 0 ≡ get_or (splice (part l w n) a met) x 0
        go x hx (outside o e) (outside p f) = e ∙ sym (f ∙ get_d_part l w n x hx)
        go x hx (inside k hk ek e) (inside j hj ej f) =
            e ∙ ap (λ (y : ℕ). get_or bs y 0) (omega arith) ∙ sym (f ∙ get_d_part bs b m j (omega (arith, length_met)))
        go x hx (inside k hk ek e) (outside (inl p) f) = absurd (omega (arith, first (w + x) (omega arith) (omega arith)))
        go x hx (inside k hk ek e) (outside (inr p) f) = absurd (omega (arith, length_met, last (w + x) (omega arith) (omega arith)))
        go x hx (outside (inl o) e) (inside j hj ej f) = absurd (omega arith)
        go x hx (outside (inr o) e) (inside j hj ej f) = absurd (omega (arith, length_met))
