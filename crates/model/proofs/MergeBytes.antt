-- Merged bytes, byte by byte: the last complete log over a byte, or the base's.
use Prim.Native.Nat.{ℕ, zero, suc, ◌+◌, ◌-◌, ◌≤◌, ◌<◌}
use mathlib.Core.Path.{◌≡◌, refl, ap, ◌∙◌}
use mathlib.Core.Logic.{◌⊎◌, inl, inr}
use mathlib.Core.Bool.{Bool, true, false, ◌&&◌}
use mathlib.Core.Option.{Option, none, some}
use mathlib.Core.List.{List, [], ◌∷◌, Memᴰ}
use native.Mathlib.Omega.{arith}
use native.Mathlib.Nat.{mul-le-mul_right}
use lib.ListN.{length, get_or}
use lib.Dec.{leb, ltb}
use borrow.Author.Tests.{le-leb, lt-leb, lt-ltb, le-ltb}
use Rattle.std.specs.Prelude.{if◌then◌else◌}
use Rattle.lists.specs.Lists.{splice}
use Rattle.lists.proofs.Parts.{At, at, outside, inside, length-splice, length-part-fits}
use Rattle.model.specs.declared.Sizes.{Sizes}
use Rattle.model.specs.Sizes.{Device, bucket_size, body}
use Rattle.model.specs.Stores.{tag_of, bucket_bytes}
use Rattle.model.specs.Spare.{offset, extent}
use Rattle.model.specs.Image.{ends_log, log_bytes, merge_to, merge}
use Rattle.model.specs.Recover.{merge_all}
use Rattle.model.proofs.Limits.{on_chip}
use Rattle.model.proofs.Safe.{covers, found}
use Rattle.model.proofs.Frames.{Lengths, length_bucket}
use Rattle.model.proofs.Formed.{Formed, page_fields, ends_programmed, log_inside}

unfoldable pub or_else : Option ℕ → ℕ → ℕ
or_else none x = x
or_else (some v) x = v

module _ (z : Sizes) (d : Device) (s_pos : 1 ≤ z.s) (lens : Lengths z d) (formed : Formed z d) where
  module _ (c : ℕ) (hc : c < body z) where
    pub length_log : (k : ℕ) → k < z.p → ends_log z d c k ≡ true → length (log_bytes z d c k) ≡ extent (tag_of z d c k)
    unfolding log_bytes bucket_size
    length_log k hk h = length-part-fits (bucket_bytes z d c) _ (extent (tag_of z d c k))
        (rw (length_bucket z d lens c (on_chip z c hc)) (omega (arith, log_inside z d c (formed.buckets_fit c hc) s_pos k hk h, mul-le-mul_right z.s hk)))

    -- a complete log lies inside its back-end bucket
    log_fits_lem : (l : List ℕ) → length l ≡ bucket_size z → (k : ℕ) → k < z.p → ends_log z d c k ≡ true → offset (tag_of z d c k) + length (log_bytes z d c k) ≤ length l
    log_fits_lem l e k hk h = rw (length_log k hk h, e)
        (page_fields z d c (formed.buckets_fit c hc) k hk (ends_programmed z d c (formed.buckets_fit c hc) k h)).bytes_inside

    module _ (base : List ℕ) (base_length : length base ≡ bucket_size z) where
      pub length-merge_to : (n : ℕ) → n ≤ z.p → length (merge_to z d c base n) ≡ bucket_size z
      unfolding merge_to
      length-merge_to zero h = base_length
      length-merge_to (suc k) h = go (ends_log z d c k) refl (length-merge_to k (omega arith))
        where
          go : (t : Bool) → ends_log z d c k ≡ t → length (merge_to z d c base k) ≡ bucket_size z
              → length (if t then splice (merge_to z d c base k) (offset (tag_of z d c k)) (log_bytes z d c k) else merge_to z d c base k) ≡ bucket_size z
          go false e r = r
          go true e r = length-splice (merge_to z d c base k) (offset (tag_of z d c k)) (log_bytes z d c k) (log_fits_lem (merge_to z d c base k) r k h e) ∙ r

      get_d_merge_to : (n : ℕ) → n ≤ z.p → (i : ℕ) → get_or (merge_to z d c base n) i 0 ≡ or_else (found z d c n i) (get_or base i 0)
      unfolding merge_to found covers or_else
      get_d_merge_to zero h i = refl
      get_d_merge_to (suc k) h i = go (ends_log z d c k) refl (get_d_merge_to k (omega arith) i)
        where
          low : ℕ
          low = offset (tag_of z d c k)

          log : List ℕ
          log = log_bytes z d c k

          go : (t : Bool) → ends_log z d c k ≡ t → get_or (merge_to z d c base k) i 0 ≡ or_else (found z d c k i) (get_or base i 0)
              → get_or (if t then splice (merge_to z d c base k) low log else merge_to z d c base k) i 0
              ≡ or_else (if t && (leb low i && ltb i (low + extent (tag_of z d c k))) then some (get_or log (i - low) 0) else found z d c k i) (get_or base i 0)
          go false e r = r
          go true e r = pick (at (merge_to z d c base k) low log (log_fits_lem (merge_to z d c base k) (length-merge_to k (omega arith)) k h e) i)
            where
              pick : At (merge_to z d c base k) low log i → get_or (splice (merge_to z d c base k) low log) i 0
                  ≡ or_else (if leb low i && ltb i (low + extent (tag_of z d c k)) then some (get_or log (i - low) 0) else found z d c k i) (get_or base i 0)
              pick (outside (inl u) q) = rw (lt-leb low i u) (q ∙ r)
              pick (outside (inr u) q) = rw (le-leb low i (omega arith), le-ltb i (low + extent (tag_of z d c k)) (omega (arith, length_log k h e))) (q ∙ r)
              pick (inside j hj ej q) =
                  rw (le-leb low i (omega arith), lt-ltb i (low + extent (tag_of z d c k)) (omega (arith, length_log k h e)))
                  (q ∙ ap (λ (x : ℕ). get_or log x 0) (omega arith))

      pub length-merge : length (merge z d c base) ≡ bucket_size z
      unfolding merge
      length-merge = length-merge_to z.p (omega arith)

      pub get_d_merge : (i : ℕ) → get_or (merge z d c base) i 0 ≡ or_else (found z d c z.p i) (get_or base i 0)
      unfolding merge
      get_d_merge i = get_d_merge_to z.p (omega arith) i

  -- ---- the logs of several buckets, one after the other

  pub length-merge_all : (ws : List ℕ) → ((w : ℕ) → Memᴰ w ws → w < body z) → (base : List ℕ) → length base ≡ bucket_size z
      → length (merge_all z d ws base) ≡ bucket_size z
  unfolding merge_all
  length-merge_all [] below base h = h
  length-merge_all (w ∷ ws) below base h = length-merge_all ws (λ v m. below v (Memᴰ.tail m)) (merge z d w base)
      (length-merge w (below w (Memᴰ.head refl)) base h)

  -- none of the buckets has byte i
  abbrev pub Silent : List ℕ → ℕ → Type 0
  Silent ws i = (w : ℕ) → Memᴰ w ws → found z d w z.p i ≡ none

  pub merge_all_silent : (ws : List ℕ) → ((w : ℕ) → Memᴰ w ws → w < body z) → (base : List ℕ) → length base ≡ bucket_size z → (i : ℕ) → Silent ws i
      → get_or (merge_all z d ws base) i 0 ≡ get_or base i 0
  unfolding merge_all or_else
  merge_all_silent [] below base h i quiet = refl
  merge_all_silent (w ∷ ws) below base h i quiet =
      let hw = below w (Memᴰ.head refl) in
      merge_all_silent ws (λ v m. below v (Memᴰ.tail m)) (merge z d w base) (length-merge w hw base h) i (λ v m. quiet v (Memᴰ.tail m))
      ∙ get_d_merge w hw base h i
      ∙ ap (λ (o : Option ℕ). or_else o (get_or base i 0)) (quiet w (Memᴰ.head refl))

  -- x is what the last bucket of the list that has byte i gives it
  abbrev pub Wins : ℕ → ℕ → List ℕ → Type 0
  Wins i x [] = ⊥
  Wins i x (w ∷ ws) = ((found z d w z.p i ≡ some x) × Silent ws i) ⊎ Wins i x ws

  pub merge_all_wins : (ws : List ℕ) → ((w : ℕ) → Memᴰ w ws → w < body z) → (base : List ℕ) → length base ≡ bucket_size z → (i x : ℕ) → Wins i x ws
      → get_or (merge_all z d ws base) i 0 ≡ x
  unfolding merge_all or_else
  merge_all_wins [] below base h i x r = absurd r
  merge_all_wins (w ∷ ws) below base h i x (inl r) =
      let hw = below w (Memᴰ.head refl) in
      merge_all_silent ws (λ v m. below v (Memᴰ.tail m)) (merge z d w base) (length-merge w hw base h) i r.1
      ∙ get_d_merge w hw base h i
      ∙ ap (λ (o : Option ℕ). or_else o (get_or base i 0)) r.0
  merge_all_wins (w ∷ ws) below base h i x (inr r) =
      merge_all_wins ws (λ v m. below v (Memᴰ.tail m)) (merge z d w base) (length-merge w (below w (Memᴰ.head refl)) base h) i x r
