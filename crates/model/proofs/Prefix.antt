-- A property along a run of stores, and a store under the erases that the GC queue may still bring.
use Prim.Native.Nat.{ℕ, zero, suc, ◌+◌, ◌*◌, ◌≤◌, ◌<◌}
use mathlib.Core.Path.{◌≡◌, refl, sym, subst}
use mathlib.Core.Logic.{inl, inr, ◌≢◌}
use mathlib.Core.Bool.{Bool}
use mathlib.Core.List.{List, [], ◌∷◌, ◌++◌, map, Memᴰ}
use native.Mathlib.Omega.{arith}
use lib.ListN.{length, take, drop}
use Rattle.lists.specs.Lists.{row, ff}
use Rattle.lists.proofs.Parts.{splice_comm, length-ff, Apart}
use Rattle.model.specs.declared.Sizes.{Sizes}
use Rattle.model.specs.Sizes.{Device, bucket_size, page_index}
use Rattle.model.specs.Stores.{Store, program, erase, unit, apply, apply_all}
use Rattle.model.specs.Promise.{torn}
use Rattle.model.proofs.Safe.{unspoiling, Along, Cuts}
use Rattle.model.proofs.Frames.{Lengths, Fits, row_apart, row_fits_lem, page_in_flash, page_in_spare, bucket_in_flash, bucket_in_spare}

module _ (z : Sizes) where
  pub apply_all_append : (d : Device) (ss ts : List Store) → apply_all z d (ss ++ ts) ≡ apply_all z (apply_all z d ss) ts
  unfolding apply_all
  apply_all_append d [] ts = refl
  apply_all_append d (s ∷ ss) ts = apply_all_append (apply z d s) ss ts

  pub along_start : (Q : Device → Type 0) (d : Device) (ss : List Store) → Along z Q d ss → Q d
  along_start Q d [] a = a
  along_start Q d (s ∷ ss) a = a.0

  pub along_end : (Q : Device → Type 0) (d : Device) (ss : List Store) → Along z Q d ss → Q (apply_all z d ss)
  unfolding apply_all
  along_end Q d [] a = a
  along_end Q d (s ∷ ss) a = along_end Q (apply z d s) ss a.1

  -- after any first part
  pub along_take : (Q : Device → Type 0) (d : Device) (ss : List Store) → Along z Q d ss → (n : ℕ) → Q (apply_all z d (take n ss))
  unfolding apply_all
  along_take Q d ss a zero = along_start Q d ss a
  along_take Q d [] a (suc n) = a
  along_take Q d (s ∷ ss) a (suc n) = along_take Q (apply z d s) ss a.1 n

  pub along_append : (Q : Device → Type 0) (d : Device) (ss ts : List Store) → Along z Q d ss → Along z Q (apply_all z d ss) ts → Along z Q d (ss ++ ts)
  unfolding apply_all
  along_append Q d [] ts a b = b
  along_append Q d (s ∷ ss) ts a b = (a.0, along_append Q (apply z d s) ss ts a.1 b)

  pub along_map : (Q R : Device → Type 0) → ((d : Device) → Q d → R d) → (d : Device) (ss : List Store) → Along z Q d ss → Along z R d ss
  along_map Q R f d [] a = f d a
  along_map Q R f d (s ∷ ss) a = (f d a.0, along_map Q R f (apply z d s) ss a.1)

  -- ---- cuts

  pub cuts_append : (Q : Device → Type 0) (d : Device) (ss ts : List Store) → Cuts z Q d ss → Cuts z Q (apply_all z d ss) ts → Cuts z Q d (ss ++ ts)
  unfolding apply_all torn
  cuts_append Q d [] ts a b = b
  cuts_append Q d (program c k bytes tag ∷ ss) ts a b = (a.0, cuts_append Q (apply z d (program c k bytes tag)) ss ts a.1 b)
  cuts_append Q d (erase c ∷ ss) ts a b = (a.0, cuts_append Q (apply z d (erase c)) ss ts a.1 b)
  cuts_append Q d (unit u bytes ∷ ss) ts a b = (a.0, cuts_append Q (apply z d (unit u bytes)) ss ts a.1 b)

  pub cuts_at : (Q : Device → Type 0) (d : Device) (ss : List Store) → Cuts z Q d ss → (n : ℕ) → n < length ss → (blanked : ℕ → Bool)
      → Q (torn z (unspoiling blanked) (apply_all z d (take n ss)) (drop n ss))
  unfolding apply_all
  cuts_at Q d [] a n h blanked = absurd (omega arith)
  cuts_at Q d (s ∷ ss) a zero h blanked = a.0 blanked
  cuts_at Q d (s ∷ ss) a (suc n) h blanked = cuts_at Q (apply z d s) ss a.1 n (omega arith) blanked

  -- ---- a row of stores that goes through the stages Q 0, Q 1, .., Q n

  module _ (Q : ℕ → Device → Type 0) (store : ℕ → Store) where
    pub row_end : (n : ℕ) → ((o : ℕ) (d : Device) → o < n → Q o d → Q (suc o) (apply z d (store o))) → (d : Device) → Q 0 d → Q n (apply_all z d (row n store))
    unfolding row apply_all
    row_end zero step d q = q
    row_end (suc n) step d q =
        subst (λ (e : Device). Q (suc n) e) (sym (apply_all_append d (row n store) (store n ∷ [])))
        (step n (apply_all z d (row n store)) (omega arith) (row_end n (λ o e h. step o e (omega arith)) d q))

    -- R holds at every stage
    pub row_along : (R : Device → Type 0) (n : ℕ) → ((o : ℕ) (d : Device) → o < n → Q o d → Q (suc o) (apply z d (store o)))
        → ((o : ℕ) (d : Device) → o ≤ n → Q o d → R d) → (d : Device) → Q 0 d → Along z R d (row n store)
    unfolding row apply_all
    row_along R zero step holds d q = holds 0 d (omega arith) q
    row_along R (suc n) step holds d q =
        let step' : (o : ℕ) (e : Device) → o < n → Q o e → Q (suc o) (apply z e (store o)) = λ o e h. step o e (omega arith) in
        let last : Q n (apply_all z d (row n store)) = row_end n step' d q in
        along_append R d (row n store) (store n ∷ []) (row_along R n step' (λ o e h. holds o e (omega arith)) d q) (
          holds n (apply_all z d (row n store)) (omega arith) last,
          holds (suc n) (apply z (apply_all z d (row n store)) (store n)) (omega arith)
              (step n (apply_all z d (row n store)) (omega arith) last),
        )

  -- ---- a store and the erase of another bucket

  abbrev pub Aside : ℕ → Store → Type 0
  Aside g (program c k bytes tag) = c ≢ g
  Aside g (erase c) = c ≢ g
  Aside g (unit u bytes) = Unit {0}

  device_path : {a b c a' b' c' : List ℕ} → a ≡ a' → b ≡ b' → c ≡ c'
      → ◌≡◌ {A = Device} (record { flash = a; spare = b; disk = c }) (record { flash = a'; spare = b'; disk = c' })
  device_path p q r = λ i. record { flash = p i; spare = q i; disk = r i }

  -- page k of a row of P pages of m bytes, and another row
  page_apart : (c k g m : ℕ) → c ≢ g → k < z.p → Apart (page_index z c k * m) m (g * (z.p * m)) (z.p * m)
  unfolding page_index
  page_apart c k g m ne hk = go (row_apart c g (z.p * m) ne)
    where
      go : Apart (c * (z.p * m)) (z.p * m) (g * (z.p * m)) (z.p * m) → Apart ((c * z.p + k) * m) m (g * (z.p * m)) (z.p * m)
      go (inl a) = inl (omega arith)
      go (inr a) = inr (omega (arith, row_fits_lem k z.p m hk))

  pub erase_comm : (d : Device) → Lengths z d → (s : Store) → Fits z s → (g : ℕ) → g < z.c → Aside g s
      → apply z (apply z d s) (erase g) ≡ apply z (apply z d (erase g)) s
  unfolding apply bucket_size
  erase_comm d lens (program c k bytes tag) f g hg ne =
      let e : g * z.p * 16 ≡ g * (z.p * 16) = omega arith in
      device_path
      (splice_comm d.flash (page_index z c k * z.s) bytes (g * bucket_size z) (ff (bucket_size z)) (page_in_flash z d lens c k bytes f.0 f.1 f.2)
      (bucket_in_flash z d lens g hg)
      (rw (f.2, length-ff (bucket_size z)) (page_apart c k g z.s ne f.1)))
      (splice_comm d.spare (page_index z c k * 16) tag (g * z.p * 16) (ff (z.p * 16)) (page_in_spare z d lens c k tag f.0 f.1 f.3)
      (bucket_in_spare z d lens g hg)
      (rw (f.3, length-ff (z.p * 16), e) (page_apart c k g 16 ne f.1)))
      refl
  erase_comm d lens (erase c) f g hg ne =
      let e : g * z.p * 16 ≡ g * (z.p * 16) = omega arith in
      let e' : c * z.p * 16 ≡ c * (z.p * 16) = omega arith in
      device_path
      (splice_comm d.flash (c * bucket_size z) (ff (bucket_size z)) (g * bucket_size z) (ff (bucket_size z)) (bucket_in_flash z d lens c f)
      (bucket_in_flash z d lens g hg)
      (rw (length-ff (bucket_size z)) (row_apart c g (bucket_size z) ne)))
      (splice_comm d.spare (c * z.p * 16) (ff (z.p * 16)) (g * z.p * 16) (ff (z.p * 16)) (bucket_in_spare z d lens c f) (bucket_in_spare z d lens g hg)
      (rw (length-ff (z.p * 16), e, e') (row_apart c g (z.p * 16) ne)))
      refl
  erase_comm d lens (unit u bytes) f g hg ne = refl

  -- a store that takes Q to R wherever H holds, under erases of other buckets that keep H
  module _ (Q R H : Device → Type 0) (s : Store) (fits : Fits z s)
      (lens : (d : Device) → H d → Lengths z d)
      (step : (d : Device) → H d → Q d → R (apply z d s)) where
    pub through : (gs : List ℕ) → ((g : ℕ) → Memᴰ g gs → (g < z.c) × Aside g s × ((d : Device) → H d → H (apply z d (erase g))))
        → (d : Device) → H d → Along z Q d (map erase gs) → Along z R (apply z d s) (map erase gs)
    through [] ok d h a = step d h a
    through (g ∷ gs) ok d h a =
        let o = ok g (Memᴰ.head refl) in (
          step d h a.0,
          subst (λ (e : Device). Along z R e (map erase gs)) (sym (erase_comm d (lens d h) s fits g o.0 o.1))
              (through gs (λ g' m. ok g' (Memᴰ.tail m)) (apply z d (erase g)) (o.2 d h) a.1),
        )
