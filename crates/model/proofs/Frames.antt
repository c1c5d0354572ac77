-- What each store sets, and what it leaves as it was: tags, data bytes and disk bytes.
use Prim.Native.Nat.{ℕ, ◌+◌, ◌*◌, ◌≤◌, ◌<◌}
use mathlib.Core.Path.{◌≡◌, refl, sym, ◌∙◌, subst}
use mathlib.Core.Logic.{inl, inr, ◌≢◌}
use mathlib.Core.Bool.{true}
use mathlib.Core.List.{List}
use native.Mathlib.Omega.{arith}
use native.Mathlib.Nat.{mul-le-mul_right}
use native.Mathlib.Decide.{dec_lt}
use lib.ListN.{length}
use borrow.Author.Tests.{eqb-true, eq-eqb}
use Rattle.lists.specs.Lists.{part, splice, ff}
use Rattle.lists.proofs.Tests.{every_at, every_more, every-none}
use Rattle.lists.proofs.Parts.{length-splice, length-ff, length-part-fits, part_same, part_other, part_inside, part_of_splice, part-ff, Apart}
use Rattle.model.specs.declared.Sizes.{Sizes}
use Rattle.model.specs.Sizes.{Device, bucket_size, flash_size, spare_size, disk_size, lengths, page_index}
use Rattle.model.specs.Stores.{Store, program, erase, unit, apply, tag_of, bucket_bytes, disk_bytes}

-- ---- places in rows of m bytes

pub row_fits_lem : (q n m : ℕ) → q < n → q * m + m ≤ n * m
row_fits_lem q n m h = omega (arith, mul-le-mul_right m h)

pub row_apart : (q r m : ℕ) → q ≢ r → Apart (q * m) m (r * m) m
row_apart q r m ne = go (dec_lt r q) (dec_lt q r)
  where
    go : Dec (r < q) → Dec (q < r) → Apart (q * m) m (r * m) m
    go (yes a) b = inl (row_fits_lem r q m a)
    go (no a) (yes b) = inr (row_fits_lem q r m b)
    go (no a) (no b) = absurd (ne (omega arith))

pub place_fits : (q i n m : ℕ) → q < n → i < m → q * m + i < n * m
place_fits q i n m hq hi = omega (arith, mul-le-mul_right m hq)

-- a place has one row
pub place_row : (q i r j m : ℕ) → i < m → j < m → q * m + i ≡ r * m + j → q ≡ r
place_row q i r j m hi hj e = go (dec_lt q r) (dec_lt r q)
  where
    go : Dec (q < r) → Dec (r < q) → q ≡ r
    go (yes a) b = omega (arith, mul-le-mul_right m a)
    go (no a) (yes b) = omega (arith, mul-le-mul_right m b)
    go (no a) (no b) = omega arith

-- ---- an array of n buckets, each of P pages of S bytes

module _ (z : Sizes) (l : List ℕ) (n : ℕ) (len : length l ≡ n * bucket_size z) where
  pub page_inside : (q : ℕ) (bytes : List ℕ) → q < n * z.p → length bytes ≡ z.s → q * z.s + length bytes ≤ length l
  unfolding bucket_size
  page_inside q bytes hq hb = rw (hb, len) (omega (arith, row_fits_lem q (n * z.p) z.s hq))

  module _ (c k : ℕ) (bytes : List ℕ) (hc : c < n) (hk : k < z.p) (hb : length bytes ≡ z.s) where
    -- the bucket of the page, and every other
    pub bucket_spliced : part (splice l ((c * z.p + k) * z.s) bytes) (c * bucket_size z) (bucket_size z)
        ≡ splice (part l (c * bucket_size z) (bucket_size z)) (k * z.s) bytes
    unfolding bucket_size
    bucket_spliced =
        let e : (c * z.p + k) * z.s ≡ c * (z.p * z.s) + k * z.s = omega arith in
        rw e (part_inside l (c * (z.p * z.s)) (k * z.s) bytes (z.p * z.s)
        (rw hb (row_fits_lem k z.p z.s hk))
        (rw len (row_fits_lem c n (z.p * z.s) hc)))

    pub bucket_apart : (c' : ℕ) → c' ≢ c → part (splice l ((c * z.p + k) * z.s) bytes) (c' * bucket_size z) (bucket_size z)
        ≡ part l (c' * bucket_size z) (bucket_size z)
    unfolding bucket_size
    bucket_apart c' ne = part_other l ((c * z.p + k) * z.s) bytes (c' * (z.p * z.s)) (z.p * z.s)
        (page_inside (c * z.p + k) bytes (place_fits c k n z.p hc hk) hb)
        (rw hb (go (row_apart c c' (z.p * z.s) (λ q. ne (sym q)))))
      where
        go : Apart (c * (z.p * z.s)) (z.p * z.s) (c' * (z.p * z.s)) (z.p * z.s) → Apart ((c * z.p + k) * z.s) z.s (c' * (z.p * z.s)) (z.p * z.s)
        go (inl a) = inl (omega arith)
        go (inr a) = inr (omega (arith, row_fits_lem k z.p z.s hk))

-- ---- lengths

pub record Lengths (z : Sizes) (d : Device) : Type 0 where
  pub flash_is : length d.flash ≡ z.c * bucket_size z
  pub spare_is : length d.spare ≡ z.c * z.p * 16
  pub disk_is : length d.disk ≡ z.b * bucket_size z

pub lengths_of : (z : Sizes) (d : Device) → lengths z d ≡ true → Lengths z d
unfolding lengths flash_size spare_size disk_size
lengths_of z d h = record {
  flash_is = eqb-true _ _ (every_at _ h 0);
  spare_is = eqb-true _ _ (every_at _ h 1);
  disk_is = eqb-true _ _ (every_at _ h 2);
}

pub lengths_test : (z : Sizes) (d : Device) → Lengths z d → lengths z d ≡ true
unfolding lengths flash_size spare_size disk_size
lengths_test z d lens =
    every_more _ _ (eq-eqb _ _ lens.flash_is) (every_more _ _ (eq-eqb _ _ lens.spare_is) (every_more _ _ (eq-eqb _ _ lens.disk_is) every-none))

-- a store whose place and lengths are right
abbrev pub Fits : Sizes → Store → Type 0
Fits z (program c k bytes tag) = (c < z.c) × (k < z.p) × (length bytes ≡ z.s) × (length tag ≡ 16)
Fits z (erase c) = c < z.c
Fits z (unit u bytes) = (u < z.b * z.p) × (length bytes ≡ z.s)

module _ (z : Sizes) (d : Device) (lens : Lengths z d) where
  pub page_in_flash : (c k : ℕ) (bytes : List ℕ) → c < z.c → k < z.p → length bytes ≡ z.s → page_index z c k * z.s + length bytes ≤ length d.flash
  unfolding page_index
  page_in_flash c k bytes hc hk hb = page_inside z d.flash z.c lens.flash_is (c * z.p + k) bytes (place_fits c k z.c z.p hc hk) hb

  pub page_in_spare : (c k : ℕ) (tag : List ℕ) → c < z.c → k < z.p → length tag ≡ 16 → page_index z c k * 16 + length tag ≤ length d.spare
  unfolding page_index
  page_in_spare c k tag hc hk ht = rw (ht, lens.spare_is) (row_fits_lem (c * z.p + k) (z.c * z.p) 16 (place_fits c k z.c z.p hc hk))

  pub bucket_in_flash : (c : ℕ) → c < z.c → c * bucket_size z + length (ff (bucket_size z)) ≤ length d.flash
  bucket_in_flash c hc = rw (length-ff (bucket_size z), lens.flash_is) (row_fits_lem c z.c (bucket_size z) hc)

  pub bucket_in_spare : (c : ℕ) → c < z.c → c * z.p * 16 + length (ff (z.p * 16)) ≤ length d.spare
  bucket_in_spare c hc = rw (length-ff (z.p * 16), lens.spare_is) (omega (arith, row_fits_lem c z.c z.p hc))

  pub unit_in_disk : (u : ℕ) (bytes : List ℕ) → u < z.b * z.p → length bytes ≡ z.s → u * z.s + length bytes ≤ length d.disk
  unit_in_disk u bytes hu hb = page_inside z d.disk z.b lens.disk_is u bytes hu hb

  pub length_bucket : (c : ℕ) → c < z.c → length (bucket_bytes z d c) ≡ bucket_size z
  unfolding bucket_bytes
  length_bucket c hc = length-part-fits d.flash (c * bucket_size z) (bucket_size z) (rw lens.flash_is (row_fits_lem c z.c (bucket_size z) hc))

  pub length_disk : (b : ℕ) → b < z.b → length (disk_bytes z d b) ≡ bucket_size z
  unfolding disk_bytes
  length_disk b hb = length-part-fits d.disk (b * bucket_size z) (bucket_size z) (rw lens.disk_is (row_fits_lem b z.b (bucket_size z) hb))

  pub page_in_bucket : (c k : ℕ) (bytes : List ℕ) → c < z.c → k < z.p → length bytes ≡ z.s → k * z.s + length bytes ≤ length (bucket_bytes z d c)
  unfolding bucket_size
  page_in_bucket c k bytes hc hk hb = rw (hb, length_bucket c hc) (row_fits_lem k z.p z.s hk)

  pub unit_in_bucket : (b u : ℕ) (bytes : List ℕ) → b < z.b → u < z.p → length bytes ≡ z.s → u * z.s + length bytes ≤ length (disk_bytes z d b)
  unfolding bucket_size
  unit_in_bucket b u bytes hb hu hl = rw (hl, length_disk b hb) (row_fits_lem u z.p z.s hu)

  -- every store keeps them
  pub lengths_kept : (s : Store) → Fits z s → Lengths z (apply z d s)
  unfolding apply
  lengths_kept (program c k bytes tag) f = record {
    flash_is = length-splice d.flash _ bytes (page_in_flash c k bytes f.0 f.1 f.2) ∙ lens.flash_is;
    spare_is = length-splice d.spare _ tag (page_in_spare c k tag f.0 f.1 f.3) ∙ lens.spare_is;
    disk_is = lens.disk_is;
  }
  lengths_kept (erase c) f = record {
    flash_is = length-splice d.flash _ (ff (bucket_size z)) (bucket_in_flash c f) ∙ lens.flash_is;
    spare_is = length-splice d.spare _ (ff (z.p * 16)) (bucket_in_spare c f) ∙ lens.spare_is;
    disk_is = lens.disk_is;
  }
  lengths_kept (unit u bytes) f = record {
    flash_is = lens.flash_is;
    spare_is = lens.spare_is;
    disk_is = length-splice d.disk _ bytes (unit_in_disk u bytes f.0 f.1) ∙ lens.disk_is;
  }

  -- ---- program a page

  module _ (c k : ℕ) (bytes tag : List ℕ) (f : Fits z (program c k bytes tag)) where
    pub tag-programmed : tag_of z (apply z d (program c k bytes tag)) c k ≡ tag
    unfolding apply tag_of
    tag-programmed = subst (λ (n : ℕ). part (splice d.spare (page_index z c k * 16) tag) (page_index z c k * 16) n ≡ tag) f.3
        (part_same d.spare (page_index z c k * 16) tag (page_in_spare c k tag f.0 f.1 f.3))

    pub tag_other_place : (c' k' : ℕ) → page_index z c k ≢ page_index z c' k' → tag_of z (apply z d (program c k bytes tag)) c' k' ≡ tag_of z d c' k'
    unfolding apply tag_of
    tag_other_place c' k' ne = part_other d.spare (page_index z c k * 16) tag (page_index z c' k' * 16) 16 (page_in_spare c k tag f.0 f.1 f.3)
        (rw f.3 (row_apart (page_index z c k) (page_index z c' k') 16 ne))

    pub tag_other_page : (k' : ℕ) → k' ≢ k → tag_of z (apply z d (program c k bytes tag)) c k' ≡ tag_of z d c k'
    unfolding page_index
    tag_other_page k' ne = tag_other_place c k' (λ q. ne (omega arith))

    pub tag_other_bucket : (c' k' : ℕ) → c' ≢ c → k' < z.p → tag_of z (apply z d (program c k bytes tag)) c' k' ≡ tag_of z d c' k'
    unfolding page_index
    tag_other_bucket c' k' ne hk = tag_other_place c' k' (λ q. ne (sym (place_row c k c' k' z.p f.1 hk q)))

    pub bytes_programmed : bucket_bytes z (apply z d (program c k bytes tag)) c ≡ splice (bucket_bytes z d c) (k * z.s) bytes
    unfolding apply bucket_bytes page_index
    bytes_programmed = bucket_spliced z d.flash z.c lens.flash_is c k bytes f.0 f.1 f.2

    pub bytes_other_bucket : (c' : ℕ) → c' ≢ c → bucket_bytes z (apply z d (program c k bytes tag)) c' ≡ bucket_bytes z d c'
    unfolding apply bucket_bytes page_index
    bytes_other_bucket c' ne = bucket_apart z d.flash z.c lens.flash_is c k bytes f.0 f.1 f.2 c' ne

    pub disk_programmed : (b : ℕ) → disk_bytes z (apply z d (program c k bytes tag)) b ≡ disk_bytes z d b
    unfolding apply disk_bytes
    disk_programmed b = refl

  -- ---- erase a bucket

  module _ (c : ℕ) (f : c < z.c) where
    pub tag_erased : (k : ℕ) → k < z.p → tag_of z (apply z d (erase c)) c k ≡ ff 16
    unfolding apply tag_of page_index
    tag_erased k hk =
        let e : (c * z.p + k) * 16 ≡ c * z.p * 16 + k * 16 = omega arith in
        rw e (part_of_splice d.spare (c * z.p * 16) (ff (z.p * 16)) (k * 16) 16 (bucket_in_spare c f)
        (rw (length-ff (z.p * 16)) (omega arith)) ∙ part-ff (z.p * 16) (k * 16) 16 (omega arith))

    pub tag_kept : (c' k' : ℕ) → c' ≢ c → k' < z.p → tag_of z (apply z d (erase c)) c' k' ≡ tag_of z d c' k'
    unfolding apply tag_of page_index
    tag_kept c' k' ne hk = part_other d.spare (c * z.p * 16) (ff (z.p * 16)) ((c' * z.p + k') * 16) 16 (bucket_in_spare c f)
        (rw (length-ff (z.p * 16)) (go (row_apart c c' z.p (λ q. ne (sym q)))))
      where
        go : Apart (c * z.p) z.p (c' * z.p) z.p → Apart (c * z.p * 16) (z.p * 16) ((c' * z.p + k') * 16) 16
        go (inl a) = inl (omega arith)
        go (inr a) = inr (omega arith)

    pub bytes_kept : (c' : ℕ) → c' ≢ c → bucket_bytes z (apply z d (erase c)) c' ≡ bucket_bytes z d c'
    unfolding apply bucket_bytes
    bytes_kept c' ne = part_other d.flash (c * bucket_size z) (ff (bucket_size z)) (c' * bucket_size z) (bucket_size z) (bucket_in_flash c f)
        (rw (length-ff (bucket_size z)) (row_apart c c' (bucket_size z) (λ q. ne (sym q))))

    pub disk_erased : (b : ℕ) → disk_bytes z (apply z d (erase c)) b ≡ disk_bytes z d b
    unfolding apply disk_bytes
    disk_erased b = refl

  -- ---- write unit u of the back-end bucket b

  module _ (b u : ℕ) (bytes : List ℕ) (hb : b < z.b) (hu : u < z.p) (hl : length bytes ≡ z.s) where
    pub disk_written : disk_bytes z (apply z d (unit (b * z.p + u) bytes)) b ≡ splice (disk_bytes z d b) (u * z.s) bytes
    unfolding apply disk_bytes
    disk_written = bucket_spliced z d.disk z.b lens.disk_is b u bytes hb hu hl

    pub disk_other : (b' : ℕ) → b' ≢ b → disk_bytes z (apply z d (unit (b * z.p + u) bytes)) b' ≡ disk_bytes z d b'
    unfolding apply disk_bytes
    disk_other b' ne = bucket_apart z d.disk z.b lens.disk_is b u bytes hb hu hl b' ne

-- a disk unit leaves the chip as it was
module _ (z : Sizes) (d : Device) (u : ℕ) (bytes : List ℕ) where
  pub tag_unit : (c k : ℕ) → tag_of z (apply z d (unit u bytes)) c k ≡ tag_of z d c k
  unfolding apply tag_of
  tag_unit c k = refl

  pub bytes_unit : (c : ℕ) → bucket_bytes z (apply z d (unit u bytes)) c ≡ bucket_bytes z d c
  unfolding apply bucket_bytes
  bytes_unit c = refl
