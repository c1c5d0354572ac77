-- The pages of a bucket, and the buckets of a chip, as the test goes through them.
use Rattle.std.specs.Prelude.{ℕ, zero, suc, ◌+◌, ◌*◌, ◌≤◌, ◌<◌, ◌≡◌, Bool, true, not, ◌&&◌, ◌||◌, List, [], ◌∷◌, get_or, leb, ltb, eqb, if◌then◌else◌}
use Rattle.lists.specs.Lists.{every, within, all_below, part, same}
use Rattle.model.specs.declared.Sizes.{Sizes}
use Rattle.model.specs.Sizes.{Device, bucket_size, body, pages_for}
use Rattle.model.specs.Spare.{blank, write_kind, kind, ordinal, pages, offset, extent}
use Rattle.model.specs.Stores.{tag_of}
use Rattle.model.specs.Image.{shares, spans_bucket, fields_fit, head_tag, begins_log, continues_log, page_fits, is_packed, bucket_fits}

module _ (z : Sizes) where
  -- the log of a page has the pages that it takes, and lies within the bucket
  unfoldable pub log_fits : List ℕ → Bool
  log_fits tag = eqb (pages tag) (pages_for z (extent tag)) && leb (offset tag + extent tag) (bucket_size z)

  -- the kind is one of the three, and suits the log
  unfoldable pub kind_fits : List ℕ → Bool
  kind_fits tag = within 1 3 (kind tag) && (eqb (kind tag) write_kind || spans_bucket z tag)

-- a page has the kind, epoch, back-end bucket and zero bytes of the page before it
unfoldable pub same_bucket : List ℕ → List ℕ → Bool
same_bucket before tag = every
    (same (part before 4 8) (part tag 4 8)
    ∷ eqb (kind tag) (kind before)
    ∷ eqb (get_or tag 3 0) 0 ∷ [])

-- n bytes from index i on as a number, low byte first
unfoldable pub low_first : List ℕ → ℕ → ℕ → ℕ
low_first l i zero = 0
low_first l i (suc n) = low_first l (i + 1) n * 256 + get_or l i 0

-- a page continues the log of the page before it, and that log has so many pages
unfoldable pub goes_on : List ℕ → List ℕ → Bool
goes_on before tag = every
    (eqb (ordinal tag) (ordinal before + 1)
    ∷ eqb (pages tag) (pages before)
    ∷ ltb (ordinal tag) (pages tag)
    ∷ same (part before 12 4) (part tag 12 4) ∷ [])

-- a page of the bucket of the page before it starts a log, or continues one
unfoldable pub log_goes : Sizes → List ℕ → List ℕ → Bool
log_goes z before tag = if eqb (ordinal tag) 0 then log_fits z tag && eqb (kind tag) write_kind else goes_on before tag

module _ (z : Sizes) (d : Device) where
  -- page k of the bucket c fits as most do: the first by its fields, a later one in the bucket of the page before it
  unfoldable pub fits_at : ℕ → ℕ → Bool
  fits_at c zero = fields_fit z (tag_of z d c zero) && eqb (ordinal (tag_of z d c zero)) 0
  fits_at c (suc k) = same_bucket (tag_of z d c k) (tag_of z d c (suc k)) && log_goes z (tag_of z d c k) (tag_of z d c (suc k))

  -- so do the first n pages
  abbrev pub Fitting : ℕ → ℕ → Type 0
  Fitting c n = (n ≤ z.p) × (all_below n (fits_at c) ≡ true)

  -- page k is not behind a blank one
  unfoldable pub is_behind : ℕ → ℕ → Bool
  is_behind c zero = true
  is_behind c (suc k) = not (blank (tag_of z d c k))

  -- the book's rules for page k if it is programmed
  unfoldable pub ruled : ℕ → ℕ → Bool
  ruled c k = every
      (fields_fit z (tag_of z d c k)
      ∷ shares (head_tag z d c) (tag_of z d c k)
      ∷ (begins_log z d c k || continues_log z d c k) ∷ [])

  -- and those for it whatever it is
  unfoldable pub stands : ℕ → ℕ → Bool
  stands c k = is_packed z d c k && page_fits z d c k

  -- bucket j of those from c on fits
  unfoldable pub fits_from : ℕ → ℕ → Bool
  fits_from c j = bucket_fits z d (c + j)

  -- the first pages of the buckets c to e - 1 have no kind
  pub record NoKinds (c e : ℕ) : Type 0 where
    pub start : c ≤ e
    pub within : e ≤ body z
    pub erased : (j : ℕ) → c ≤ j → j < e → kind (tag_of z d j 0) ≡ 255

  -- c alone, or several buckets whose first pages have no kind
  pub record Span (c e : ℕ) : Type 0 where
    pub some : c < e
    pub within : e ≤ body z
    pub erased : (e ≡ c + 1 → ⊥) → (j : ℕ) → c ≤ j → j < e → kind (tag_of z d j 0) ≡ 255
