-- Images made by the page rules, what a bucket is, and its complete logs.
use Rattle.std.specs.Prelude.{ℕ, zero, suc, ◌+◌, ◌-◌, ◌*◌, Bool, true, false, not, ◌&&◌, ◌||◌, List, [], ◌∷◌, map, leb, ltb, eqb, if◌then◌else◌}
use Rattle.lists.specs.Lists.{every, within, below, all_below, count_below, keep, distinct, splice, part}
use Rattle.model.specs.declared.Sizes.{Sizes}
use Rattle.model.specs.Sizes.{Device, bucket_size, body, pages_for}
use Rattle.model.specs.Stores.{tag_of, bucket_bytes}
use Rattle.model.specs.Spare.{blank, spoiled, programmed, write_kind, dirty_kind, kind, ordinal, pages, epoch, back, offset, extent, zeros}

-- "continues the page before it with the same fields and an ordinal one higher", below the count
unfoldable pub continues : List ℕ → List ℕ → Bool
continues before tag = every
    (eqb (ordinal tag) (ordinal before + 1)
    ∷ eqb (pages tag) (pages before)
    ∷ eqb (offset tag) (offset before)
    ∷ eqb (extent tag) (extent before)
    ∷ ltb (ordinal tag) (pages tag) ∷ [])

-- "non-blank pages share state, epoch and back-end bucket"; a spoiled one has none
unfoldable pub shares : List ℕ → List ℕ → Bool
shares first tag = every (eqb (kind tag) (kind first) ∷ eqb (epoch tag) (epoch first) ∷ eqb (back tag) (back first) ∷ [])

module _ (z : Sizes) where
  -- "Read and Dirty buckets hold offset 0, length P × S"
  unfoldable pub spans_bucket : List ℕ → Bool
  spans_bucket tag = eqb (offset tag) 0 && eqb (extent tag) (bucket_size z)

  -- the rules for the fields of one programmed page
  unfoldable pub fields_fit : List ℕ → Bool
  fields_fit tag = every
      (within 1 3 (kind tag)
      ∷ leb 1 (epoch tag)
      ∷ ltb (back tag) z.b
      ∷ zeros tag
      ∷ eqb (pages tag) (pages_for z (extent tag))
      ∷ leb (offset tag + extent tag) (bucket_size z)
      ∷ (eqb (kind tag) write_kind || spans_bucket tag) ∷ [])

  -- the first of the first n + 1 pages that is not spoiled, or the last
  unfoldable pub head_to : Device → (c n : ℕ) → List ℕ
  head_to d c zero = tag_of z d c 0
  head_to d c (suc n) = if spoiled (head_to d c n) then tag_of z d c (suc n) else head_to d c n

  -- the spare bytes that speak for their bucket: those of its first programmed page; behind a blank page there is none
  unfoldable pub head_tag : Device → ℕ → List ℕ
  head_tag d c = head_to d c (z.p - 1)

  unfoldable pub page_spoiled : Device → ℕ → ℕ → Bool
  page_spoiled d c k = spoiled (tag_of z d c k)

  -- a log begins with ordinal 0: in any page of a Write bucket, in others with the first programmed one, since these have "no second ordinal 0"
  unfoldable pub begins_log : Device → ℕ → ℕ → Bool
  begins_log d c k = eqb (ordinal (tag_of z d c k)) 0 && (eqb (kind (tag_of z d c k)) write_kind || all_below k (page_spoiled d c))

  -- A spoiled page "belongs to no log and ends the log before it. The next page has ordinal 0."
  unfoldable pub continues_log : Device → ℕ → ℕ → Bool
  continues_log d c zero = false
  continues_log d c (suc k) = programmed (tag_of z d c k) && continues (tag_of z d c k) (tag_of z d c (suc k))

  -- the rules for page k of the cache bucket c; the other bytes of a spoiled one "mean nothing"
  unfoldable pub page_fits : Device → ℕ → ℕ → Bool
  page_fits d c k = not (programmed (tag_of z d c k)) || every
      (fields_fit (tag_of z d c k)
      ∷ shares (head_tag d c) (tag_of z d c k)
      ∷ (begins_log d c k || continues_log d c k) ∷ [])

  -- "blank pages come only at the end"; a spoiled one "counts as used"
  unfoldable pub is_packed : Device → ℕ → ℕ → Bool
  is_packed d c zero = true
  is_packed d c (suc k) = not (blank (tag_of z d c k)) || blank (tag_of z d c (suc k))

  unfoldable pub packed : Device → ℕ → Bool
  packed d c = all_below z.p (is_packed d c)

  unfoldable pub bucket_fits : Device → ℕ → Bool
  bucket_fits d c = packed d c && all_below z.p (page_fits d c)

  -- a bucket with a programmed page
  unfoldable pub used : Device → ℕ → Bool
  used d c = programmed (head_tag d c)

  -- its epoch, or 0 if it has none
  unfoldable pub epoch_of : Device → ℕ → ℕ
  epoch_of d c = if used d c then epoch (head_tag d c) else 0

  -- the buckets outside the ledger: "made by the page rules", and "no two buckets share an epoch"
  unfoldable pub body_fits : Device → Bool
  body_fits d = all_below (body z) (bucket_fits d) && distinct (map (epoch_of d) (keep (used d) (below (body z))))

  -- ---- what a bucket is

  unfoldable pub back_of : Device → ℕ → ℕ
  back_of d c = back (head_tag d c)

  unfoldable pub is_write : Device → ℕ → Bool
  is_write d c = used d c && eqb (kind (head_tag d c)) write_kind

  -- a Read or Dirty bucket
  unfoldable pub is_copy : Device → ℕ → Bool
  is_copy d c = used d c && not (eqb (kind (head_tag d c)) write_kind)

  unfoldable pub is_dirty : Device → ℕ → Bool
  is_dirty d c = eqb (kind (head_tag d c)) dirty_kind

  unfoldable pub page_programmed : Device → ℕ → ℕ → Bool
  page_programmed d c k = programmed (tag_of z d c k)

  -- "A Read or Dirty bucket is complete when all P pages are programmed." So one with a spoiled page "is incomplete"
  unfoldable pub complete : Device → ℕ → Bool
  complete d c = is_copy d c && all_below z.p (page_programmed d c)

  unfoldable pub page_blank : Device → ℕ → ℕ → Bool
  page_blank d c k = blank (tag_of z d c k)

  -- the blank pages of a bucket, no spoiled one among them
  unfoldable pub blanks : Device → ℕ → ℕ
  blanks d c = count_below z.p (page_blank d c)

  -- ---- complete logs: "A log lacking pages is abandoned and ignored."

  -- page k is the last page of a log that has all its pages
  unfoldable pub ends_log : Device → ℕ → ℕ → Bool
  ends_log d c k = programmed (tag_of z d c k) && eqb (ordinal (tag_of z d c k) + 1) (pages (tag_of z d c k))

  -- the bytes of the log that ends at page k
  unfoldable pub log_bytes : Device → ℕ → ℕ → List ℕ
  log_bytes d c k = part (bucket_bytes z d c) ((k + 1 - pages (tag_of z d c k)) * z.s) (extent (tag_of z d c k))

  -- the complete logs in the first n pages of the bucket c, in order over the base
  unfoldable pub merge_to : Device → ℕ → List ℕ → ℕ → List ℕ
  merge_to d c base zero = base
  merge_to d c base (suc k) =
      if ends_log d c k then splice (merge_to d c base k) (offset (tag_of z d c k)) (log_bytes d c k) else merge_to d c base k

  -- "merge its complete logs in order over" a base; "what the merge promises of its result", however each byte gets there
  unfoldable pub merge : Device → ℕ → List ℕ → List ℕ
  merge d c base = merge_to d c base z.p
