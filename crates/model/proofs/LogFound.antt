-- What the logs of a Write bucket give while one more is programmed: the old ones up to its last page, then the new one over them.
use Prim.Native.Nat.{ℕ, zero, suc, ◌+◌, ◌-◌, ◌*◌, ◌≤◌, ◌<◌}
use mathlib.Core.Path.{◌≡◌, refl, sym, ap, ◌∙◌}
use mathlib.Core.Logic.{◌⊎◌, inl, inr}
use mathlib.Core.Bool.{Bool, true, false, ◌&&◌}
use mathlib.Core.Option.{some}
use mathlib.Core.List.{List}
use native.Mathlib.Omega.{arith}
use native.Mathlib.Nat.{mul-le-mul_right, add-zero}
use lib.ListN.{length, get_or}
use lib.Dec.{leb, ltb}
use borrow.Author.Tests.{ne_eqb, eq-eqb, lt-ltb, le-ltb, le-leb, lt-leb}
use Rattle.std.specs.Prelude.{if◌then◌else◌}
use Rattle.lists.specs.Lists.{ff}
use Rattle.lists.proofs.Tests.{and-true, if_true, if_false}
use Rattle.lists.proofs.Parts.{get_d_part, part_alike}
use Rattle.model.specs.declared.Sizes.{Sizes}
use Rattle.model.specs.Sizes.{Device, pages_for}
use Rattle.model.specs.Stores.{tag_of, bucket_bytes}
use Rattle.model.specs.Spare.{write_kind, offset, extent}
use Rattle.model.specs.Image.{ends_log, log_bytes}
use Rattle.model.proofs.Safe.{Chip, covers, found}
use Rattle.model.proofs.Limits.{Limits, pages_hold, pages-some, on_chip}
use Rattle.model.proofs.Tags.{programmed-ff}
use Rattle.model.proofs.Frames.{length_bucket}
use Rattle.model.proofs.Formed.{log_inside}
use Rattle.model.proofs.FormedKept.{chip-lengths, chip_formed}
use Rattle.model.proofs.Pages.{Log, tag_at, ordinal_at, pages_at, offset_at, extent_at, programmed_at, Started, Stage}

module _ {z : Sizes} (bounds : Limits z) {c first e b off : ℕ} {bytes : List ℕ} (log : Log z c first write_kind e b off bytes)
    {d₀ : Device} (chip₀ : Chip z d₀) (started : 0 < first → Started bounds log d₀) where
  abbrev count : ℕ
  count = pages_for z (length bytes)

  s_pos : 1 ≤ z.s
  s_pos = omega (arith, bounds.s_low)

  pub count_pos : 1 ≤ pages_for z (length bytes)
  count_pos = pages-some z (length bytes) s_pos log.some_bytes

  abbrev tag : ℕ → List ℕ
  tag o = tag_at bounds log o

  abbrev On : ℕ → Device → Type 0
  On o d = Stage bounds log chip₀ started o d

  -- ---- one page

  covers_blank : (d : Device) (k i : ℕ) → tag_of z d c k ≡ ff 16 → covers z d c k i ≡ false
  unfolding covers ends_log
  covers_blank d k i q = rw (q, programmed-ff)

  -- a page that does not end the log
  covers_open : (d : Device) (k o i : ℕ) → tag_of z d c k ≡ tag o → suc o < count → covers z d c k i ≡ false
  unfolding covers ends_log
  covers_open d k o i q h =
      rw (
        q,
        programmed_at bounds log o,
        ordinal_at bounds log o,
        pages_at bounds log o,
        ne_eqb (o + 1) count (λ r. omega arith),
      )

  -- the page that ends it
  covers_last : (d : Device) (k i : ℕ) → tag_of z d c k ≡ tag (count - 1) → covers z d c k i ≡ leb off i && ltb i (off + length bytes)
  unfolding covers ends_log
  covers_last d k i q =
      rw (
        q,
        programmed_at bounds log (count - 1),
        ordinal_at bounds log (count - 1),
        pages_at bounds log (count - 1),
        eq-eqb (count - 1 + 1) count (omega (arith, count_pos)),
        offset_at bounds log (count - 1),
        extent_at bounds log (count - 1),
      )

  -- ---- the logs that were there

  old_log : (o : ℕ) (d : Device) → On o d → (k : ℕ) → k < first → ends_log z d₀ c k ≡ true → log_bytes z d c k ≡ log_bytes z d₀ c k
  unfolding log_bytes
  old_log o d s k h ends =
      rw (s.before k h) (part_alike (bucket_bytes z d c) (bucket_bytes z d₀ c) _ (extent (tag_of z d₀ c k))
      (length_bucket z d (chip-lengths z s.chip) c (on_chip z c log.bucket_in) ∙ sym (length_bucket z d₀ (chip-lengths z chip₀) c (on_chip z c log.bucket_in)))
      (λ j hj. s.old_bytes j (omega (
        arith,
        log_inside z d₀ c ((chip_formed z chip₀).buckets_fit c log.bucket_in) s_pos k
            (omega (arith, log.pages_in)) ends,
        mul-le-mul_right z.s h,
      ))))

  found_old : (o : ℕ) (d : Device) → On o d → (m i : ℕ) → m ≤ first → found z d c m i ≡ found z d₀ c m i
  unfolding found covers ends_log
  found_old o d s zero i h = refl
  found_old o d s (suc k) i h =
      rw (s.before k h, found_old o d s k i (omega arith)) (go (ends_log z d₀ c k) refl)
    where
      inside : Bool
      inside = leb (offset (tag_of z d₀ c k)) i && ltb i (offset (tag_of z d₀ c k) + extent (tag_of z d₀ c k))

      go : (t : Bool) → ends_log z d₀ c k ≡ t
          → (if t && inside then some (get_or (log_bytes z d c k) (i - offset (tag_of z d₀ c k)) 0) else found z d₀ c k i)
          ≡ (if t && inside then some (get_or (log_bytes z d₀ c k) (i - offset (tag_of z d₀ c k)) 0) else found z d₀ c k i)
      go true q = rw (old_log o d s k h q)
      go false q = refl

  -- ---- over all pages

  found_open : (o : ℕ) (d : Device) → On o d → (m i : ℕ) → m ≤ o → m < count → found z d c (first + m) i ≡ found z d₀ c first i
  unfolding found
  found_open o d s zero i h hm = rw (add-zero first) (found_old o d s first i (omega arith))
  found_open o d s (suc m) i h hm =
      let q : first + suc m ≡ suc (first + m) = omega arith in
      rw (q, covers_open d (first + m) m i (s.written m h) hm) (found_open o d s m i (omega arith) (omega arith))

  found-blank : (o : ℕ) (d : Device) → On o d → (m i : ℕ) → first + o + m ≤ z.p → found z d c (first + o + m) i ≡ found z d c (first + o) i
  unfolding found
  found-blank o d s zero i h = rw (add-zero (first + o))
  found-blank o d s (suc m) i h =
      let q : first + o + suc m ≡ suc (first + o + m) = omega arith in
      rw (q, covers_blank d (first + o + m) i (s.rest (first + o + m) (omega arith) (omega arith))) (found-blank o d s m i (omega arith))

  found_all : (o : ℕ) (d : Device) → o ≤ count → On o d → (i : ℕ) → found z d c z.p i ≡ found z d c (first + o) i
  found_all o d ho s i =
      let q : z.p ≡ first + o + (z.p - (first + o)) = omega (arith, log.pages_in) in
      ap (λ (x : ℕ). found z d c x i) q ∙ found-blank o d s (z.p - (first + o)) i (omega (arith, log.pages_in))

  -- before the last page: what the bucket gave
  pub found_before : (o : ℕ) (d : Device) → o < pages_for z (length bytes) → On o d → (i : ℕ) → found z d c z.p i ≡ found z d₀ c first i
  found_before o d ho s i = found_all o d (omega arith) s i ∙ found_open o d s o i (omega arith) ho

  -- after it: the new log's bytes, and around them what the bucket gave
  last_page : (d : Device) → On count d → (i : ℕ) → found z d c (first + count) i
      ≡ (if leb off i && ltb i (off + length bytes) then some (get_or (log_bytes z d c (first + (count - 1))) (i - off) 0) else found z d₀ c first i)
  unfolding found
  last_page d s i =
      let q : first + count ≡ suc (first + (count - 1)) = omega (arith, count_pos) in
      let t = s.written (count - 1) (omega (arith, count_pos)) in
      let f : offset (tag_of z d c (first + (count - 1))) ≡ off = ap offset t ∙ offset_at bounds log (count - 1) in
      rw (q, covers_last d (first + (count - 1)) i t, f, found_open count d s (count - 1) i (omega arith) (omega (arith, count_pos)))

  new_byte : (d : Device) → On count d → (j : ℕ) → j < length bytes → get_or (log_bytes z d c (first + (count - 1))) j 0 ≡ get_or bytes j 0
  unfolding log_bytes
  new_byte d s j h =
      let t = s.written (count - 1) (omega (arith, count_pos)) in
      let start : first + (count - 1) + 1 - count ≡ first = omega (arith, count_pos) in
      rw (t, pages_at bounds log (count - 1), extent_at bounds log (count - 1), start)
      (get_d_part (bucket_bytes z d c) (first * z.s) (length bytes) j h ∙ s.content j (omega (arith, pages_hold z (length bytes) s_pos)) h)

  pub found_in : (d : Device) → On (pages_for z (length bytes)) d → (i : ℕ) → off ≤ i → i < off + length bytes → found z d c z.p i ≡ some (get_or bytes (i - off) 0)
  found_in d s i low high =
      found_all count d (omega arith) s i
      ∙ last_page d s i
      ∙ if_true _ (found z d₀ c first i) (and-true (le-leb off i low) (lt-ltb i (off + length bytes) high))
      ∙ ap some (new_byte d s (i - off) (omega arith))

  pub found_out : (d : Device) → On (pages_for z (length bytes)) d → (i : ℕ) → (i < off) ⊎ (off + length bytes ≤ i) → found z d c z.p i ≡ found z d₀ c first i
  found_out d s i o = found_all count d (omega arith) s i ∙ last_page d s i ∙ if_false _ (found z d₀ c first i) (go o)
    where
      go : (i < off) ⊎ (off + length bytes ≤ i) → leb off i && ltb i (off + length bytes) ≡ false
      go (inl u) = rw (lt-leb off i u)
      go (inr u) = rw (le-leb off i (omega arith), le-ltb i (off + length bytes) u)
