-- The complete logs of a body_formed chip lie within it, and each is laid by its own page.
use Rattle.model.proofs.Limits.{on_chip}
use mathlib.Core.Path.{◌≡◌, sym, ap, ◌∙◌}
use mathlib.Core.Bool.{true, false}
use mathlib.Core.List.{List, []}
use Prim.Native.Nat.{ℕ, zero, suc, ◌+◌, ◌-◌, ◌*◌, ◌≤◌, ◌<◌}
use native.Mathlib.Nat.{mul-le-mul_right, le_refl, add-zero}
use native.Mathlib.Numerals.{add-one}
use native.Mathlib.Omega.{arith}
use lib.ListN.{length, replicate, length-replicate}
use lib.Dec.{eqb}
use borrow.Author.Tests.{eq-eqb, eqb-true, le-leb}
use Rattle.lists.specs.Lists.{splice}
use Rattle.lists.proofs.Windows.{part-part}
use Rattle.model.specs.declared.Sizes.{Sizes}
use Rattle.model.specs.Sizes.{bucket_size, body, flash_size, spare_size, disk_size}
use Rattle.model.specs.Spare.{programmed, ordinal, pages, offset, extent}
use Rattle.model.specs.Stores.{tag_of, bucket_bytes}
use Rattle.model.specs.Image.{bucket_fits, ends_log, log_bytes, merge_to, blanks}
use Rattle.model.proofs.Formed.{Formed, formed_of, page_fields, blank_from_lem, log_pages, log_inside}
use Rattle.model.proofs.Tags.{blank_unprogrammed}
use Rattle.model.proofs.MergeBytes.{length-merge_to}
use Rattle.geometry.specs.Geometry.{device}
use Rattle.spare.specs.Fields.{fields, seen}
use Rattle.spare.specs.declared.Fields.{Fields}
use Rattle.spare.specs.declared.Seen.TheVariants.{Programmed}
use Rattle.spare.proofs.Looked.{seen-programmed}
use Rattle.image.specs.Chip.{spare_only}
use Rattle.rules.proofs.SameSpare.{same-body-fits}
use Rattle.overlay.specs.Window.{chip, Readable, LogPlace, log_part}
use Rattle.overlay.proofs.SameChip.{same-merge_to}

-- bytes of a bucket lie within the flash
pub in_flash : (z : Sizes) (flash : List ℕ) (c a : ℕ) → length flash ≡ flash_size z → c < z.c → a ≤ bucket_size z → c * bucket_size z + a ≤ length flash
unfolding flash_size
in_flash z flash c a e h g = let q : suc c * bucket_size z ≤ z.c * bucket_size z = mul-le-mul_right (bucket_size z) h in omega arith

module _ {z : Sizes} {flash spare : List ℕ} (readable : Readable z flash spare) {c : ℕ} (bucket : c < body z) where
  formed : (disk : List ℕ) → Formed z (device flash spare disk)
  formed disk = formed_of z (device flash spare disk) (sym (same-body-fits z (device flash spare disk)) ∙ readable.body_formed)

  fit : bucket_fits z (chip flash spare) c ≡ true
  fit = (formed []).buckets_fit c bucket

  pub merged-length : (base : List ℕ) → length base ≡ bucket_size z → (n : ℕ) → n ≤ z.p → length (merge_to z (chip flash spare) c base n) ≡ bucket_size z
  unfolding flash_size spare_size disk_size
  merged-length base e n h =
      let disk : List ℕ = replicate (disk_size z) 0 in
      rw (same-merge_to z (device flash spare disk) c base n)
      (length-merge_to z (device flash spare disk) (omega (arith, readable.limits.s_low))
      (record { flash_is = readable.flash_length; spare_is = readable.spare_length; disk_is = length-replicate (disk_size z) 0 })
      (formed disk) c bucket base e n h)

  -- page k says the fields f
  module _ {k : ℕ} (page : k < z.p) {f : Fields} (says : seen (tag_of z (spare_only spare) c k) ≡ Programmed f) where
    said : (programmed (tag_of z (chip flash spare) c k) ≡ true) × (fields (tag_of z (chip flash spare) c k) ≡ f)
    unfolding tag_of
    said = seen-programmed (tag_of z (chip flash spare) c k) f says

    ends : ends_log z (chip flash spare) c k ≡ eqb (f.ordinal + 1) f.pages
    unfolding ends_log fields ordinal pages
    ends = rw said.0 (ap (λ g. eqb (g.ordinal + 1) g.pages) said.1)

    pages_said : pages (tag_of z (chip flash spare) c k) ≡ f.pages
    unfolding fields
    pages_said = ap (λ g. g.pages) said.1

    offset_said : offset (tag_of z (chip flash spare) c k) ≡ f.offset
    unfolding fields
    offset_said = ap (λ g. g.offset) said.1

    extent_said : extent (tag_of z (chip flash spare) c k) ≡ f.last + 1
    unfolding fields extent
    extent_said = ap (λ g. g.last + 1) said.1

    -- the log that ends there is complete
    module _ (last : f.ordinal + 1 ≡ f.pages) where
      complete : ends_log z (chip flash spare) c k ≡ true
      complete = ends ∙ eq-eqb _ _ last

      stored : (k + 1 - pages (tag_of z (chip flash spare) c k)) * z.s + extent (tag_of z (chip flash spare) c k) ≤ bucket_size z
      unfolding bucket_size
      stored =
          let some : 1 ≤ z.s = omega (arith, readable.limits.s_low) in
          omega (arith, log_inside z (chip flash spare) c fit some k page complete, mul-le-mul_right z.s page)

      pub log_place : LogPlace z k f
      log_place = record {
        page = page;
        pages = rw pages_said at (log_pages z (chip flash spare) c fit k page complete);
        stored = rw (pages_said, extent_said) at stored;
        place = rw (offset_said, extent_said) at (page_fields z (chip flash spare) c fit k page said.0).bytes_inside;
      }

      log_bytes_lem : log_bytes z (chip flash spare) c k ≡ log_part z c k f flash
      unfolding log_bytes bucket_bytes log_part
      log_bytes_lem =
          part-part flash (c * bucket_size z) (bucket_size z) _ _ stored (in_flash z flash c (bucket_size z) readable.flash_length (on_chip z c bucket) (le_refl (bucket_size z)))
          ∙ rw (pages_said, extent_said)

      pub log_laid : (base : List ℕ)
          → merge_to z (chip flash spare) c base (k + 1) ≡ splice (merge_to z (chip flash spare) c base k) f.offset (log_part z c k f flash)
      unfolding merge_to
      log_laid base = rw (add-one k, complete, offset_said, log_bytes_lem)

    pub ends_last : ends_log z (spare_only spare) c k ≡ true → f.ordinal + 1 ≡ f.pages
    unfolding ends_log tag_of
    ends_last e = eqb-true (f.ordinal + 1) f.pages (sym ends ∙ e)

  -- it is not, and nothing is laid
  pub log_lacking : (k : ℕ) → ends_log z (spare_only spare) c k ≡ false → (base : List ℕ) → merge_to z (chip flash spare) c base (k + 1) ≡ merge_to z (chip flash spare) c base k
  unfolding merge_to ends_log tag_of
  log_lacking k lacking base = rw (add-one k, lacking)

  -- as for a page that is not programmed
  pub nothing_ends : (k : ℕ) → programmed (tag_of z (spare_only spare) c k) ≡ false → ends_log z (spare_only spare) c k ≡ false
  unfolding ends_log
  nothing_ends k e = rw e

  blank_ends : (k : ℕ) → z.p - blanks z (spare_only spare) c ≤ k → k < z.p → ends_log z (spare_only spare) c k ≡ false
  blank_ends k h page =
      let fits = (formed_of z (spare_only spare) readable.body_formed).buckets_fit c bucket in
      nothing_ends k (blank_unprogrammed (tag_of z (spare_only spare) c k) (blank_from_lem z (spare_only spare) c fits k page ∙ le-leb (z.p - blanks z (spare_only spare) c) k h))

  -- nor by the blank pages at the end
  pub merged-used : (base : List ℕ) → merge_to z (chip flash spare) c base (z.p - blanks z (spare_only spare) c) ≡ merge_to z (chip flash spare) c base z.p
  merged-used base =
      let last : (z.p - blanks z (spare_only spare) c) + (z.p - (z.p - blanks z (spare_only spare) c)) ≡ z.p = omega arith in
      sym (ap (merge_to z (chip flash spare) c base) (sym last) ∙ go (z.p - (z.p - blanks z (spare_only spare) c)) (omega arith))
    where
      go : (n : ℕ) → (z.p - blanks z (spare_only spare) c) + n ≤ z.p
          → merge_to z (chip flash spare) c base ((z.p - blanks z (spare_only spare) c) + n) ≡ merge_to z (chip flash spare) c base (z.p - blanks z (spare_only spare) c)
      go zero h = ap (merge_to z (chip flash spare) c base) (add-zero (z.p - blanks z (spare_only spare) c))
      go (suc n) h =
          let k = (z.p - blanks z (spare_only spare) c) + n in
          let next : (z.p - blanks z (spare_only spare) c) + suc n ≡ k + 1 = omega arith in
          ap (merge_to z (chip flash spare) c base) next ∙ log_lacking k (blank_ends k (omega arith) (omega arith)) base ∙ go n (omega arith)
