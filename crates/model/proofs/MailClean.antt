-- The image of a text that is accepted: a chip of bytes whose blank pages are FF throughout.
use Prim.Native.Nat.{ℕ, zero, suc, ◌*◌, ◌<◌}
use mathlib.Core.Path.{◌≡◌, refl, sym, ap, ap₂, ◌∙◌}
use mathlib.Core.Bool.{Bool, true, false, not, true≢false}
use mathlib.Core.List.{List, [], ◌∷◌, map}
use native.Mathlib.Nat.{mul_assoc}
use native.Mathlib.Decide.{ℕ_discrete}
use Rattle.std.specs.Prelude.{if◌then◌else◌}
use Rattle.lists.specs.Lists.{below, all, concat_map, ff}
use Rattle.lists.proofs.Tests.{and_left, and_right}
use Rattle.lists.proofs.Parts.{length-ff, part-ff}
use Rattle.lists.proofs.Joins.{concat_alike, concat_whole}
use Rattle.model.specs.declared.Sizes.{Sizes}
use Rattle.model.specs.Sizes.{Device, bucket_size, flash_size, spare_size}
use Rattle.model.specs.Stores.{apply, apply_all, page_tag, page_data}
use Rattle.model.specs.Spare.{blank}
use Rattle.model.specs.Driving.{bytes_of, lines_of}
use Rattle.model.specs.Mail.{frame_tag, frame_data, line_reads, place_of, line_store, text_fault, erased_chip, image_of, is_listed, cleaned, is_byte}
use Rattle.model.proofs.Limits.{Limits}
use Rattle.model.proofs.Frames.{row_fits_lem}
use Rattle.model.proofs.MailLines.{all_read, tag_listed}
use Rattle.model.proofs.MailChip.{Chip}
use Rattle.model.proofs.MailLaid.{page, flash_rows, spare_rows, page_laid, page_stays, chip_laid}

-- ---- the erased chip

ff_bytes : (n : ℕ) → all is_byte (ff n) ≡ true
unfolding all is_byte
ff_bytes zero = refl
ff_bytes (suc n) = ff_bytes n

pub chip_erased : (z : Sizes) (d : Device) → Limits z → Chip z (erased_chip z d)
unfolding erased_chip
chip_erased z d bounds = record {
  bounds = bounds;
  flash_is = length-ff (flash_size z);
  spare_is = length-ff (spare_size z);
  flash_bytes = ff_bytes (flash_size z);
  spare_bytes = ff_bytes (spare_size z);
}

pub page_erased : (z : Sizes) (d : Device) (g : ℕ) → g < z.c * z.p → page z (erased_chip z d) g ≡ (ff 16, ff z.s)
unfolding erased_chip flash_size spare_size bucket_size page_data
page_erased z d g h = ap₂ (λ t b. (t, b))
    (part-ff (z.c * z.p * 16) (g * 16) 16 (row_fits_lem g (z.c * z.p) 16 h))
    (part-ff (z.c * (z.p * z.s)) (g * z.s) z.s (rw (← mul_assoc z.c z.p z.s) (row_fits_lem g (z.c * z.p) z.s h)))

-- ---- line by line

-- its blank pages are FF throughout
pub record Clean (z : Sizes) (d : Device) : Type 0 where
  pub chip : Chip z d
  pub blanks : (g : ℕ) → g < z.c * z.p → is_listed z d g ≡ false → page_data z d g ≡ ff z.s

module _ (z : Sizes) where
  clean_laid : (l : List ℕ) (d : Device) → line_reads z l ≡ true → Clean z d → Clean z (apply z d (line_store z l))
  unfolding is_listed
  clean_laid l d h c = record {
    chip = chip_laid z l h d c.chip;
    blanks = λ g hg u. go g hg u (ℕ_discrete (place_of z l) g);
  }
    where
      next : Device
      next = apply z d (line_store z l)

      laid : page z next (place_of z l) ≡ (frame_tag (bytes_of l), frame_data (bytes_of l))
      laid = page_laid z l h d c.chip

      go : (g : ℕ) → g < z.c * z.p → not (blank (page_tag next g)) ≡ false → Dec (place_of z l ≡ g) → page_data z next g ≡ ff z.s
      go g hg u (yes e) =
          let own : page_tag next g ≡ frame_tag (bytes_of l) = ap (page_tag next) (sym e) ∙ ap (λ p. p.0) laid in
          absurd (true≢false (sym (tag_listed z l h) ∙ (ap (λ t. not (blank t)) (sym own) ∙ u)))
      go g hg u (no ne) =
          let stays : page z next g ≡ page z d g = page_stays z l h d c.chip g ne in
          ap (λ p. p.1) stays ∙ c.blanks g hg (ap (λ p. not (blank p.0)) (sym stays) ∙ u)

  clean_lines : (ls : List (List ℕ)) (d : Device) → all (line_reads z) ls ≡ true → Clean z d → Clean z (apply_all z d (map (line_store z) ls))
  unfolding apply_all all
  clean_lines [] d h c = c
  clean_lines (l ∷ ls) d h c =
      clean_lines ls (apply z d (line_store z l)) (and_right (line_reads z l) (all (line_reads z) ls) h)
      (clean_laid l d (and_left (line_reads z l) (all (line_reads z) ls) h) c)

  pub clean_image : (d : Device) (text : List ℕ) → Limits z → text_fault z text ≡ 0 → Clean z (image_of z d text)
  unfolding image_of text_fault
  clean_image d text bounds h =
      clean_lines (lines_of text) (erased_chip z d) (all_read z [] (lines_of text) h) (record {
        chip = chip_erased z d bounds;
        blanks = λ g hg u. ap (λ p. p.1) (page_erased z d g hg);
      })

  disk_lines : (d : Device) (ls : List (List ℕ)) → (apply_all z d (map (line_store z) ls)).disk ≡ d.disk
  unfolding apply_all apply line_store
  disk_lines d [] = refl
  disk_lines d (l ∷ ls) = disk_lines (apply z d (line_store z l)) ls

  pub disk_image : (d : Device) (text : List ℕ) → (image_of z d text).disk ≡ d.disk
  unfolding image_of erased_chip
  disk_image d text = disk_lines (erased_chip z d) (lines_of text)

  -- ---- page by page

  pages_flash : (d : Device) → Chip z d → concat_map (page_data z d) (below (z.c * z.p)) ≡ d.flash
  unfolding page_data
  pages_flash d chip = concat_whole d.flash z.s (z.c * z.p) (flash_rows z d chip)

  pages_spare : (d : Device) → Chip z d → concat_map (page_tag d) (below (z.c * z.p)) ≡ d.spare
  pages_spare d chip = concat_whole d.spare 16 (z.c * z.p) (spare_rows z d chip)

  -- the data of a page of the cleaned chip
  abbrev pub clean_data : Device → ℕ → List ℕ
  clean_data d g = if is_listed z d g then page_data z d g else ff z.s

  pub is_cleaned : (d e : Device) → Chip z d → Chip z e → ((g : ℕ) → g < z.c * z.p → page_tag e g ≡ page_tag d g)
      → ((g : ℕ) → g < z.c * z.p → page_data z e g ≡ clean_data d g) → e.disk ≡ d.disk → e ≡ cleaned z d
  unfolding cleaned
  is_cleaned d e cd ce tags bytes disk =
      let flash : e.flash ≡ concat_map (clean_data d) (below (z.c * z.p)) = sym (pages_flash e ce) ∙ concat_alike (page_data z e) (clean_data d) (z.c * z.p) bytes in
      let spare : e.spare ≡ d.spare = sym (pages_spare e ce) ∙ (concat_alike (page_tag e) (page_tag d) (z.c * z.p) tags ∙ pages_spare d cd) in
      λ i. record { flash = flash i; spare = spare i; disk = disk i }

  -- a clean chip is cleaned already
  pub clean_same : (d : Device) → Clean z d → d ≡ cleaned z d
  clean_same d c = is_cleaned d d c.chip c.chip (λ g h. refl) (λ g h. go g h (is_listed z d g) refl) refl
    where
      go : (g : ℕ) → g < z.c * z.p → (t : Bool) → is_listed z d g ≡ t → page_data z d g ≡ (if t then page_data z d g else ff z.s)
      go g h true u = refl
      go g h false u = c.blanks g h u
