-- A line laid onto a chip: its page is the line's, every other page stays, and the chip is again one of bytes.
use Prim.Native.Nat.{ℕ, ◌+◌, ◌*◌, ◌<◌, ◌≤◌}
use mathlib.Core.Path.{◌≡◌, sym, ap₂, ◌∙◌, subst}
use mathlib.Core.Logic.{◌≢◌}
use mathlib.Core.Bool.{true}
use mathlib.Core.List.{List}
use native.Mathlib.Nat.{mul_assoc}
use lib.ListN.{length}
use Rattle.lists.specs.Lists.{all, splice, part}
use Rattle.lists.proofs.Parts.{length-splice, part_same, part_other}
use Rattle.lists.proofs.Arrays.{all_drop}
use Rattle.lists.proofs.Splices.{all-part, all-splice}
use Rattle.model.specs.declared.Sizes.{Sizes}
use Rattle.model.specs.Sizes.{Device, bucket_size, flash_size, spare_size}
use Rattle.model.specs.Stores.{apply, page_tag, page_data}
use Rattle.model.specs.Driving.{bytes_of}
use Rattle.model.specs.Mail.{frame_tag, frame_data, line_reads, place_of, line_store, is_byte}
use Rattle.model.proofs.Digits.{bytes_said}
use Rattle.model.proofs.Frames.{row_fits_lem, row_apart}
use Rattle.model.proofs.MailLines.{line_digits, place_below, tag_size, data_size}
use Rattle.model.proofs.MailChip.{Chip}

-- bytes for row q of a list of n rows of m bytes
record Row (l : List ℕ) (n m q : ℕ) (bs : List ℕ) : Type 0 where
  rows : length l ≡ n * m
  inside : q < n
  whole : length bs ≡ m

module _ (l : List ℕ) (n m q : ℕ) (bs : List ℕ) (r : Row l n m q bs) where
  row_room : q * m + length bs ≤ length l
  row_room = rw (r.whole, r.rows) (row_fits_lem q n m r.inside)

  row_laid : part (splice l (q * m) bs) (q * m) m ≡ bs
  row_laid = subst (λ (k : ℕ). part (splice l (q * m) bs) (q * m) k ≡ bs) r.whole (part_same l (q * m) bs row_room)

  row_stays : (g : ℕ) → q ≢ g → part (splice l (q * m) bs) (g * m) m ≡ part l (g * m) m
  row_stays g ne = part_other l (q * m) bs (g * m) m row_room (rw r.whole (row_apart q g m ne))

pub flash_rows : (z : Sizes) (d : Device) → Chip z d → length d.flash ≡ z.c * z.p * z.s
unfolding flash_size bucket_size
flash_rows z d chip = chip.flash_is ∙ sym (mul_assoc z.c z.p z.s)

pub spare_rows : (z : Sizes) (d : Device) → Chip z d → length d.spare ≡ z.c * z.p * 16
unfolding spare_size
spare_rows z d chip = chip.spare_is

-- the spare bytes and the data of a page
abbrev pub page : Sizes → Device → ℕ → List ℕ × List ℕ
page z d g = (page_tag d g, page_data z d g)

module _ (z : Sizes) (l : List ℕ) (h : line_reads z l ≡ true) (d : Device) (chip : Chip z d) where
  tag-row : Row d.spare (z.c * z.p) 16 (place_of z l) (frame_tag (bytes_of l))
  tag-row = record { rows = spare_rows z d chip; inside = place_below z l h; whole = tag_size z l h }

  data_row : Row d.flash (z.c * z.p) z.s (place_of z l) (frame_data (bytes_of l))
  data_row = record { rows = flash_rows z d chip; inside = place_below z l h; whole = data_size z l h }

  pub page_laid : page z (apply z d (line_store z l)) (place_of z l) ≡ (frame_tag (bytes_of l), frame_data (bytes_of l))
  unfolding apply line_store place_of page_data
  page_laid = ap₂ (λ t b. (t, b)) (row_laid _ _ _ _ _ tag-row) (row_laid _ _ _ _ _ data_row)

  pub page_stays : (g : ℕ) → place_of z l ≢ g → page z (apply z d (line_store z l)) g ≡ page z d g
  unfolding apply line_store place_of page_data
  page_stays g ne = ap₂ (λ t b. (t, b)) (row_stays _ _ _ _ _ tag-row g ne) (row_stays _ _ _ _ _ data_row g ne)

  bytes : all is_byte (bytes_of l) ≡ true
  bytes = bytes_said l (line_digits z l h)

  pub chip_laid : Chip z (apply z d (line_store z l))
  unfolding apply line_store place_of frame_tag frame_data
  chip_laid = record {
    bounds = chip.bounds;
    flash_is = length-splice d.flash (place_of z l * z.s) (frame_data (bytes_of l)) (row_room _ _ _ _ _ data_row) ∙ chip.flash_is;
    spare_is = length-splice d.spare (place_of z l * 16) (frame_tag (bytes_of l)) (row_room _ _ _ _ _ tag-row) ∙ chip.spare_is;
    flash_bytes = all-splice is_byte d.flash (place_of z l * z.s) (frame_data (bytes_of l)) chip.flash_bytes (all_drop is_byte 19 (bytes_of l) bytes);
    spare_bytes = all-splice is_byte d.spare (place_of z l * 16) (frame_tag (bytes_of l)) chip.spare_bytes (all-part is_byte (bytes_of l) 3 16 bytes);
  }
