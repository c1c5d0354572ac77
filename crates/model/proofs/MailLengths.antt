-- How long the written lines are, and the text.
use Prim.Native.Nat.{ℕ, ◌+◌, ◌*◌, ◌<◌, ◌≤◌}
use mathlib.Core.Path.{◌≡◌, ap, ◌∙◌}
use mathlib.Core.List.{[], ◌∷◌}
use native.Mathlib.Omega.{arith}
use lib.ListN.{length, length-append}
use Rattle.lists.specs.Lists.{below, count_below, keep, concat_map}
use Rattle.lists.proofs.Parts.{length-part-fits}
use Rattle.lists.proofs.Orders.{kept_below}
use Rattle.lists.proofs.Filters.{length_kept}
use Rattle.lists.proofs.Joins.{concat_length}
use Rattle.model.specs.declared.Sizes.{Sizes}
use Rattle.model.specs.Sizes.{Device, bucket_size, flash_size, spare_size}
use Rattle.model.specs.Stores.{page_tag, page_data}
use Rattle.model.specs.Driving.{digits_of}
use Rattle.model.specs.Mail.{is_listed, page_frame, page_line, text_of}
use Rattle.model.proofs.Digits.{digits_length}
use Rattle.model.proofs.Frames.{row_fits_lem}

module _ (z : Sizes) (d : Device) (flash_is : length d.flash ≡ flash_size z) (spare_is : length d.spare ≡ spare_size z) (g : ℕ) (h : g < z.c * z.p) where
  pub tag-length : length (page_tag d g) ≡ 16
  unfolding spare_size
  tag-length = length-part-fits d.spare (g * 16) 16 (rw spare_is (row_fits_lem g (z.c * z.p) 16 h))

  pub data_length : length (page_data z d g) ≡ z.s
  unfolding page_data flash_size bucket_size
  data_length = length-part-fits d.flash (g * z.s) z.s (rw flash_is (omega (arith, row_fits_lem g (z.c * z.p) z.s h)))

  pub page_frame-length : length (page_frame z d g) ≡ 19 + z.s
  unfolding page_frame
  page_frame-length = omega (arith, length-append (page_tag d g) (page_data z d g), tag-length, data_length)

  pub line_length_lem : length (page_line z d g) ≡ (19 + z.s) * 2 + 1
  unfolding page_line
  line_length_lem = length-append (digits_of (page_frame z d g)) (10 ∷ []) ∙ omega (arith, digits_length (page_frame z d g), page_frame-length)

module _ (z : Sizes) (d : Device) (flash_is : length d.flash ≡ flash_size z) (spare_is : length d.spare ≡ spare_size z) where
  -- the lines of the pages below n
  pub lines_length : (n : ℕ) → n ≤ z.c * z.p
      → length (concat_map (page_line z d) (keep (is_listed z d) (below n))) ≡ count_below n (is_listed z d) * ((19 + z.s) * 2 + 1)
  lines_length n h =
      concat_length (page_line z d) ((19 + z.s) * 2 + 1) (keep (is_listed z d) (below n))
      (λ g q. line_length_lem z d flash_is spare_is g (omega (arith, (kept_below (is_listed z d) g n q).1)))
      ∙ ap (λ (k : ℕ). k * ((19 + z.s) * 2 + 1)) (length_kept (is_listed z d) n)

  pub text_length : length (text_of z d) ≡ count_below (z.c * z.p) (is_listed z d) * ((19 + z.s) * 2 + 1)
  unfolding text_of
  text_length = lines_length (z.c * z.p) (omega arith)
