-- A chip of bytes, of the right lengths, and what is read from the line of one of its pages.
use Prim.Native.Nat.{ℕ, ◌*◌, ◌/◌, ◌%◌, ◌<◌}
use mathlib.Core.Path.{◌≡◌, sym, ap, ◌∙◌}
use mathlib.Core.Bool.{true}
use mathlib.Core.List.{◌++◌}
use native.Mathlib.Omega.{arith}
use native.Mathlib.Nat.{div-add-mod', mod-lt, lt_of_mul-lt-mul_right}
use lib.ListN.{length, take, drop}
use lib.Seq.{take-append_seam, drop-append_seam}
use borrow.Author.Tests.{eq-eqb, lt-ltb}
use Rattle.lists.specs.Lists.{all, part}
use Rattle.lists.proofs.Tests.{and-true, every_more, every-none}
use Rattle.lists.proofs.Arrays.{all_append}
use Rattle.lists.proofs.Splices.{all-part}
use Rattle.model.specs.declared.Sizes.{Sizes}
use Rattle.model.specs.Sizes.{Device, flash_size, spare_size, page_index}
use Rattle.model.specs.Stores.{page_tag, page_data}
use Rattle.model.specs.Spare.{two}
use Rattle.model.specs.Driving.{is_digit, bytes_of, digits_of}
use Rattle.model.specs.Mail.{frame_bucket, frame_page, frame_tag, frame_data, line_reads, place_of, is_listed, page_frame, is_byte}
use Rattle.model.proofs.Limits.{Limits}
use Rattle.model.proofs.Digits.{digits_length, digits_said, digits_back}
use Rattle.model.proofs.MailLengths.{tag-length, page_frame-length}

pub record Chip (z : Sizes) (d : Device) : Type 0 where
  pub bounds : Limits z
  pub flash_is : length d.flash ≡ flash_size z
  pub spare_is : length d.spare ≡ spare_size z
  pub flash_bytes : all is_byte d.flash ≡ true
  pub spare_bytes : all is_byte d.spare ≡ true

module _ (z : Sizes) (d : Device) (chip : Chip z d) (g : ℕ) (h : g < z.c * z.p) where
  bucket_in : g / z.p < z.c
  bucket_in = lt_of_mul-lt-mul_right z.p (omega (arith, div-add-mod' g z.p))

  page_in : g % z.p < z.p
  page_in = mod-lt g chip.bounds.p_low

  frame_bytes : all is_byte (page_frame z d g) ≡ true
  unfolding page_frame page_data all is_byte
  frame_bytes =
      let c = g / z.p in
      rw (
        lt-ltb (c / 256) 256 (omega (arith, bucket_in, chip.bounds.c_high)),
        lt-ltb (c % 256) 256 (omega arith),
        lt-ltb (g % z.p) 256 (omega (arith, page_in, chip.bounds.p_high)),
        all_append is_byte (page_tag d g) (part d.flash (g * z.s) z.s),
      )
      (and-true (all-part is_byte d.spare (g * 16) 16 chip.spare_bytes) (all-part is_byte d.flash (g * z.s) z.s chip.flash_bytes))

  pub line_said : all is_digit (digits_of (page_frame z d g)) ≡ true
  line_said = digits_said (page_frame z d g) frame_bytes

  frame_back : bytes_of (digits_of (page_frame z d g)) ≡ page_frame z d g
  frame_back = digits_back (page_frame z d g) frame_bytes

  sixteen : length (page_tag d g) ≡ 16
  sixteen = tag-length z d chip.flash_is chip.spare_is g h

  bucket_back : frame_bucket (bytes_of (digits_of (page_frame z d g))) ≡ g / z.p
  unfolding frame_bucket two page_frame
  bucket_back = rw frame_back (omega arith)

  page_back : frame_page (bytes_of (digits_of (page_frame z d g))) ≡ g % z.p
  unfolding frame_page page_frame
  page_back = rw frame_back

  pub tag_back : frame_tag (bytes_of (digits_of (page_frame z d g))) ≡ page_tag d g
  unfolding frame_tag part page_frame
  tag_back = rw frame_back (ap (λ (n : ℕ). take n (page_tag d g ++ page_data z d g)) (sym sixteen) ∙ take-append_seam (page_tag d g) (page_data z d g))

  pub data_back : frame_data (bytes_of (digits_of (page_frame z d g))) ≡ page_data z d g
  unfolding frame_data page_frame
  data_back = rw frame_back (ap (λ (n : ℕ). drop n (page_tag d g ++ page_data z d g)) (sym sixteen) ∙ drop-append_seam (page_tag d g) (page_data z d g))

  pub place_back : place_of z (digits_of (page_frame z d g)) ≡ g
  unfolding place_of page_index
  place_back = rw (bucket_back, page_back) (div-add-mod' g z.p)

  pub line_reads_lem : is_listed z d g ≡ true → line_reads z (digits_of (page_frame z d g)) ≡ true
  unfolding line_reads is_listed
  line_reads_lem u =
      every_more _ _ line_said
      (every_more _ _ (eq-eqb _ _ (digits_length (page_frame z d g) ∙ ap (λ (n : ℕ). n * 2) (page_frame-length z d chip.flash_is chip.spare_is g h)))
      (every_more _ _ (rw bucket_back (lt-ltb (g / z.p) z.c bucket_in))
      (every_more _ _ (rw page_back (lt-ltb (g % z.p) z.p page_in))
      (every_more _ _ (rw tag_back u) every-none))))
