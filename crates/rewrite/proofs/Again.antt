-- A text without a fault: it is read, the image's text has room in the buffer, and stands there behind the first line.
use mathlib.Core.Path.{◌≡◌, sym, ap, ◌∙◌}
use mathlib.Core.Bool.{true}
use mathlib.Core.List.{List, [], ◌∷◌, ◌++◌}
use Prim.Native.Nat.{ℕ, ◌+◌, ◌*◌, ◌-◌, ◌≤◌}
use native.Mathlib.Omega.{arith}
use native.Mathlib.Nat.{mul-le-mul_right}
use borrow.Author.Tests.{eq-eqb, le-leb}
use borrow.Rule.Slice.PartMut.{mid_of, put_mid}
use lib.ListN.{length, take, drop, length-append, length-take, length-drop}
use lib.Seq.{length-take-le, take-append_seam, take-append-add, take-append-le}
use Rattle.lists.specs.Lists.{splice}
use Rattle.lists.proofs.Rows.{count_le}
use Rattle.lists.proofs.Splices.{splice_start}
use Rattle.model.specs.declared.Sizes.{Sizes}
use Rattle.model.specs.declared.Answer.{Answer}
use Rattle.model.specs.declared.Answer.TheVariants.{Done}
use Rattle.model.specs.Tests.{Test, first_failed}
use Rattle.model.specs.Sizes.{Device, limits, flash_size, spare_size, bucket_size}
use Rattle.model.specs.Driving.{digits_of}
use Rattle.model.specs.Mail.{TextRead, TextWritten, chip_lengths, chip_tests, text_fault, read_tests, read_text, erased_chip, image_of, is_listed, text_of, write_tests, write_text}
use Rattle.model.proofs.Limits.{limits_of}
use Rattle.model.proofs.Digits.{digits_length}
use Rattle.model.proofs.MailLengths.{text_length}
use Rattle.geometry.specs.Geometry.{device}
use Rattle.geometry.proofs.Passed.{products}
use Rattle.receive.specs.Given.{text_read}
use Rattle.receive.proofs.Accepted.{text_taken}
use Rattle.send.specs.declared.Written.{Written}
use Rattle.send.specs.Text.{text_written}
use Rattle.send.proofs.Handed.{written_fits, written_text}
use Rattle.rewrite.specs.Rewrite.{no_chip}

-- the first line in the buffer
pub line_taken : (l sizes : List ℕ) → length sizes ≡ 9 → take 19 (splice l 0 (digits_of sizes ++ (10 ∷ []))) ≡ digits_of sizes ++ (10 ∷ [])
line_taken l sizes e =
    let line = digits_of sizes ++ (10 ∷ []) in
    let n : 19 ≡ length line = omega (arith, length-append (digits_of sizes) (10 ∷ []), digits_length sizes) in
    ap (take 19) (splice_start l line) ∙ ap (λ (k : ℕ). take k (line ++ drop (length line) l)) n ∙ take-append_seam line (drop (length line) l)

module _ (z : Sizes) (ok : limits z ≡ true) (d : Device) (flash_is : length d.flash ≡ flash_size z) (spare_is : length d.spare ≡ spare_size z) where
  chip_passes : (ts : List Test) → first_failed (chip_tests z d ++ ts) ≡ first_failed ts
  unfolding chip_tests chip_lengths first_failed
  chip_passes ts = rw (ok, eq-eqb (length d.flash) (flash_size z) flash_is, eq-eqb (length d.spare) (spare_size z) spare_is)

  text_reads : (text : List ℕ) → text_fault z text ≡ 0 → first_failed (read_tests z d text) ≡ 0
  unfolding read_tests first_failed
  text_reads text h = chip_passes _ ∙ rw h

  -- what was read is the image, of whatever chip
  pub image_read : (text flash spare : List ℕ) (answer : Answer) → d.disk ≡ [] → text_fault z text ≡ 0
      → text_read answer (device flash spare []) ≡ read_text z d text → device flash spare [] ≡ image_of z no_chip text
  unfolding image_of erased_chip
  image_read text flash spare answer bare h e =
      ap (λ (r : TextRead). r.device) (e ∙ sym (text_taken z d text (text_reads text h))) ∙ rw bare

  module _ (held : flash_size z ≤ 1048576) where
    -- 39 characters for each page, and two for each data byte
    text_short : length (text_of z d) ≤ 2736128
    unfolding flash_size bucket_size
    text_short =
        let l = limits_of z ok in
        omega (arith, text_length z d flash_is spare_is, mul-le-mul_right ((19 + z.s) * 2 + 1) (count_le (z.c * z.p) (is_listed z d)), (products l).pages, held)

    -- written into a buffer behind its first 19 bytes
    module _ (l after : List ℕ) (room : 2736147 ≤ length l) (w : Written) (e : text_written w after ≡ write_text z d (mid_of 19 (length l - 19) l)) where
      abbrev lent : List ℕ
      lent = mid_of 19 (length l - 19) l

      lent_length : length lent ≡ length l - 19
      lent_length = omega (arith, length-take (length l - 19) (drop 19 l), length-drop 19 l)

      writes : first_failed (write_tests z d (length lent)) ≡ 0
      unfolding write_tests first_failed
      writes = chip_passes _ ∙ rw (le-leb (length (text_of z d)) (length lent) (omega (arith, text_short, lent_length)))

      done : w.answer ≡ Done
      unfolding write_text
      done =
          let text = text_of z d in
          let taken : text_written w after ≡ record { answer = Done; length = length text; buffer = text ++ drop (length text) lent } = e ∙ rw writes in
          ap (λ (r : TextWritten). r.answer) taken

      pub length_put : length (put_mid 19 (length l - 19) l after) ≡ length l
      length_put =
          let behind = drop (length l - 19) (drop 19 l) in
          omega (
            arith,
            length-append (take 19 l) (after ++ behind),
            length-append after behind,
            length-take-le 19 l (omega arith),
            length-drop 19 l,
            length-drop (length l - 19) (drop 19 l),
            (written_fits z d w lent after e).1,
            lent_length,
          )

      pub put_fits : 19 + w.length ≤ length l
      put_fits = omega (arith, (written_fits z d w lent after e).0, (written_fits z d w lent after e).1, lent_length)

      pub put_text : take (19 + w.length) (put_mid 19 (length l - 19) l after) ≡ take 19 l ++ text_of z d
      put_text =
          let behind = drop (length l - 19) (drop 19 l) in
          let n : 19 ≡ length (take 19 l) = sym (length-take-le 19 l (omega arith)) in
          ap (λ (k : ℕ). take (k + w.length) (take 19 l ++ (after ++ behind))) n
          ∙ take-append-add (take 19 l) (after ++ behind) w.length
          ∙ ap (λ (t : List ℕ). take 19 l ++ t) (take-append-le w.length after behind (written_fits z d w lent after e).0 ∙ written_text z d w lent after e done)
