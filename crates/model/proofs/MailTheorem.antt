-- Chip images by mail: what is written is read back, and texts that are accepted agree by what they are rewritten to.
use Prim.Native.Nat.{ℕ}
use mathlib.Core.Path.{◌≡◌, refl, sym, ap, ◌∙◌}
use mathlib.Core.Bool.{Bool, true, false}
use mathlib.Core.List.{List, [], ◌∷◌}
use lib.ListN.{length}
use lib.Dec.{eqb}
use borrow.Author.Tests.{eqb-true}
use Rattle.std.specs.Prelude.{if◌then◌else◌}
use Rattle.lists.specs.Lists.{all}
use Rattle.lists.proofs.Tests.{and_left, and_right}
use Rattle.model.specs.declared.Sizes.{Sizes}
use Rattle.model.specs.Tests.{first_failed}
use Rattle.model.specs.Sizes.{Device, limits, flash_size, spare_size}
use Rattle.model.specs.Mail.{chip_lengths, chip_tests, text_fault, read_tests, erased_chip, image_of, text_of, Reads, is_byte, chip_bytes, ImagesByMail}
use Rattle.model.proofs.Limits.{limits_of}
use Rattle.model.proofs.Calling.{first_passed}
use Rattle.model.proofs.MailChip.{Chip}
use Rattle.model.proofs.MailClean.{Clean, clean_image, clean_same, disk_image}
use Rattle.model.proofs.MailBack.{text_accepted, text_image}
use Rattle.model.proofs.MailOrder.{lines_ordered}

record Passed (z : Sizes) (d : Device) (text : List ℕ) : Type 0 where
  in_limits : limits z ≡ true
  lent_whole : chip_lengths z d ≡ true
  no_fault : text_fault z text ≡ 0

-- the test that no line is faulty
none_faulty : (n : ℕ) → first_failed ((n, eqb n 0) ∷ []) ≡ 0 → n ≡ 0
unfolding first_failed
none_faulty n h = go (eqb n 0) refl h
  where
    go : (t : Bool) → eqb n 0 ≡ t → (if t then 0 else n) ≡ 0 → n ≡ 0
    go true e q = eqb-true n 0 e
    go false e q = q

module _ (z : Sizes) (d : Device) (text : List ℕ) where
  passed : Reads z d text → Passed z d text
  unfolding Reads read_tests chip_tests
  passed h =
      let one = first_passed 0 _ _ h in
      let two = first_passed 1 _ _ one.1 in
      record { in_limits = one.0; lent_whole = two.0; no_fault = none_faulty (text_fault z text) two.1 }

  accepted : Passed z d text → Reads z d text
  unfolding Reads read_tests chip_tests first_failed
  accepted p = rw (p.in_limits, p.lent_whole, p.no_fault)

chip_of : (z : Sizes) (d : Device) → limits z ≡ true → chip_lengths z d ≡ true → chip_bytes d ≡ true → Chip z d
unfolding chip_lengths chip_bytes
chip_of z d l n b = record {
  bounds = limits_of z l;
  flash_is = eqb-true _ _ (and_left (eqb (length d.flash) (flash_size z)) (eqb (length d.spare) (spare_size z)) n);
  spare_is = eqb-true _ _ (and_right (eqb (length d.flash) (flash_size z)) (eqb (length d.spare) (spare_size z)) n);
  flash_bytes = and_left (all is_byte d.flash) (all is_byte d.spare) b;
  spare_bytes = and_right (all is_byte d.flash) (all is_byte d.spare) b;
}

-- nothing of the device is in an image but its disk
image_same : (z : Sizes) (d e : Device) (text : List ℕ) → d.disk ≡ e.disk → image_of z d text ≡ image_of z e text
unfolding image_of erased_chip
image_same z d e text q = rw q

module _ (z : Sizes) (d : Device) (t : List ℕ) (r : Reads z d t) where
  abbrev image : Device
  image = image_of z d t

  pass : Passed z d t
  pass = passed z d t r

  clean : Clean z image
  clean = clean_image z d t (limits_of z pass.in_limits) pass.no_fault

  rewritten : Reads z d (text_of z image)
  rewritten = accepted z d (text_of z image) (record { in_limits = pass.in_limits; lent_whole = pass.lent_whole; no_fault = text_accepted z image clean.chip })

  -- the rewritten text is read as the same image
  again : image_of z d (text_of z image) ≡ image
  again = image_same z d image (text_of z image) (sym (disk_image z d t)) ∙ (text_image z image clean.chip ∙ sym (clean_same z image clean))

pub images_by_mail : ImagesByMail
images_by_mail = record {
  back = λ z d l n b. (
    accepted z d (text_of z d) (record { in_limits = l; lent_whole = n; no_fault = text_accepted z d (chip_of z d l n b) }),
    text_image z d (chip_of z d l n b),
  );
  ordered = lines_ordered;
  alike = λ z d t u r s. (
    λ e. ap (text_of z) e,
    λ e. sym (again z d t r) ∙ (ap (image_of z d) e ∙ again z d u s),
  );
  settled = λ z d t r. (rewritten z d t r, ap (text_of z) (again z d t r));
}
