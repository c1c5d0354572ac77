-- What a line that reads says, and that every line of a text without a fault is one.
use Prim.Native.Nat.{ℕ, ◌+◌, ◌*◌, ◌<◌}
use mathlib.Core.Path.{◌≡◌, refl, ◌∙◌}
use mathlib.Core.Bool.{Bool, true, false, not}
use mathlib.Core.List.{List, [], ◌∷◌}
use native.Mathlib.Omega.{arith}
use lib.ListN.{length, length-drop}
use lib.Dec.{eqb}
use borrow.Author.Tests.{ltb-true, eqb-true, eqb-false}
use Rattle.std.specs.Prelude.{if◌then◌else◌}
use Rattle.lists.specs.Lists.{all, member}
use Rattle.lists.proofs.Tests.{and-true, every_at}
use Rattle.lists.proofs.Parts.{length-part-fits}
use Rattle.model.specs.declared.Sizes.{Sizes}
use Rattle.model.specs.Tests.{first_failed}
use Rattle.model.specs.Sizes.{page_index}
use Rattle.model.specs.Spare.{blank}
use Rattle.model.specs.Driving.{is_digit, bytes_of}
use Rattle.model.specs.Mail.{frame_bucket, frame_page, frame_tag, frame_data, line_reads, place_of, line_tests, fault_in}
use Rattle.model.proofs.Calling.{first_passed}
use Rattle.model.proofs.Digits.{bytes_length}
use Rattle.model.proofs.Frames.{place_fits}

-- a line without a fault, and the lines behind it
module _ (z : Sizes) (given l : List ℕ) where
  pub line_passed : first_failed (line_tests z given l) ≡ 0 → (line_reads z l ≡ true) × (not (member (place_of z l) given) ≡ true)
  unfolding line_tests
  line_passed h =
      let nine = first_passed 8 _ _ h in
      let ten = first_passed 9 _ _ nine.1 in
      (nine.0, ten.0)

  pub none_faulty : (ls : List (List ℕ)) → fault_in z given (l ∷ ls) ≡ 0 → (first_failed (line_tests z given l) ≡ 0) × (fault_in z (place_of z l ∷ given) ls ≡ 0)
  unfolding fault_in
  none_faulty ls h = go (eqb (first_failed (line_tests z given l)) 0) refl h
    where
      go : (t : Bool) → eqb (first_failed (line_tests z given l)) 0 ≡ t → (if t then fault_in z (place_of z l ∷ given) ls else first_failed (line_tests z given l)) ≡ 0
          → (first_failed (line_tests z given l) ≡ 0) × (fault_in z (place_of z l ∷ given) ls ≡ 0)
      go true q e = (eqb-true _ 0 q, e)
      go false q e = absurd (eqb-false _ 0 q e)

pub all_read : (z : Sizes) (given : List ℕ) (ls : List (List ℕ)) → fault_in z given ls ≡ 0 → all (line_reads z) ls ≡ true
unfolding all
all_read z given [] h = refl
all_read z given (l ∷ ls) h =
    let none = none_faulty z given l ls h in
    and-true (line_passed z given l none.0).0 (all_read z (place_of z l ∷ given) ls none.1)

module _ (z : Sizes) (l : List ℕ) (h : line_reads z l ≡ true) where
  pub line_digits : all is_digit l ≡ true
  unfolding line_reads
  line_digits = every_at _ h 0

  pub frame_length : length (bytes_of l) ≡ 19 + z.s
  unfolding line_reads
  frame_length = let e : length l ≡ (19 + z.s) * 2 = eqb-true _ _ (every_at _ h 1) in omega (arith, bytes_length l)

  pub bucket_below : frame_bucket (bytes_of l) < z.c
  unfolding line_reads
  bucket_below = ltb-true _ _ (every_at _ h 2)

  pub page_below : frame_page (bytes_of l) < z.p
  unfolding line_reads
  page_below = ltb-true _ _ (every_at _ h 3)

  pub tag_listed : not (blank (frame_tag (bytes_of l))) ≡ true
  unfolding line_reads
  tag_listed = every_at _ h 4

  pub place_below : place_of z l < z.c * z.p
  unfolding place_of page_index
  place_below = place_fits (frame_bucket (bytes_of l)) (frame_page (bytes_of l)) z.c z.p bucket_below page_below

  pub tag_size : length (frame_tag (bytes_of l)) ≡ 16
  unfolding frame_tag
  tag_size = length-part-fits (bytes_of l) 3 16 (omega (arith, frame_length))

  pub data_size : length (frame_data (bytes_of l)) ≡ z.s
  unfolding frame_data
  data_size = length-drop 19 (bytes_of l) ∙ omega (arith, frame_length)
