-- The tests of one line, in the order in which the code asks them.
use Prim.Native.Nat.{ℕ, ◌+◌, ◌*◌}
use mathlib.Core.Path.{◌≡◌, sym}
use mathlib.Core.Bool.{true, false, not, ◌&&◌}
use mathlib.Core.List.{List}
use lib.ListN.{length}
use lib.Dec.{ltb}
use borrow.Author.Tests.{eq-eqb, ne_eqb}
use Rattle.lists.specs.Lists.{every, all}
use Rattle.lists.proofs.Tests.{and_false, every_three}
use Rattle.model.specs.declared.Sizes.{Sizes}
use Rattle.model.specs.Spare.{blank}
use Rattle.model.specs.Driving.{is_digit, bytes_of}
use Rattle.model.specs.Mail.{frame_bucket, frame_page, frame_tag, line_reads}

module _ (z : Sizes) (line : List ℕ) where
  pub other_length : (length line ≡ (19 + z.s) * 2 → ⊥) → line_reads z line ≡ false
  unfolding line_reads every
  other_length h = rw (ne_eqb (length line) ((19 + z.s) * 2) h) (and_false (all is_digit line))

  pub other_characters : all is_digit line ≡ false → line_reads z line ≡ false
  unfolding line_reads every
  other_characters h = rw h

  pub well_written : length line ≡ (19 + z.s) * 2 → all is_digit line ≡ true
      → line_reads z line ≡ (let f = bytes_of line in ltb (frame_bucket f) z.c && ltb (frame_page f) z.p && not (blank (frame_tag f)))
  unfolding line_reads every
  well_written e h =
      let f = bytes_of line in
      rw (h, eq-eqb (length line) ((19 + z.s) * 2) e) (sym (every_three (ltb (frame_bucket f) z.c) (ltb (frame_page f) z.p) (not (blank (frame_tag f)))))
