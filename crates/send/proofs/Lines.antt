-- A line laid into the text, and the lines one behind the other.
use Prim.Native.Nat.{ℕ, ◌+◌, ◌*◌, ◌<◌, ◌≤◌}
use mathlib.Core.Path.{◌≡◌, sym, ap, ◌∙◌}
use mathlib.Core.Bool.{true, false}
use mathlib.Core.List.{List, [], ◌∷◌, ◌++◌, append_assoc}
use native.Mathlib.Omega.{arith}
use lib.ListN.{length, set, length-append}
use Rattle.lists.specs.Lists.{below, keep, concat_map, splice}
use Rattle.lists.proofs.Parts.{length-splice}
use Rattle.lists.proofs.Filters.{take_more, pass_more}
use Rattle.lists.proofs.Rows.{concat_more}
use Rattle.lists.proofs.Splices.{splice_one, splice_next}
use Rattle.model.specs.declared.Sizes.{Sizes}
use Rattle.model.specs.Sizes.{Device, flash_size, spare_size}
use Rattle.model.specs.Driving.{digits_of}
use Rattle.model.specs.Mail.{is_listed, page_line, text_of}
use Rattle.model.proofs.Digits.{digits_append, digits_length}
use Rattle.send.specs.Text.{line_length}
use Rattle.model.proofs.MailLengths.{line_length_lem}
use Rattle.send.proofs.Lengths.{lines_below, line_fits_lem}

-- the digits of more bytes
digits_next : (l : List ℕ) (at : ℕ) (xs ys : List ℕ) → at + length xs * 2 ≤ length l
    → splice (splice l at (digits_of xs)) (at + length xs * 2) (digits_of ys) ≡ splice l at (digits_of (xs ++ ys))
digits_next l at xs ys h =
    ap (λ (n : ℕ). splice (splice l at (digits_of xs)) (at + n) (digits_of ys)) (sym (digits_length xs))
    ∙ splice_next l at (digits_of xs) (digits_of ys) (omega (arith, digits_length xs))
    ∙ rw (digits_append xs ys)

-- the line feed
feed_next : (l : List ℕ) (at : ℕ) (xs : List ℕ) → at + length xs * 2 + 1 ≤ length l
    → set (splice l at (digits_of xs)) (at + length xs * 2) 10 ≡ splice l at (digits_of xs ++ (10 ∷ []))
feed_next l at xs h =
    let e = digits_length xs in
    let s = length-splice l at (digits_of xs) (omega arith) in
    splice_one (splice l at (digits_of xs)) (at + length xs * 2) 10 (omega arith)
    ∙ ap (λ (n : ℕ). splice (splice l at (digits_of xs)) (at + n) (10 ∷ [])) (sym e)
    ∙ splice_next l at (digits_of xs) (10 ∷ []) (omega arith)

-- three runs of bytes and the line feed
pub put_frame : (l : List ℕ) (at : ℕ) (place tag bytes : List ℕ) → at + (length place + length tag + length bytes) * 2 + 1 ≤ length l
    → set (splice (splice (splice l at (digits_of place)) (at + length place * 2) (digits_of tag)) (at + length place * 2 + length tag * 2) (digits_of bytes))
    (at + length place * 2 + length tag * 2 + length bytes * 2) 10
    ≡ splice l at (digits_of (place ++ (tag ++ bytes)) ++ (10 ∷ []))
put_frame l at place tag bytes h =
    let two = length-append place tag in
    let three = length-append (place ++ tag) bytes in
    let bytes-at : at + length place * 2 + length tag * 2 ≡ at + length (place ++ tag) * 2 = omega arith in
    let end : at + length (place ++ tag) * 2 + length bytes * 2 ≡ at + length ((place ++ tag) ++ bytes) * 2 = omega arith in
    rw (
      digits_next l at place tag (omega arith),
      bytes-at,
      digits_next l at (place ++ tag) bytes (omega arith),
      end,
      feed_next l at ((place ++ tag) ++ bytes) (omega arith),
      append_assoc place tag bytes,
    )

-- ---- one more page

module _ (z : Sizes) (d : Device) where
  lines_more : (g : ℕ) → is_listed z d g ≡ true → lines_below z d (g + 1) ≡ lines_below z d g ++ page_line z d g
  lines_more g e = ap (concat_map (page_line z d)) (take_more (is_listed z d) g e) ∙ concat_more (page_line z d) (keep (is_listed z d) (below g)) g

  pub lines_same : (g : ℕ) → is_listed z d g ≡ false → lines_below z d (g + 1) ≡ lines_below z d g
  lines_same g e = ap (concat_map (page_line z d)) (pass_more (is_listed z d) g e)

  module _ (flash_is : length d.flash ≡ flash_size z) (spare_is : length d.spare ≡ spare_size z) where
    -- its line, behind those of the pages before it
    pub line_laid : (g : ℕ) → g < z.c * z.p → is_listed z d g ≡ true → (text : List ℕ) → length (text_of z d) ≤ length text
        → (length (lines_below z d g) + line_length z ≡ length (lines_below z d (g + 1)))
        × (splice (splice text 0 (lines_below z d g)) (length (lines_below z d g)) (page_line z d g) ≡ splice text 0 (lines_below z d (g + 1)))
    line_laid g h e text room =
        let before = lines_below z d g in
        let start : length before ≡ 0 + length before = omega arith in
        let fits = line_fits_lem z d flash_is spare_is g h e in (
          sym (ap length (lines_more g e) ∙ length-append before (page_line z d g) ∙ ap (λ (n : ℕ). length before + n) (line_length_lem z d flash_is spare_is g h)),
          ap (λ (n : ℕ). splice (splice text 0 before) n (page_line z d g)) start ∙ splice_next text 0 before (page_line z d g) (omega arith) ∙ rw (lines_more g e),
        )
