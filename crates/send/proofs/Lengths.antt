-- Where the bytes of a page lie, and that its line has room.
use Prim.Native.Nat.{ℕ, zero, suc, ◌+◌, ◌*◌, ◌-◌, ◌<◌, ◌≤◌}
use mathlib.Core.Path.{◌≡◌}
use mathlib.Core.Bool.{Bool, true, false}
use mathlib.Core.List.{List}
use native.Mathlib.Nat.{add-zero, add-suc, mul_assoc, mul-le-mul_right}
use native.Mathlib.Omega.{arith}
use lib.ListN.{length}
use Rattle.std.specs.Prelude.{if◌then◌else◌}
use Rattle.lists.specs.Lists.{below, keep, count_below, concat_map}
use Rattle.lists.proofs.Turns.{count_more}
use Rattle.model.specs.declared.Sizes.{Sizes}
use Rattle.model.specs.Sizes.{Device, bucket_size, flash_size, spare_size}
use Rattle.model.specs.Mail.{is_listed, page_line, text_of}
use Rattle.model.proofs.MailLengths.{lines_length, text_length}
use Rattle.geometry.proofs.Places.{nth_inside}
use Rattle.send.specs.Text.{line_length}

-- a page by its place among all pages of the chip
module _ (z : Sizes) (g : ℕ) (h : g < z.c * z.p) where
  pub tag_inside : g * 16 + 16 ≤ spare_size z
  unfolding spare_size
  tag_inside = nth_inside g (z.c * z.p) 16 h

  pub data_inside : g * z.s + z.s ≤ flash_size z
  unfolding flash_size bucket_size
  data_inside = rw mul_assoc at (nth_inside g (z.c * z.p) z.s h)

count_grows : (m k : ℕ) (t : ℕ → Bool) → count_below m t ≤ count_below (m + k) t
unfolding count_below
count_grows m zero t = rw add-zero (omega arith)
count_grows m (suc k) t = rw add-suc (go (t (m + k)) (count_grows m k t))
  where
    go : (s : Bool) → count_below m t ≤ count_below (m + k) t → count_below m t ≤ (if s then count_below (m + k) t + 1 else count_below (m + k) t)
    go true r = omega arith
    go false r = r

module _ (z : Sizes) (d : Device) where
  -- the lines of the pages below n
  abbrev pub lines_below : ℕ → List ℕ
  lines_below n = concat_map (page_line z d) (keep (is_listed z d) (below n))

  module _ (flash_is : length d.flash ≡ flash_size z) (spare_is : length d.spare ≡ spare_size z) where
    -- the next line has room in the whole text
    pub line_fits_lem : (g : ℕ) → g < z.c * z.p → is_listed z d g ≡ true → length (lines_below g) + line_length z ≤ length (text_of z d)
    line_fits_lem g h e =
        let rest : g + 1 + (z.c * z.p - (g + 1)) ≡ z.c * z.p = omega arith in
        let all = mul-le-mul_right (line_length z) (rw rest at (count_grows (g + 1) (z.c * z.p - (g + 1)) (is_listed z d))) in
        omega (arith, lines_length z d flash_is spare_is g (omega arith), text_length z d flash_is spare_is, rw (count_more g (is_listed z d) e) at all)
