-- Pages that go on with a log: each has the halves of the page before it, but for the ordinal.
use mathlib.Core.Path.{◌≡◌, sym, ap, ◌∙◌}
use mathlib.Core.Bool.{Bool, true, ◌&&◌}
use mathlib.Core.List.{List}
use Prim.Native.Nat.{ℕ, ◌+◌, ◌*◌, ◌-◌, ◌≤◌, ◌<◌}
use native.Mathlib.Omega.{arith}
use lib.ListN.{length, get_or}
use lib.Dec.{eqb}
use borrow.Author.Tests.{eqb-true}
use Rattle.lists.specs.Lists.{part}
use Rattle.lists.proofs.Tests.{and_left, and_right, and-true}
use Rattle.lists.proofs.Turns.{all_more}
use Rattle.lists.proofs.Parts.{get_d_part, length-part-fits}
use Rattle.model.specs.declared.Sizes.{Sizes}
use Rattle.model.specs.Sizes.{page_index}
use Rattle.model.specs.Spare.{ordinal, pages, zeros}
use Rattle.model.specs.Stores.{tag_of}
use Rattle.model.proofs.Rules.{Ruled}
use Rattle.image.specs.Chip.{Chip, spare_only}
use Rattle.image.proofs.Place.{page_inside}
use Rattle.rules.specs.Pages.{low_first, fits_at, Fitting}
use Rattle.rules.proofs.Page.{later_page, ordinal-fits}
use Rattle.rules.proofs.Later.{fitting_ruled, runs_on}
use Rattle.rules.proofs.Halves.{next_below, next_bytes, next_ordinal, same_byte}

module _ (z : Sizes) (l : List ℕ) (c : ℕ) where
  -- where the spare bytes of page e start
  abbrev pub start : ℕ → ℕ
  start e = (c * z.p + e) * 16

  -- the pages below e fit; the last of them has these halves, and its log so many pages more
  pub record Run (e first second left : ℕ) : Type 0 where
    pub some : 1 ≤ e
    pub fits : Fitting z (spare_only l) c e
    pub first_is : low_first l (start e - 16) 8 ≡ first
    pub second_is : low_first l (start e - 8) 8 ≡ second
    pub more : get_or l (start e - 15) 0 + left < get_or l (start e - 14) 0

  module _ (chip : Chip z l) (inside : c < z.c) where
    -- the bytes of the page before e are inside
    pub start_inside : (e : ℕ) → 1 ≤ e → e ≤ z.p → start e ≤ length l
    start_inside e h g = let q : (c * z.p + (e - 1)) * 16 + 16 ≤ length l = page_inside chip inside (omega arith) in omega (arith, h)

    -- it fits, as those below it do
    before_fits : (e : ℕ) → 1 ≤ e → Fitting z (spare_only l) c e → Ruled z (spare_only l) c (e - 1)
    before_fits e h f = fitting_ruled z (spare_only l) c e f.1 (e - 1) (omega (arith, h))

    before_zeros : (e : ℕ) → 1 ≤ e → Fitting z (spare_only l) c e → zeros (part l (start e - 16) 16) ≡ true
    unfolding tag_of page_index
    before_zeros e h f = let b : start e - 16 ≡ (c * z.p + (e - 1)) * 16 = omega (arith, h) in rw b (before_fits e h f).fields.zeros_are

    pub ordinal-below : (e : ℕ) → 1 ≤ e → Fitting z (spare_only l) c e → get_or l (start e - 15) 0 < get_or l (start e - 14) 0
    unfolding ordinal pages tag_of page_index
    ordinal-below e h f =
        let at : ℕ = (c * z.p + (e - 1)) * 16 in
        let a : start e - 15 ≡ at + 1 = omega (arith, h) in
        let b : start e - 14 ≡ at + 2 = omega (arith, h) in
        rw (a, b, sym (get_d_part l at 16 1 (omega arith)), sym (get_d_part l at 16 2 (omega arith)))
        (ordinal-fits z (spare_only l) c (omega (arith, chip.limits.s_low)) (e - 1) (before_fits e h f))

    module _ (bytes : (i : ℕ) → get_or l i 0 < 256) (e first second left : ℕ) (run : Run e first second left) (one : 1 ≤ left) where
      at : ℕ
      at = start e - 16

      here : start e ≡ at + 16
      unfolding at
      here = omega (arith, run.some)

      more : get_or l (at + 1) 0 + left < get_or l (at + 2) 0
      unfolding at
      more =
          let a : start e - 16 + 1 ≡ start e - 15 = omega (arith, run.some) in
          let b : start e - 16 + 2 ≡ start e - 14 = omega (arith, run.some) in
          rw (a, b) run.more

      less : get_or l (at + 1) 0 + 1 < 256
      less = omega (arith, more, bytes (at + 2), one)

      -- the next ordinal does not leave its byte
      pub next_fits : first + 256 < 18446744073709551616
      unfolding at
      next_fits = let q : low_first l at 8 + 256 < 18446744073709551616 = next_below l bytes at less in omega (arith, run.first_is)

      module _ (below : e < z.p) (r : Bool) (tested : r ≡ (eqb (low_first l (start e) 8) (first + 256) && eqb (low_first l (start e + 8) 8) second))
          (passed : r ≡ true) where
        halves : (eqb (low_first l (start e) 8) (first + 256) && eqb (low_first l (start e + 8) 8) second) ≡ true
        halves = sym tested ∙ passed

        first_next : low_first l (start e) 8 ≡ first + 256
        first_next = eqb-true _ _ (and_left _ _ halves)

        second_same : low_first l (start e + 8) 8 ≡ second
        second_same = eqb-true _ _ (and_right (eqb (low_first l (start e) 8) (first + 256)) _ halves)

        first_half : low_first l (at + 16) 8 ≡ low_first l at 8 + 256
        unfolding at
        first_half = rw (sym here) (first_next ∙ ap (λ (x : ℕ). x + 256) (sym run.first_is))

        second_half : low_first l (at + 16 + 8) 8 ≡ low_first l (at + 8) 8
        unfolding at
        second_half = let a : start e - 16 + 8 ≡ start e - 8 = omega (arith, run.some) in
            rw (sym here, a) (second_same ∙ sym run.second_is)

        told : (get_or l (at + 16 + 1) 0 ≡ get_or l (at + 1) 0 + 1) × (get_or l (at + 16 + 2) 0 ≡ get_or l (at + 2) 0)
        told = next_bytes l bytes at less first_half second_half

        ends : at + 16 + 16 ≤ length l
        ends = omega (arith, here, page_inside chip inside below)

        more_next : ordinal (part l (at + 16) 16) < pages (part l (at + 16) 16)
        unfolding ordinal pages
        more_next = rw (get_d_part l (at + 16) 16 1 (omega arith), get_d_part l (at + 16) 16 2 (omega arith)) (omega (arith, told.0, told.1, more, one))

        fits_next : fits_at z (spare_only l) c e ≡ true
        unfolding tag_of page_index at
        fits_next =
            let b : (c * z.p + (e - 1)) * 16 ≡ at = omega (arith, run.some) in
            later_page z (spare_only l) c e (λ n. omega (arith, run.some))
            ∙ rw (here, b)
            (runs_on z (part l at 16) (part l (at + 16) 16) (length-part-fits l at 16 (omega (arith, ends))) (length-part-fits l (at + 16) 16 ends)
            (before_zeros e run.some run.fits)
            (next_ordinal l bytes at less first_half second_half) more_next
            (same_byte l bytes at less first_half second_half))

        pub run_grows : Run (e + 1) (first + 256) second (left - 1)
        run_grows =
            let a : start (e + 1) - 16 ≡ start e = omega arith in
            let b : start (e + 1) - 8 ≡ start e + 8 = omega arith in
            let o : start (e + 1) - 15 ≡ at + 16 + 1 = omega (arith, here) in
            let n : start (e + 1) - 14 ≡ at + 16 + 2 = omega (arith, here) in
            record {
              some = omega arith;
              fits = (omega (arith, below), all_more e (fits_at z (spare_only l) c) ∙ and-true run.fits.1 fits_next);
              first_is = rw a first_next;
              second_is = rw b second_same;
              more = rw (o, n) (omega (arith, told.0, told.1, more, one));
            }
