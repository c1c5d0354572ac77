-- What the writer wrote is accepted, and read as the chip with its blank pages FF throughout.
use Prim.Native.Nat.{ℕ, ◌+◌, ◌*◌, ◌<◌, ◌≤◌}
use mathlib.Core.Path.{◌≡◌, refl, sym, ap, ap₂, ◌∙◌}
use mathlib.Core.Bool.{Bool, true, false, not, ◌||◌}
use mathlib.Core.List.{List, [], ◌∷◌, map}
use native.Mathlib.Omega.{arith}
use native.Mathlib.Decide.{ℕ_discrete}
use lib.Dec.{eqb}
use borrow.Author.Tests.{eq-eqb, ne_eqb}
use Rattle.std.specs.Prelude.{if◌then◌else◌}
use Rattle.lists.specs.Lists.{below, any, keep, member, times, ff}
use Rattle.lists.proofs.Counts.{times_self, times_cons, times-member}
use Rattle.lists.proofs.Orders.{kept_below, kept_once}
use Rattle.lists.proofs.Filters.{member_kept}
use Rattle.model.specs.declared.Sizes.{Sizes}
use Rattle.model.specs.Tests.{first_failed}
use Rattle.model.specs.Sizes.{Device}
use Rattle.model.specs.Stores.{apply, apply_all, page_tag, page_data}
use Rattle.model.specs.Spare.{blank}
use Rattle.model.specs.Driving.{digits_of, lines_of}
use Rattle.model.specs.Mail.{line_reads, place_of, line_tests, fault_in, text_fault, line_store, erased_chip, image_of, is_listed, page_frame, page_line, text_of, cleaned}
use Rattle.model.proofs.Tags.{blank-true}
use Rattle.model.proofs.MailFeeds.{lines_ended}
use Rattle.model.proofs.MailChip.{Chip, line_said, tag_back, data_back, place_back, line_reads_lem}
use Rattle.model.proofs.MailLaid.{page, page_laid, page_stays, chip_laid}
use Rattle.model.proofs.MailClean.{chip_erased, page_erased, clean_image, disk_image, clean_data, is_cleaned}

module _ (z : Sizes) (d : Device) (chip : Chip z d) where
  abbrev line : ℕ → List ℕ
  line g = digits_of (page_frame z d g)

  -- pages that are listed
  abbrev Listed : List ℕ → Type 0
  Listed gs = (g : ℕ) → 1 ≤ times g gs → (is_listed z d g ≡ true) × (g < z.c * z.p)

  module _ (g : ℕ) (gs : List ℕ) (ps : Listed (g ∷ gs)) where
    first : (is_listed z d g ≡ true) × (g < z.c * z.p)
    first = ps g (omega (arith, times_cons g g gs, times_self g))

    rest : Listed gs
    rest x q = ps x (omega (arith, times_cons x g gs))

    reads : line_reads z (line g) ≡ true
    reads = line_reads_lem z d chip g first.1 first.0

    place : place_of z (line g) ≡ g
    place = place_back z d chip g first.1

    own_page : (e : Device) → Chip z e → page z (apply z e (line_store z (line g))) g ≡ page z d g
    own_page e c =
        ap (page z (apply z e (line_store z (line g)))) (sym place)
        ∙ (page_laid z (line g) reads e c ∙ ap₂ (λ t b. (t, b)) (tag_back z d chip g first.1) (data_back z d chip g first.1))

  -- each page is given once
  no_fault : (given gs : List ℕ) → Listed gs → ((x : ℕ) → times x given + times x gs ≤ 1) → fault_in z given (map line gs) ≡ 0
  unfolding fault_in line_tests first_failed
  no_fault given [] ps once = refl
  no_fault given (g ∷ gs) ps once =
      rw (reads g gs ps, place g gs ps, times-member g given (omega (arith, once g, times_cons g g gs, times_self g)))
      (no_fault (g ∷ given) gs (rest g gs ps) (λ x. omega (arith, once x, times_cons x g gs, times_cons x g given)))

  -- the lines of pages laid onto a chip give it these pages
  laid : (x : ℕ) (gs : List ℕ) (e : Device) → Listed gs → Chip z e
      → page z (apply_all z e (map (line_store z) (map line gs))) x ≡ (if member x gs then page z d x else page z e x)
  unfolding apply_all member any
  laid x [] e ps c = refl
  laid x (g ∷ gs) e ps c = laid x gs next (rest g gs ps) (chip_laid z (line g) (reads g gs ps) e c) ∙ go (ℕ_discrete x g)
    where
      next : Device
      next = apply z e (line_store z (line g))

      either : (t : Bool) → page z next x ≡ page z d x → (if t then page z d x else page z next x) ≡ page z d x
      either true q = refl
      either false q = q

      go : Dec (x ≡ g) → (if member x gs then page z d x else page z next x) ≡ (if eqb x g || member x gs then page z d x else page z e x)
      go (yes q) = rw (eq-eqb x g q) (either (member x gs) (rw q (own_page g gs ps e c)))
      go (no ne) = rw (ne_eqb x g ne)
          (ap (λ p. if member x gs then page z d x else p) (page_stays z (line g) (reads g gs ps) e c x (λ q. ne (sym q ∙ place g gs ps))))

  abbrev written : List ℕ
  written = keep (is_listed z d) (below (z.c * z.p))

  all_listed : Listed written
  all_listed g q = kept_below (is_listed z d) g (z.c * z.p) q

  lines_are : lines_of (text_of z d) ≡ map line written
  unfolding text_of page_line
  lines_are = lines_ended line written (λ g q. line_said z d chip g (all_listed g q).1)

  pub text_accepted : text_fault z (text_of z d) ≡ 0
  unfolding text_fault times
  text_accepted = rw lines_are (no_fault [] written all_listed (λ x. omega (arith, kept_once (is_listed z d) x (z.c * z.p))))

  abbrev image : Device
  image = image_of z d (text_of z d)

  page_image : (g : ℕ) → g < z.c * z.p → page z image g ≡ (if is_listed z d g then page z d g else (ff 16, ff z.s))
  unfolding image_of
  page_image g h =
      rw lines_are
      (laid g written (erased_chip z d) all_listed (chip_erased z d chip.bounds) ∙ rw (member_kept (is_listed z d) g (z.c * z.p) h, page_erased z d g h))

  tag_image : (g : ℕ) → g < z.c * z.p → page_tag image g ≡ page_tag d g
  unfolding is_listed
  tag_image g h = ap (λ p. p.0) (page_image g h) ∙ go (blank (page_tag d g)) refl
    where
      go : (t : Bool) → blank (page_tag d g) ≡ t → (if not t then page z d g else (ff 16, ff z.s)).0 ≡ page_tag d g
      go true u = sym (blank-true (page_tag d g) u)
      go false u = refl

  data_image : (g : ℕ) → g < z.c * z.p → page_data z image g ≡ clean_data z d g
  data_image g h = ap (λ p. p.1) (page_image g h) ∙ go (is_listed z d g)
    where
      go : (t : Bool) → (if t then page z d g else (ff 16, ff z.s)).1 ≡ (if t then page_data z d g else ff z.s)
      go true = refl
      go false = refl

  pub text_image : image_of z d (text_of z d) ≡ cleaned z d
  text_image = is_cleaned z d image chip (clean_image z d (text_of z d) chip.bounds text_accepted).chip tag_image data_image (disk_image z d (text_of z d))
