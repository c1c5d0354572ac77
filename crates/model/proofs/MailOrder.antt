-- Two neighbouring lines of a text without a fault may change places.
use Prim.Native.Nat.{ℕ, ◌+◌, ◌*◌, ◌≤◌}
use mathlib.Core.Path.{◌≡◌, refl, sym, ap, ap₂, ◌∙◌}
use mathlib.Core.Logic.{◌≢◌}
use mathlib.Core.Bool.{Bool, true, false, not, ◌||◌, or_assoc, or_comm, true≢false}
use mathlib.Core.List.{List, [], ◌∷◌, ◌++◌, map}
use lib.ListN.{length}
use lib.Dec.{eqb}
use borrow.Author.Tests.{eqb-false, ne_eqb}
use Rattle.lists.specs.Lists.{any, member}
use Rattle.lists.proofs.Parts.{length-splice, length-ff, splice_comm}
use Rattle.model.specs.declared.Sizes.{Sizes}
use Rattle.model.specs.Tests.{first_failed}
use Rattle.model.specs.Sizes.{Device, bucket_size, flash_size, spare_size}
use Rattle.model.specs.Stores.{apply, apply_all}
use Rattle.model.specs.Driving.{bytes_of}
use Rattle.model.specs.Mail.{frame_tag, frame_data, line_reads, place_of, line_tests, fault_in, line_store, erased_chip, laid_out}
use Rattle.model.proofs.Frames.{row_fits_lem, row_apart, page_inside}
use Rattle.model.proofs.MailLines.{line_passed, none_faulty, place_below, tag_size, data_size}

-- ---- the pages given so far: what counts is which they are

not_given : (x y : ℕ) (given : List ℕ) → not (member x (y ∷ given)) ≡ true → (x ≢ y) × (not (member x given) ≡ true)
unfolding member any
not_given x y given h = go (eqb x y) refl h
  where
    go : (t : Bool) → eqb x y ≡ t → not (t || any (eqb x) given) ≡ true → (x ≢ y) × (not (any (eqb x) given) ≡ true)
    go true e q = absurd (true≢false (sym q))
    go false e q = (eqb-false x y e, q)

still_not_given : (x y : ℕ) (given : List ℕ) → x ≢ y → not (member x given) ≡ true → not (member x (y ∷ given)) ≡ true
unfolding member any
still_not_given x y given ne h = rw (ne_eqb x y ne) h

given_swapped : (x y w : ℕ) (given : List ℕ) → member w (x ∷ y ∷ given) ≡ member w (y ∷ x ∷ given)
unfolding member any
given_swapped x y w given =
    sym (or_assoc (eqb w x) (eqb w y) (any (eqb w) given))
    ∙ (ap (λ (t : Bool). t || any (eqb w) given) (or_comm (eqb w x) (eqb w y)) ∙ or_assoc (eqb w y) (eqb w x) (any (eqb w) given))

module _ (z : Sizes) where
  fault_same : (ls : List (List ℕ)) (given given' : List ℕ) → ((x : ℕ) → member x given ≡ member x given') → fault_in z given ls ≡ fault_in z given' ls
  unfolding fault_in line_tests member any
  fault_same [] given given' same = refl
  fault_same (l ∷ ls) given given' same =
      rw (
        same (place_of z l),
        fault_same ls (place_of z l ∷ given) (place_of z l ∷ given') (λ x. ap (λ (t : Bool). eqb x (place_of z l) || t) (same x)),
      )

  -- a line without a fault, before lines without one
  record Taken (given l : List ℕ) (ls : List (List ℕ)) : Type 0 where
    reads : line_reads z l ≡ true
    new : not (member (place_of z l) given) ≡ true
    rest : fault_in z (place_of z l ∷ given) ls ≡ 0

  taken : (given l : List ℕ) (ls : List (List ℕ)) → fault_in z given (l ∷ ls) ≡ 0 → Taken given l ls
  taken given l ls h =
      let none = none_faulty z given l ls h in
      let pass = line_passed z given l none.0 in
      record { reads = pass.0; new = pass.1; rest = none.1 }

  no_fault : (given l : List ℕ) (ls : List (List ℕ)) → Taken given l ls → fault_in z given (l ∷ ls) ≡ 0
  unfolding fault_in line_tests first_failed
  no_fault given l ls t = rw (t.reads, t.new) t.rest

  -- ---- the lines laid out

  -- a chip of the right lengths; no limits of the sizes are assumed here, as a Chip has them
  record Whole (d : Device) : Type 0 where
    flash_is : length d.flash ≡ z.c * bucket_size z
    spare_is : length d.spare ≡ z.c * z.p * 16

  module _ (d : Device) (w : Whole d) where
    data_room : (l : List ℕ) → line_reads z l ≡ true → place_of z l * z.s + length (frame_data (bytes_of l)) ≤ length d.flash
    data_room l h = page_inside z d.flash z.c w.flash_is (place_of z l) (frame_data (bytes_of l)) (place_below z l h) (data_size z l h)

    tag_room : (l : List ℕ) → line_reads z l ≡ true → place_of z l * 16 + length (frame_tag (bytes_of l)) ≤ length d.spare
    tag_room l h = rw (tag_size z l h, w.spare_is) (row_fits_lem (place_of z l) (z.c * z.p) 16 (place_below z l h))

    whole_laid : (l : List ℕ) → line_reads z l ≡ true → Whole (apply z d (line_store z l))
    unfolding apply line_store place_of
    whole_laid l h = record {
      flash_is = length-splice d.flash (place_of z l * z.s) (frame_data (bytes_of l)) (data_room l h) ∙ w.flash_is;
      spare_is = length-splice d.spare (place_of z l * 16) (frame_tag (bytes_of l)) (tag_room l h) ∙ w.spare_is;
    }

    laid_swapped : (k l : List ℕ) → line_reads z k ≡ true → line_reads z l ≡ true → place_of z l ≢ place_of z k
        → apply z (apply z d (line_store z l)) (line_store z k) ≡ apply z (apply z d (line_store z k)) (line_store z l)
    unfolding apply line_store place_of
    laid_swapped k l hk hl ne = ap₂ (λ f s. record { flash = f; spare = s; disk = d.disk })
        (splice_comm d.flash (place_of z l * z.s) (frame_data (bytes_of l)) (place_of z k * z.s) (frame_data (bytes_of k)) (data_room l hl) (data_room k hk)
        (rw (data_size z l hl, data_size z k hk) (row_apart (place_of z l) (place_of z k) z.s ne)))
        (splice_comm d.spare (place_of z l * 16) (frame_tag (bytes_of l)) (place_of z k * 16) (frame_tag (bytes_of k)) (tag_room l hl) (tag_room k hk)
        (rw (tag_size z l hl, tag_size z k hk) (row_apart (place_of z l) (place_of z k) 16 ne)))

  whole_erased : (d : Device) → Whole (erased_chip z d)
  unfolding erased_chip flash_size spare_size
  whole_erased d = record { flash_is = length-ff (z.c * bucket_size z); spare_is = length-ff (z.c * z.p * 16) }

  -- ---- both, from the pages given and the chip laid out so far

  -- ms has no fault, and is laid out as ls
  abbrev Alike : (given : List ℕ) → Device → (ls ms : List (List ℕ)) → Type 0
  Alike given d ls ms = (fault_in z given ms ≡ 0) × (apply_all z d (map (line_store z) ms) ≡ apply_all z d (map (line_store z) ls))

  module _ (k l : List ℕ) (behind : List (List ℕ)) where
    neighbours : (given : List ℕ) (d : Device) → Whole d → fault_in z given (k ∷ l ∷ behind) ≡ 0 → Alike given d (k ∷ l ∷ behind) (l ∷ k ∷ behind)
    unfolding apply_all
    neighbours given d w h =
        let one = taken given k (l ∷ behind) h in
        let two = taken (place_of z k ∷ given) l behind one.rest in
        let apart = not_given (place_of z l) (place_of z k) given two.new in
        let rest = fault_same behind (place_of z k ∷ place_of z l ∷ given) (place_of z l ∷ place_of z k ∷ given)
        (λ x. given_swapped (place_of z k) (place_of z l) x given) ∙ two.rest in
        let new = still_not_given (place_of z k) (place_of z l) given (λ q. apart.0 (sym q)) one.new in
        let later = no_fault (place_of z l ∷ given) k behind (record { reads = one.reads; new = new; rest = rest }) in (
          no_fault given l (k ∷ behind) (record { reads = two.reads; new = apart.1; rest = later }),
          ap (λ (e : Device). apply_all z e (map (line_store z) behind)) (laid_swapped d w k l one.reads two.reads apart.0),
        )

    anywhere : (before : List (List ℕ)) (given : List ℕ) (d : Device) → Whole d → fault_in z given (before ++ (k ∷ l ∷ behind)) ≡ 0
        → Alike given d (before ++ (k ∷ l ∷ behind)) (before ++ (l ∷ k ∷ behind))
    unfolding apply_all
    anywhere [] given d w h = neighbours given d w h
    anywhere (b ∷ before) given d w h =
        let first = taken given b (before ++ (k ∷ l ∷ behind)) h in
        let rest = anywhere before (place_of z b ∷ given) (apply z d (line_store z b)) (whole_laid d w b first.reads) first.rest in
        (no_fault given b (before ++ (l ∷ k ∷ behind)) (record { reads = first.reads; new = first.new; rest = rest.0 }), rest.1)

pub lines_ordered : (z : Sizes) (d : Device) (before : List (List ℕ)) (k l : List ℕ) (behind : List (List ℕ))
    → fault_in z [] (before ++ (k ∷ l ∷ behind)) ≡ 0
    → (fault_in z [] (before ++ (l ∷ k ∷ behind)) ≡ 0) × (laid_out z d (before ++ (l ∷ k ∷ behind)) ≡ laid_out z d (before ++ (k ∷ l ∷ behind)))
lines_ordered z d before k l behind h = anywhere z k l behind before [] (erased_chip z d) (whole_erased z d) h
