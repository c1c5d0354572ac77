-- Where the ledger's pages lie, and what stands on them.
use Prim.Native.Nat.{ℕ, zero, suc, ◌+◌, ◌-◌, ◌*◌, ◌≤◌, ◌<◌}
use mathlib.Core.Path.{◌≡◌, refl, sym, ap, ◌∙◌}
use mathlib.Core.Logic.{⊎_elim}
use mathlib.Core.Bool.{Bool, true, false, not, ◌&&◌, ◌||◌, true≢false}
use mathlib.Core.Bool as bool
use mathlib.Core.List.{List, [], ◌∷◌}
use native.Mathlib.Omega.{arith}
use native.Mathlib.Nat.{add-mul}
use native.Mathlib.Decide.{ℕ_discrete, dec_lt}
use lib.ListN.{length}
use lib.Dec.{eqb}
use borrow.Author.Tests.{eq-eqb, ne_eqb}
use Rattle.lists.specs.Lists.{every, all_below, part}
use Rattle.lists.proofs.Tests.{same_truth, and_left, and_right, and-true, and_false, or_left, or_second, or_right, or_cases, every_at}
use Rattle.lists.proofs.Rows.{all-below, below_all, below_alike, below_append}
use Rattle.lists.proofs.Sames.{same_equal}
use Rattle.model.specs.declared.Sizes.{Sizes}
use Rattle.model.specs.Sizes.{Device, body, page_index, spare_size}
use Rattle.model.specs.Stores.{tag_of}
use Rattle.model.specs.Spare.{blank, spoiled, programmed, kind, epoch, back, entry_tag}
use Rattle.model.specs.Image.{is_packed, packed, body_fits}
use Rattle.model.specs.Ledger.{ledger_tag, is_entry, entry_fits, entries_fit, well_formed}
use Rattle.model.proofs.Tags.{kind-tag, kind_real, spoiled_real}
use Rattle.spare.specs.Fields.{blank_from}
use Rattle.image.specs.Chip.{Chip, spare_only}
use Rattle.image.proofs.First.{kind-used}
use Rattle.image.proofs.Place.{page_from}
use Rattle.ledger.specs.Halves.{taken, blank_or_taken, Entered, half_fits}

-- ---- where they lie

module _ {z : Sizes} {spare : List ℕ} (chip : Chip z spare) where
  pub ledger_inside : (body z * z.p + 2 * z.p) * 16 ≤ length spare
  unfolding spare_size
  ledger_inside = omega (arith, chip.spare_length, add-mul (body z) 2 z.p, ap (λ (n : ℕ). n * z.p) chip.limits.ledger_in)

  pub entry_inside : {i : ℕ} → i < 2 * z.p → (body z * z.p + i) * 16 + 16 ≤ length spare
  entry_inside {i} h = omega (arith, ledger_inside)

-- what is not programmed is spoiled or blank
pub unprogrammed_test : (tag : List ℕ) → not (programmed tag) ≡ (spoiled tag || blank tag)
unfolding programmed
unprogrammed_test tag = go (blank tag) (spoiled tag)
  where
    go : (b s : Bool) → not (not b && not s) ≡ (s || b)
    go true true = refl
    go true false = refl
    go false true = refl
    go false false = refl

-- a page of the ledger that fits is blank, or taken
pub fits_look : (z : Sizes) (tag : List ℕ) → (not (programmed tag) || is_entry z tag) ≡ (blank tag || (is_entry z tag || spoiled tag))
fits_look z tag = rw (unprogrammed_test tag) (go (blank tag) (is_entry z tag) (spoiled tag))
  where
    go : (b e s : Bool) → ((s || b) || e) ≡ (b || (e || s))
    go true e true = refl
    go true e false = refl
    go false true true = refl
    go false true false = refl
    go false false true = refl
    go false false false = refl

paired : (a b s t : Bool) → ((a && b) && (s && (t && true))) ≡ ((a && s) && (b && t))
paired true true s t = ap (λ (x : Bool). s && x) (bool.and-true t)
paired true false s t = sym (and_false s)
paired false b s t = refl

module _ (z : Sizes) (d : Device) where
  -- the pages of the upper bucket lie behind those of the lower one
  upper_page : (k : ℕ) → ledger_tag z d (z.p + k) ≡ tag_of z d (body z + 1) k
  unfolding ledger_tag tag_of page_index
  upper_page k =
      let e : body z * z.p + (z.p + k) ≡ (body z + 1) * z.p + k = omega (arith, add-mul (body z) 1 z.p) in
      ap (λ (i : ℕ). part d.spare (i * 16) 16) e

  entries_split : entries_fit z d ≡ (all_below z.p (blank_or_taken z d (body z)) && all_below z.p (blank_or_taken z d (body z + 1)))
  unfolding entries_fit entry_fits blank_or_taken taken ledger_tag
  entries_split =
      let two : 2 * z.p ≡ z.p + z.p = omega arith in
      ap (λ (n : ℕ). all_below n (entry_fits z d)) two
      ∙ (below_append z.p z.p (entry_fits z d)
      ∙ rw (
        below_alike z.p (entry_fits z d) (blank_or_taken z d (body z)) (λ k h. fits_look z (ledger_tag z d k)),
        below_alike z.p (λ k. entry_fits z d (z.p + k)) (blank_or_taken z d (body z + 1)) (λ k h. fits_look z (ledger_tag z d (z.p + k)) ∙ ap (λ (tag : List ℕ). blank tag || (is_entry z tag || spoiled tag)) (upper_page k)),
      ))

  -- what is asked of the ledger is asked of each of its buckets
  pub ledger_split : every (entries_fit z d ∷ packed z d (body z) ∷ packed z d (body z + 1) ∷ []) ≡ (half_fits z d (body z) && half_fits z d (body z + 1))
  unfolding every half_fits
  ledger_split = rw entries_split (paired (all_below z.p (blank_or_taken z d (body z))) (all_below z.p (blank_or_taken z d (body z + 1))) (packed z d (body z)) (packed z d (body z + 1)))

-- ---- number 4, part by part

module _ (z : Sizes) (d : Device) (h : well_formed z d ≡ true) where
  pub formed_body : body_fits z d ≡ true
  unfolding well_formed
  formed_body = every_at _ h 0

  pub formed_entries : entries_fit z d ≡ true
  unfolding well_formed
  formed_entries = every_at _ h 1

-- ---- pages that are taken

entry-kind : (z : Sizes) (tag : List ℕ) → is_entry z tag ≡ true → kind tag ≡ 4
unfolding is_entry entry_tag
entry-kind z tag h = ap kind (same_equal tag (entry_tag (epoch tag) (back tag)) (and_left _ _ h)) ∙ kind-tag 4 0 1 (epoch tag) (back tag) 0 1

-- a taken page is not blank
taken-used : (z : Sizes) (tag : List ℕ) → is_entry z tag || spoiled tag ≡ true → blank tag ≡ false
taken-used z tag h = ⊎_elim (λ e. kind-used tag (λ q. omega (arith, entry-kind z tag e))) (spoiled_real tag) (or_cases (is_entry z tag) (spoiled tag) h)

-- a page of the ledger that fits is programmed if it has the kind of an entry
pub kind_there : (z : Sizes) (d : Device) (i : ℕ) → entry_fits z d i ≡ true → programmed (ledger_tag z d i) ≡ eqb (kind (ledger_tag z d i)) 4
unfolding entry_fits
kind_there z d i h = go (ℕ_discrete (kind (ledger_tag z d i)) 4)
  where
    go : Dec (kind (ledger_tag z d i) ≡ 4) → programmed (ledger_tag z d i) ≡ eqb (kind (ledger_tag z d i)) 4
    go (yes e) = kind_real (ledger_tag z d i) (omega arith) (omega arith) ∙ sym (eq-eqb (kind (ledger_tag z d i)) 4 e)
    go (no ne) = none (programmed (ledger_tag z d i)) refl ∙ sym (ne_eqb (kind (ledger_tag z d i)) 4 ne)
      where
        none : (t : Bool) → programmed (ledger_tag z d i) ≡ t → programmed (ledger_tag z d i) ≡ false
        none false p = p
        none true p = absurd (ne (entry-kind z (ledger_tag z d i) (or_right (not (programmed (ledger_tag z d i))) _ h (rw p))))

-- ---- one bucket: taken pages, then blank ones

module _ (z : Sizes) (spare : List ℕ) (l n : ℕ) (entered : Entered z (spare_only spare) l n) where
  blank_at : ℕ → Bool
  blank_at k = blank (tag_of z (spare_only spare) l k)

  -- behind a blank page all are blank
  stays : packed z (spare_only spare) l ≡ true → (k j : ℕ) → k ≤ j → j < z.p → blank_at k ≡ true → blank_at j ≡ true
  unfolding packed is_packed blank_at
  stays pack k zero h g b = ap (λ (i : ℕ). blank (tag_of z (spare_only spare) l i)) (omega arith) ∙ b
  stays pack k (suc j) h g b = go (ℕ_discrete k (suc j)) (stays pack k j)
    where
      go : Dec (k ≡ suc j) → (k ≤ j → j < z.p → blank_at k ≡ true → blank_at j ≡ true) → blank_at (suc j) ≡ true
      go (yes e) more = rw (← e) b
      go (no ne) more = or_right (not (blank_at j)) (blank_at (suc j)) (all-below z.p (is_packed z (spare_only spare) l) pack (suc j) g)
          (ap not (more (omega arith) (omega arith) b))

  first_blank : n < z.p → blank_or_taken z (spare_only spare) l n ≡ true → blank_at n ≡ true
  unfolding blank_or_taken blank_at
  first_blank h fit = ⊎_elim (λ e. e) (λ e. absurd (true≢false (sym e ∙ entered.2 h))) (or_cases (blank_at n) (taken z (spare_only spare) l n) fit)

  split : half_fits z (spare_only spare) l ≡ true → all_below (z.p - n) (blank_from spare (l * z.p + n)) ≡ true
  unfolding half_fits blank_at
  split h =
      let fit = all-below z.p (blank_or_taken z (spare_only spare) l) (and_left _ _ h) in
      let pack = and_right (all_below z.p (blank_or_taken z (spare_only spare) l)) _ h in
      below_all (z.p - n) (blank_from spare (l * z.p + n)) (λ j q.
      page_from z spare l n j ∙ stays pack n (n + j) (omega arith) (omega arith) (first_blank (omega arith) (fit n (omega arith))))

  module _ (rest : all_below (z.p - n) (blank_from spare (l * z.p + n)) ≡ true) where
    behind : (k : ℕ) → n ≤ k → k < z.p → blank_at k ≡ true
    unfolding blank_at
    behind k g q =
        let at : n + (k - n) ≡ k = omega arith in
        ap (λ (i : ℕ). blank (tag_of z (spare_only spare) l i)) (sym at)
        ∙ (sym (page_from z spare l n (k - n)) ∙ all-below (z.p - n) (blank_from spare (l * z.p + n)) rest (k - n) (omega arith))

    before : (k : ℕ) → k < n → taken z (spare_only spare) l k ≡ true
    before = all-below n (taken z (spare_only spare) l) entered.1

    page_joins : (k : ℕ) → k < z.p → blank_or_taken z (spare_only spare) l k ≡ true
    unfolding blank_or_taken blank_at
    page_joins k h = go (dec_lt k n)
      where
        go : Dec (k < n) → blank_or_taken z (spare_only spare) l k ≡ true
        go (yes g) = or_second (blank_at k) (taken z (spare_only spare) l k) (before k g)
        go (no g) = or_left (blank_at k) (taken z (spare_only spare) l k) (behind k (omega arith) h)

    packs : (k : ℕ) → k < z.p → is_packed z (spare_only spare) l k ≡ true
    unfolding is_packed taken blank_at
    packs zero h = refl
    packs (suc k) h = go (dec_lt (suc k) n)
      where
        go : Dec (suc k < n) → is_packed z (spare_only spare) l (suc k) ≡ true
        go (yes g) = or_left (not (blank_at k)) (blank_at (suc k)) (ap not (taken-used z (tag_of z (spare_only spare) l k) (before k (omega arith))))
        go (no g) = or_second (not (blank_at k)) (blank_at (suc k)) (behind (suc k) (omega arith) h)

    join : half_fits z (spare_only spare) l ≡ true
    unfolding half_fits packed
    join = and-true (below_all z.p (blank_or_taken z (spare_only spare) l) page_joins) (below_all z.p (is_packed z (spare_only spare) l) packs)

  pub half_split : half_fits z (spare_only spare) l ≡ all_below (z.p - n) (blank_from spare (l * z.p + n))
  half_split = same_truth _ _ split join
