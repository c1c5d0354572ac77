-- Buckets as recovery finds them.
use Prim.Native.Nat.{ℕ, zero, suc, ◌+◌, ◌*◌, ◌≤◌, ◌<◌}
use mathlib.Core.Path.{◌≡◌, refl, sym, ap, ◌∙◌, subst}
use mathlib.Core.Logic.{◌⊎◌, inl, inr, ⊎_elim}
use mathlib.Core.Bool.{Bool, true, false, not, ◌&&◌, true≢false}
use mathlib.Core.Bool as bool
use mathlib.Core.List.{map}
use native.Mathlib.Omega.{arith}
use native.Mathlib.Numerals.{add-one}
use lib.Dec.{eqb}
use borrow.Author.Tests.{eqb-true, eq-eqb, ne_eqb}
use Rattle.lists.specs.Lists.{every, all_below, any_below, row, keep, below, distinct}
use Rattle.lists.proofs.Tests.{true_or_false, and_left, or_left, or_right, if_true, if_false, every_at}
use Rattle.lists.proofs.Rows.{all-below, below_all, below_alike, any_below_lem}
use Rattle.lists.proofs.Turns.{keep_more, keep_same}
use Rattle.model.specs.declared.Sizes.{Sizes}
use Rattle.model.specs.Sizes.{Device, body}
use Rattle.model.specs.Stores.{tag_of}
use Rattle.model.specs.Spare.{blank, spoiled, programmed, kind, epoch}
use Rattle.model.specs.Image.{fields_fit, bucket_fits, used, epoch_of, body_fits}
use Rattle.model.specs.Ledger.{ledger_tag, entry_fits, entries_fit, names, named, loose_fits, found_fits, occupied, first_epoch, recoverable}
use Rattle.model.proofs.Tags.{blank_unprogrammed, unprogrammed}
use Rattle.model.proofs.Rules.{Fields, fields_of}
use Rattle.model.proofs.Heads.{head_page}
use Rattle.model.proofs.Formed.{page_fields, epoch-used}
use Rattle.spare.proofs.Looked.{kind_erased}
use Rattle.image.specs.Chip.{Headed}
use Rattle.image.proofs.First.{kind-used, head_at}
use Rattle.ledger.specs.Halves.{blank_there}
use Rattle.ledger.proofs.Names.{names-kind}
use Rattle.std.specs.Prelude.{Option}
use Rattle.rules.specs.Epochs.{some_if, PageEpoch}
use Rattle.holes.specs.Found.{Speaks}
use Rattle.holes.proofs.First.{used_first, head_speaks}

-- ---- one bucket

module _ (z : Sizes) (d : Device) (c : ℕ) (fit : found_fits z d c ≡ true) where
  pub found-fields : (k : ℕ) → k < z.p → programmed (tag_of z d c k) ≡ true → Fields z (tag_of z d c k)
  unfolding found_fits loose_fits
  found-fields k h p = ⊎_elim
      (λ n. fields_of z (tag_of z d c k) (and_left (fields_fit z (tag_of z d c k)) _ (or_right (not (programmed (tag_of z d c k))) _ (all-below z.p (loose_fits z d c) (sym (if_true _ _ n) ∙ fit) k h) (rw p))))
      (λ n. page_fields z d c (sym (if_false _ _ n) ∙ fit) k h p)
      (true_or_false (named z d c))

  -- a page is blank if it has no kind
  pub found-kind : (k : ℕ) → k < z.p → blank (tag_of z d c k) ≡ eqb (kind (tag_of z d c k)) 255
  unfolding spoiled
  found-kind k h = ⊎_elim (λ p. has (λ q. omega (arith, (found-fields k h p).kind_high))) (λ p. none (unprogrammed (tag_of z d c k) p)) (true_or_false (programmed (tag_of z d c k)))
    where
      has : (kind (tag_of z d c k) ≡ 255 → ⊥) → blank (tag_of z d c k) ≡ eqb (kind (tag_of z d c k)) 255
      has n = kind-used (tag_of z d c k) n ∙ sym (ne_eqb (kind (tag_of z d c k)) 255 n)

      none : (blank (tag_of z d c k) ≡ true) ⊎ (eqb (kind (tag_of z d c k)) 0 ≡ true) → blank (tag_of z d c k) ≡ eqb (kind (tag_of z d c k)) 255
      none (inl e) = e ∙ sym (eq-eqb (kind (tag_of z d c k)) 255 (kind_erased (tag_of z d c k) e))
      none (inr e) = has (λ q. omega (arith, eqb-true (kind (tag_of z d c k)) 0 e))

pub found_headed : (z : Sizes) (d : Device) → 1 ≤ z.p → recoverable z d ≡ true → Headed z d
unfolding recoverable
found_headed z d p_low h c inside =
    let head = head_page z p_low d c in
    rw head.is (found-kind z d c (all-below (body z) (found_fits z d) (every_at _ h 0) c inside) head.page head.inside)

-- the bucket's epoch is that of the page that speaks for it
pub speaks_epoch : (z : Sizes) (d : Device) (c k : ℕ) (r : Option ℕ) → Speaks z d c k → found_fits z d c ≡ true → PageEpoch (tag_of z d c k) r
    → r ≡ some_if (occupied z d c) (first_epoch z d c)
unfolding first_epoch
speaks_epoch z d c k r speaks fit said = said (found-kind z d c fit k speaks.inside) ∙ go (programmed (tag_of z d c k)) refl
  where
    go : (t : Bool) → programmed (tag_of z d c k) ≡ t → some_if t (epoch (tag_of z d c k)) ≡ some_if (occupied z d c) (first_epoch z d c)
    go true p = rw (speaks.tells ∙ p, speaks.is p)
    go false p = rw (speaks.tells ∙ p)

-- ---- a chip with a blank ledger

-- the same choice of the same numbers
kept_alike : (n : ℕ) (s t : ℕ → Bool) (f g : ℕ → ℕ) → ((k : ℕ) → k < n → s k ≡ t k) → ((k : ℕ) → k < n → t k ≡ true → f k ≡ g k)
    → map f (keep s (below n)) ≡ map g (keep t (below n))
unfolding below row keep
kept_alike zero s t f g same alike = refl
kept_alike (suc n) s t f g same alike = subst (λ (m : ℕ). map f (keep s (below m)) ≡ map g (keep t (below m))) (add-one n)
    (go (true_or_false (t n)) (kept_alike n s t f g (λ k h. same k (omega arith)) (λ k h. alike k (omega arith))))
  where
    go : (t n ≡ true) ⊎ (t n ≡ false) → map f (keep s (below n)) ≡ map g (keep t (below n)) → map f (keep s (below (n + 1))) ≡ map g (keep t (below (n + 1)))
    go (inl e) before = keep_more n s f (same n (omega arith) ∙ e) ∙ rw (before, alike n (omega arith) e) (sym (keep_more n t g e))
    go (inr e) before = keep_same n s f (same n (omega arith) ∙ e) ∙ (before ∙ sym (keep_same n t g e))

module _ (z : Sizes) (d : Device) (p_low : 1 ≤ z.p) (none : all_below (2 * z.p) (blank_there z d) ≡ true) where
  none_named : (x : ℕ) → named z d x ≡ false
  unfolding named blank_there
  none_named x = go (any_below (2 * z.p) (names z d x)) refl
    where
      go : (t : Bool) → any_below (2 * z.p) (names z d x) ≡ t → any_below (2 * z.p) (names z d x) ≡ false
      go true q = let w = any_below_lem (2 * z.p) (names z d x) q in
          absurd (true≢false (sym w.2 ∙ names-kind z d w.0 (λ e. omega (arith, e, kind_erased (ledger_tag z d w.0) (all-below (2 * z.p) (blank_there z d) none w.0 w.1))) x))
      go false q = q

  blank_entries : entries_fit z d ≡ true
  unfolding entries_fit entry_fits blank_there
  blank_entries = below_all (2 * z.p) (entry_fits z d) (λ i h. or_left (not (programmed (ledger_tag z d i))) _ (rw (blank_unprogrammed (ledger_tag z d i) (all-below (2 * z.p) (blank_there z d) none i h))))

  found-ruled : all_below (body z) (found_fits z d) ≡ all_below (body z) (bucket_fits z d)
  unfolding found_fits
  found-ruled = below_alike (body z) (found_fits z d) (bucket_fits z d) (λ c h. if_false _ _ (none_named c))

  module _ (fit : all_below (body z) (bucket_fits z d) ≡ true) where
    -- the head speaks for its bucket
    used-occupied : (c : ℕ) → c < body z → used z d c ≡ occupied z d c
    unfolding used
    used-occupied c h =
        let head = head_page z p_low d c in
        let speaks = head_speaks z d c head.page (all-below (body z) (bucket_fits z d) fit c h) (head_at z d c head.page head.inside head.before head.last) in
        ap programmed head.is ∙ sym speaks.tells

    epochs_alike : (c : ℕ) → c < body z → occupied z d c ≡ true → epoch_of z d c ≡ first_epoch z d c
    unfolding first_epoch
    epochs_alike c h o = let u = used-occupied c h ∙ o in epoch-used z d c u ∙ sym (ap epoch (used_first z d c p_low u))

    same_epochs : distinct (map (epoch_of z d) (keep (used z d) (below (body z)))) ≡ distinct (map (first_epoch z d) (keep (occupied z d) (below (body z))))
    same_epochs = ap distinct (kept_alike (body z) (used z d) (occupied z d) (epoch_of z d) (first_epoch z d) used-occupied epochs_alike)

  -- then recovery asks what a running call asks of the buckets outside the ledger
  pub blank-recoverable : body_fits z d ≡ recoverable z d
  unfolding body_fits recoverable every
  blank-recoverable = rw (found-ruled, blank_entries) (go (all_below (body z) (bucket_fits z d)) refl)
    where
      go : (t : Bool) → all_below (body z) (bucket_fits z d) ≡ t
          → (t && distinct (map (epoch_of z d) (keep (used z d) (below (body z)))))
          ≡ (t && (distinct (map (first_epoch z d) (keep (occupied z d) (below (body z)))) && true))
      go true e = same_epochs e ∙ sym (bool.and-true _)
      go false e = refl
