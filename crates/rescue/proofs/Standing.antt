-- What it says of a back-end bucket that it stands in a column, and which buckets it stands beside.
use Prim.Native.Nat.{ℕ, zero, suc, ◌≤◌, ◌<◌}
use mathlib.Core.Path.{◌≡◌, refl, sym, ap, ◌∙◌}
use mathlib.Core.Logic.{◌⊎◌, inl, inr}
use mathlib.Core.Bool.{Bool, true, false, ◌||◌, true≢false}
use mathlib.Core.List.{List, [], ◌∷◌, map}
use native.Mathlib.Omega.{arith}
use lib.Dec.{eqb}
use lib.ListN.{length, get_or, length-map}
use borrow.Author.Tests.{lt-ltb, eq-eqb, eqb-true}
use Rattle.std.specs.Prelude.{if◌then◌else◌}
use Rattle.lists.specs.Lists.{all, keep, below, head, empty, member, times}
use Rattle.lists.proofs.Tests.{and_left, and_right, and-true, or_left, or_second, or_cases, same_truth}
use Rattle.lists.proofs.Rows.{length-row}
use Rattle.lists.proofs.Counts.{in_all, head_in, empty-times}
use Rattle.lists.proofs.Orders.{any_in, in_any, kept_in, in_kept, length_sort}
use Rattle.lists.proofs.Arrays.{keep-length}
use Rattle.model.specs.declared.Sizes.{Sizes}
use Rattle.model.specs.Sizes.{Device, body}
use Rattle.model.specs.Spare.{write_kind, kind}
use Rattle.model.specs.Image.{head_tag, used, epoch_of, back_of, is_write, is_dirty}
use Rattle.model.specs.State.{is_below}
use Rattle.model.specs.Recover.{buckets, by_epoch, is_write_of, is_chosen, chosen, is_dropped_write, flushed, is_dropped_copy, unsaved, is_rescued}
use Rattle.model.proofs.Limits.{Limits}
use Rattle.model.proofs.Formed.{Formed}
use Rattle.model.proofs.BucketKinds.{complete-copy, copy-used, write-used}
use Rattle.model.proofs.RecoverChoice.{chosen_of, chosen_test, dropped_write, flushed_by, drop_flushes, dropped_copy, unsaved_by, drop_saves, chosen_in, head-chosen}
use Rattle.classes.specs.Columns.{nowhere, in_order, named, column}
use Rattle.classes.proofs.Orders.{filtered, in_order_lem, from_order}
use Rattle.classes.proofs.Columns.{stands_for, named_is, member-column}
use Rattle.rescue.specs.Beside.{beside, is_unwritten}

some_in : (x : ℕ) (l : List ℕ) → 1 ≤ times x l → empty l ≡ false
some_in x l h = go (empty l) refl
  where
    go : (t : Bool) → empty l ≡ t → empty l ≡ false
    go true e = absurd (omega (arith, empty-times l e x))
    go false e = e

get_d_mapped : (f : ℕ → ℕ) (l : List ℕ) (i : ℕ) → i < length l → get_or (map f l) i 0 ≡ f (get_or l i 0)
get_d_mapped f [] i h = absurd (omega arith)
get_d_mapped f (x ∷ l) zero h = refl
get_d_mapped f (x ∷ l) (suc i) h = get_d_mapped f l i (omega arith)

module _ (z : Sizes) (d : Device) where
  pub order_within : {order : List ℕ} → order ≡ in_order z d → all (is_below (body z)) order ≡ true
  unfolding is_below
  order_within e = rw e (in_all (is_below (body z)) (in_order z d) (λ c h. lt-ltb c (body z) (in_order_lem z d c h).1))

  pub order_length : Limits z → {order : List ℕ} → order ≡ in_order z d → length order ≤ 256
  unfolding by_epoch buckets below
  order_length limits e =
      omega (arith, ap length e, length_sort (epoch_of z d) (buckets z d (used z d)), keep-length (used z d) (below (body z)), length-row (body z) (λ k. k), limits.ledger_in, limits.c_high)

  pub column-length : (t : ℕ → Bool) {order numbers : List ℕ} → order ≡ in_order z d → numbers ≡ column z d t → length numbers ≡ length order
  column-length t e h = ap length h ∙ length-map (in_order z d) (named z d t) ∙ sym (ap length e)

  -- a place in the column of what is to be written
  pub unwritten_at : {order writes copies : List ℕ} → order ≡ in_order z d → writes ≡ column z d (is_dropped_write z d) → copies ≡ column z d (is_dropped_copy z d) → (i : ℕ) → i < length order
      → (if is_dirty z d (get_or order i 0) then get_or copies i 0 else get_or writes i 0) ≡ named z d (is_unwritten z d) (get_or order i 0)
  unwritten_at {order} e g h i k =
      rw (g, h, ← e, get_d_mapped (named z d (is_dropped_write z d)) order i k, get_d_mapped (named z d (is_dropped_copy z d)) order i k) (go (get_or order i 0) (is_dirty z d (get_or order i 0)))
    where
      go : (c : ℕ) (t : Bool) → (if t then named z d (is_dropped_copy z d) c else named z d (is_dropped_write z d) c) ≡ (if (if t then is_dropped_copy z d c else is_dropped_write z d c) then back_of z d c else nowhere)
      go c true = refl
      go c false = refl

  write_clean : (c : ℕ) → is_write z d c ≡ true → is_dirty z d c ≡ false
  unfolding is_write is_dirty
  write_clean c h = rw (eqb-true (kind (head_tag z d c)) write_kind (and_right (used z d c) _ h))

  -- ---- b stands in a column

  module _ (t : ℕ → Bool) (b : ℕ) (low : b < nowhere) where
    -- a bucket of b that passes the test
    standing : member b (column z d t) ≡ true → (c : ℕ) × (1 ≤ times c (in_order z d)) × (t c ≡ true) × (back_of z d c ≡ b)
    standing h =
        let w = any_in (stands_for z d t b) (in_order z d) (sym (member-column z d t b (in_order z d) low) ∙ h) in
        (w.0, w.1, and_left (t w.0) (eqb (back_of z d w.0) b) w.2, eqb-true (back_of z d w.0) b (and_right (t w.0) (eqb (back_of z d w.0) b) w.2))

    stands : (c : ℕ) → c < body z → used z d c ≡ true → t c ≡ true → back_of z d c ≡ b → member b (column z d t) ≡ true
    stands c inside u q e =
        member-column z d t b (in_order z d) low ∙ in_any (stands_for z d t b) (in_order z d) c (omega (arith, from_order z d c inside u)) (and-true q (eq-eqb (back_of z d c) b e))

  module _ (b : ℕ) (low : b < nowhere) where
    pub flushed-stands : member b (column z d (is_dropped_write z d)) ≡ flushed z d b
    flushed-stands = same_truth _ _ from to
      where
        from : member b (column z d (is_dropped_write z d)) ≡ true → flushed z d b ≡ true
        from h = let w = standing (is_dropped_write z d) b low h in rw w.3 at (drop_flushes z d w.0 (in_order_lem z d w.0 w.1).1 w.2)

        to : flushed z d b ≡ true → member b (column z d (is_dropped_write z d)) ≡ true
        to h = let w = flushed_by z d b h in stands (is_dropped_write z d) b low w.0 w.1 (write-used z d w.0 (dropped_write z d w.0 w.2).0) w.2 w.3

    -- b is rescued
    pub rescued-stands : is_rescued z d b ≡ member b (column z d (is_unwritten z d))
    unfolding is_rescued
    rescued-stands = same_truth _ _ (λ h. from (or_cases (flushed z d b) (unsaved z d b) h)) to
      where
        from : (flushed z d b ≡ true) ⊎ (unsaved z d b ≡ true) → member b (column z d (is_unwritten z d)) ≡ true
        from (inl q) =
            let w = flushed_by z d b q in
            let write = (dropped_write z d w.0 w.2).0 in
            stands (is_unwritten z d) b low w.0 w.1 (write-used z d w.0 write) (rw (write_clean w.0 write) w.2) w.3
        from (inr q) =
            let w = unsaved_by z d b q in
            stands (is_unwritten z d) b low w.0 w.1 (copy-used z d w.0 (complete-copy z d w.0 (dropped_copy z d w.0 w.2).0.is_complete)) (rw w.3 w.2) w.4

        to : member b (column z d (is_unwritten z d)) ≡ true → flushed z d b || unsaved z d b ≡ true
        to h = let w = standing (is_unwritten z d) b low h in rw (← w.3) (go w.0 (in_order_lem z d w.0 w.1).1 w.2 (is_dirty z d w.0) refl)
          where
            go : (c : ℕ) → c < body z → is_unwritten z d c ≡ true → (t : Bool) → is_dirty z d c ≡ t → flushed z d (back_of z d c) || unsaved z d (back_of z d c) ≡ true
            go c inside u true e = or_second (flushed z d (back_of z d c)) (unsaved z d (back_of z d c)) (drop_saves z d c inside (rw e at u) e)
            go c inside u false e = or_left (flushed z d (back_of z d c)) (unsaved z d (back_of z d c)) (drop_flushes z d c inside (rw e at u))

    -- ---- the buckets beside b

    beside_kept : (t : ℕ → Bool) (l : List ℕ) → beside b (map (named z d t) l) l ≡ keep (stands_for z d t b) l
    unfolding beside keep
    beside_kept t [] = refl
    beside_kept t (c ∷ l) = rw (named_is z d t b c low, beside_kept t l)

    pub logs_beside : beside b (column z d (is_write z d)) (in_order z d) ≡ by_epoch z d (buckets z d (is_write_of z d b))
    unfolding is_write_of
    logs_beside = beside_kept (is_write z d) (in_order z d)
        ∙ sym (filtered z d (is_write_of z d b) (λ c h. write-used z d c (and_left (is_write z d c) (eqb (back_of z d c) b) h)))

    -- b has a copy
    module _ (formed : Formed z d) where
      has_copy : member b (column z d (is_chosen z d)) ≡ true → (empty (chosen z d b) ≡ false) × (head (chosen z d b) ≡ head (beside b (column z d (is_chosen z d)) (in_order z d)))
      has_copy h =
          let w = standing (is_chosen z d) b low h in
          let copies = keep (stands_for z d (is_chosen z d) b) (in_order z d) in
          let one : 1 ≤ times w.0 copies = rw (in_kept (stands_for z d (is_chosen z d) b) w.0 (in_order z d) (and-true w.2 (eq-eqb (back_of z d w.0) b w.3))) w.1 in
          let k = kept_in (stands_for z d (is_chosen z d) b) (head copies) (in_order z d) (head_in copies (some_in w.0 copies one)) in
          let r = head-chosen z d formed b (head copies) (in_order_lem z d (head copies) k.1).1
          (chosen_of z d (head copies) (and_left (is_chosen z d (head copies)) (eqb (back_of z d (head copies)) b) k.0))
          (eqb-true (back_of z d (head copies)) b (and_right (is_chosen z d (head copies)) (eqb (back_of z d (head copies)) b) k.0)) in
          (r.0, r.1 ∙ ap head (sym (beside_kept (is_chosen z d) (in_order z d))))

      no_copy : member b (column z d (is_chosen z d)) ≡ false → empty (chosen z d b) ≡ true
      no_copy h = go (empty (chosen z d b)) refl
        where
          go : (t : Bool) → empty (chosen z d b) ≡ t → t ≡ true
          go true e = refl
          go false e =
              let c = head (chosen z d b) in
              let w = chosen_in z d b c (head_in (chosen z d b) e) in
              absurd (true≢false (sym (stands (is_chosen z d) b low c w.1 (copy-used z d c (complete-copy z d c w.0.is_complete)) (chosen_test z d c w.0) w.2) ∙ h))

      pub copy-beside : {A : Type 0} (at : ℕ → A) (other : A)
          → (if member b (column z d (is_chosen z d)) then at (head (beside b (column z d (is_chosen z d)) (in_order z d))) else other)
          ≡ (if empty (chosen z d b) then other else at (head (chosen z d b)))
      copy-beside at other = go (member b (column z d (is_chosen z d))) refl
        where
          go : (t : Bool) → member b (column z d (is_chosen z d)) ≡ t
              → (if t then at (head (beside b (column z d (is_chosen z d)) (in_order z d))) else other) ≡ (if empty (chosen z d b) then other else at (head (chosen z d b)))
          go true e = let w = has_copy e in rw (w.0, w.1)
          go false e = rw (no_copy e)
