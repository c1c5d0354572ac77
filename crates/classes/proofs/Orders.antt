-- The order of the used buckets: every list of recovery is a selection of it, and those newer than a bucket stand behind it.
use Prim.Native.Nat.{ℕ, ◌+◌, ◌≤◌, ◌<◌}
use mathlib.Core.Path.{◌≡◌, sym, ap, ◌∙◌}
use mathlib.Core.Logic.{◌≢◌}
use mathlib.Core.Bool.{Bool, true, ◌&&◌}
use mathlib.Core.List.{List, [], ◌∷◌, ◌++◌}
use native.Mathlib.Omega.{arith}
use lib.ListN.{length, get_or}
use borrow.Author.Tests.{lt-ltb}
use Rattle.lists.specs.Lists.{all, any, keep, below, times, sort_by}
use Rattle.lists.proofs.Tests.{and_left}
use Rattle.lists.proofs.Rows.{length-row}
use Rattle.lists.proofs.Arrays.{keep-length}
use Rattle.lists.proofs.Counts.{in_all, times_self, times_cons, times_append}
use Rattle.lists.proofs.Orders.{times_sort, length_sort, rising_sort}
use Rattle.lists.proofs.Filters.{times_at, mapped_at, keep_both, keep-within, keep_swap, any-keep, keep_sort, any_sort, keep-behind}
use Rattle.model.specs.declared.Sizes.{Sizes}
use Rattle.model.specs.Sizes.{Device, body}
use Rattle.model.specs.Image.{used, epoch_of}
use Rattle.model.specs.State.{is_below}
use Rattle.model.specs.Recover.{buckets, by_epoch, is_newer}
use Rattle.model.proofs.Formed.{Formed}
use Rattle.model.proofs.RecoverChoice.{in_buckets, from_buckets, once_buckets}
use Rattle.classes.specs.Columns.{in_order, named, column}

module _ (z : Sizes) (d : Device) where
  pub filtered : (t : ℕ → Bool) → ((c : ℕ) → t c ≡ true → used z d c ≡ true) → by_epoch z d (buckets z d t) ≡ keep t (in_order z d)
  unfolding by_epoch buckets
  filtered t h =
      ap (sort_by (epoch_of z d)) (keep-within (used z d) t (below (body z)) h) ∙ sym (keep_sort (epoch_of z d) t (keep (used z d) (below (body z))))

  pub length_filtered : (t : ℕ → Bool) → ((c : ℕ) → t c ≡ true → used z d c ≡ true) → length (buckets z d t) ≡ length (keep t (in_order z d))
  unfolding by_epoch
  length_filtered t h = sym (length_sort (epoch_of z d) (buckets z d t)) ∙ ap length (filtered t h)

  pub any_order : (t p : ℕ → Bool) → ((c : ℕ) → t c ≡ true → used z d c ≡ true) → any (λ c. t c && p c) (in_order z d) ≡ any p (buckets z d t)
  unfolding by_epoch
  any_order t p h = sym (any-keep t p (in_order z d)) ∙ ap (any p) (sym (filtered t h)) ∙ any_sort (epoch_of z d) p (buckets z d t)

  -- ---- who stands in it

  pub buckets-below : (t : ℕ → Bool) → all (is_below (body z)) (buckets z d t) ≡ true
  unfolding is_below
  buckets-below t = in_all (is_below (body z)) (buckets z d t) (λ c h. lt-ltb c (body z) (in_buckets z d t c h).1)

  pub in_order_lem : (c : ℕ) → 1 ≤ times c (in_order z d) → (used z d c ≡ true) × (c < body z)
  unfolding by_epoch
  in_order_lem c h = in_buckets z d (used z d) c (omega (arith, times_sort (epoch_of z d) c (buckets z d (used z d))))

  pub from_order : (c : ℕ) → c < body z → used z d c ≡ true → times c (in_order z d) ≡ 1
  unfolding by_epoch
  from_order c h e = times_sort (epoch_of z d) c (buckets z d (used z d)) ∙ from_buckets z d (used z d) c h e

  once_order : (c : ℕ) → times c (in_order z d) ≤ 1
  unfolding by_epoch
  once_order c = omega (arith, times_sort (epoch_of z d) c (buckets z d (used z d)), once_buckets z d (used z d) c)

  pub order_short : length (in_order z d) ≤ body z
  unfolding by_epoch buckets below
  order_short = omega (arith, length_sort (epoch_of z d) (buckets z d (used z d)), keep-length (used z d) (below (body z)), length-row (body z) (λ (k : ℕ). k))

  module _ {order : List ℕ} (e : order ≡ in_order z d) (i : ℕ) (h : i < length order) where
    pub at_order : 1 ≤ times (get_or order i 0) (in_order z d)
    at_order = rw (← e) (times_at order i 0 h)

    pub order_below : get_or order i 0 < body z
    order_below = (in_order_lem (get_or order i 0) at_order).1

    pub beside : {beside : List ℕ} (t : ℕ → Bool) → beside ≡ column z d t → get_or beside i 0 ≡ named z d t (get_or order i 0)
    beside t k = rw (k, ← e) (mapped_at (named z d t) order i 0 h)

  -- ---- behind a bucket stand those that are newer

  module _ (formed : Formed z d) (before : List ℕ) (c : ℕ) (behind : List ℕ) (split : in_order z d ≡ before ++ (c ∷ behind)) where
    times_split : (x : ℕ) → times x (in_order z d) ≡ times x before + (times x (c ∷ []) + times x behind)
    times_split x = ap (times x) split ∙ times_append x before (c ∷ behind) ∙ omega (arith, times_cons x c behind)

    pub standing : 1 ≤ times c (in_order z d)
    standing = omega (arith, times_split c, times_self c)

    differ : (y : ℕ) → 1 ≤ times y behind → epoch_of z d c ≢ epoch_of z d y
    differ y q e =
        let here = in_order_lem c standing in
        let there = in_order_lem y (omega (arith, times_split y)) in
        let same : c ≡ y = formed.epochs_differ c y here.1 there.1 here.0 there.0 e in
        omega (arith, once_order c, times_split c, times_self c, ap (λ (x : ℕ). times x behind) same)

    pub newer_behind : keep (is_newer z d c) (in_order z d) ≡ behind
    unfolding is_newer by_epoch
    newer_behind =
        rw split (keep-behind (epoch_of z d) before c behind (rw split at (rising_sort (epoch_of z d) (buckets z d (used z d)))) differ)

    -- how many of those that pass a test are newer
    pub newer_count : (t : ℕ → Bool) → ((x : ℕ) → t x ≡ true → used z d x ≡ true) → length (keep (is_newer z d c) (buckets z d t)) ≡ length (keep t behind)
    unfolding buckets
    newer_count t h =
        ap length (sym (keep_both t (is_newer z d c) (below (body z))))
        ∙ length_filtered (λ x. t x && is_newer z d c x) (λ x e. h x (and_left (t x) (is_newer z d c x) e))
        ∙ ap length (keep_both t (is_newer z d c) (in_order z d) ∙ keep_swap (is_newer z d c) t (in_order z d) ∙ ap (keep t) newer_behind)
