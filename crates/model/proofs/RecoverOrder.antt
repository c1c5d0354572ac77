-- Recovery's GC queue: who stands in it, and in which order.
use Prim.Native.Nat.{ℕ, ◌+◌, ◌≤◌, ◌<◌}
use mathlib.Core.Path.{◌≡◌}
use mathlib.Core.Bool.{Bool, true, false, not}
use mathlib.Core.List.{List, ◌++◌}
use native.Mathlib.Omega.{arith}
use native.Mathlib.Decide.{dec_lt}
use Rattle.std.specs.Prelude.{if◌then◌else◌}
use Rattle.lists.specs.Lists.{times}
use borrow.Author.Tests.{not-true}
use Rattle.lists.proofs.Tests.{and_right}
use Rattle.lists.proofs.Counts.{times_append}
use Rattle.lists.proofs.Orders.{Pairwise, pairwise_append, pairwise_any, pairwise_map, rising_sort, times_sort}
use Rattle.model.specs.declared.Sizes.{Sizes}
use Rattle.model.specs.Sizes.{Device, body}
use Rattle.model.specs.Image.{used, epoch_of, is_write}
use Rattle.model.specs.Recover.{buckets, by_epoch, is_chosen, is_dropped_write, is_dropped_copy, is_old_copy, is_free, is_spent, rebuilt}
use Rattle.model.proofs.Buckets.{unused_no_write, unused_no_copy}
use Rattle.model.proofs.BucketKinds.{complete-copy, copy_no_write}
use Rattle.model.proofs.RecoverChoice.{in_buckets, from_buckets, Chosen, chosen_test, old_is, dropped_copy, dropped_write}

module _ (z : Sizes) (d : Device) where
  in_class : (t : ℕ → Bool) (x : ℕ) → 1 ≤ times x (by_epoch z d (buckets z d t)) → (t x ≡ true) × (x < body z)
  unfolding by_epoch
  in_class t x h = in_buckets z d t x (omega (arith, times_sort (epoch_of z d) x (buckets z d t)))

  from_class : (t : ℕ → Bool) (x : ℕ) → x < body z → t x ≡ true → 1 ≤ times x (by_epoch z d (buckets z d t))
  unfolding by_epoch
  from_class t x h e = omega (arith, times_sort (epoch_of z d) x (buckets z d t), from_buckets z d t x h e)

  -- ---- who stands in it

  -- buckets without a programmed page, superseded and incomplete copies, dropped copies, dropped Write buckets
  pub data Retired (x : ℕ) : Type 0 where
    spent : x < body z → is_spent z d x ≡ true → Retired x
    old : x < body z → is_old_copy z d x ≡ true → Retired x
    copy : x < body z → is_dropped_copy z d x ≡ true → Retired x
    log : x < body z → is_dropped_write z d x ≡ true → Retired x

  abbrev vacant : List ℕ
  vacant = buckets z d (is_spent z d)

  abbrev olds : List ℕ
  olds = by_epoch z d (buckets z d (is_old_copy z d))

  abbrev copies : List ℕ
  copies = by_epoch z d (buckets z d (is_dropped_copy z d))

  abbrev logs : List ℕ
  logs = by_epoch z d (buckets z d (is_dropped_write z d))

  times_gc : (n x : ℕ) → times x (rebuilt z d n).state.gc ≡ times x vacant + (times x olds + (times x copies + times x logs))
  unfolding rebuilt
  times_gc n x = omega (arith, times_append x vacant (olds ++ (copies ++ logs)), times_append x olds (copies ++ logs), times_append x copies logs)

  pub retired : (n x : ℕ) → 1 ≤ times x (rebuilt z d n).state.gc → Retired x
  retired n x h = go (dec_lt 0 (times x vacant)) (dec_lt 0 (times x olds)) (dec_lt 0 (times x copies))
    where
      go : Dec (0 < times x vacant) → Dec (0 < times x olds) → Dec (0 < times x copies) → Retired x
      go (yes t) u v = let r = in_buckets z d (is_spent z d) x t in spent r.1 r.0
      go (no t) (yes u) v = let r = in_class (is_old_copy z d) x u in old r.1 r.0
      go (no t) (no u) (yes v) = let r = in_class (is_dropped_copy z d) x v in copy r.1 r.0
      go (no t) (no u) (no v) = let r = in_class (is_dropped_write z d) x (omega (arith, times_gc n x)) in log r.1 r.0

  pub in_gc : (n x : ℕ) → Retired x → 1 ≤ times x (rebuilt z d n).state.gc
  in_gc n x (spent h e) = omega (arith, times_gc n x, from_buckets z d (is_spent z d) x h e)
  in_gc n x (old h e) = omega (arith, times_gc n x, from_class (is_old_copy z d) x h e)
  in_gc n x (copy h e) = omega (arith, times_gc n x, from_class (is_dropped_copy z d) x h e)
  in_gc n x (log h e) = omega (arith, times_gc n x, from_class (is_dropped_write z d) x h e)

  pub retired-below : (x : ℕ) → Retired x → x < body z
  retired-below x (spent h e) = h
  retired-below x (old h e) = h
  retired-below x (copy h e) = h
  retired-below x (log h e) = h

  -- a bucket without a programmed page is no Write bucket, and no copy

  spent_unused : (x : ℕ) → is_spent z d x ≡ true → used z d x ≡ false
  unfolding is_spent
  spent_unused x h = not-true _ (and_right (not (is_free z d x)) _ h)

  pub spent_no_write : (x : ℕ) → is_spent z d x ≡ true → is_write z d x ≡ false
  spent_no_write x h = unused_no_write z d x (spent_unused x h)

  pub spent_unchosen : (x : ℕ) → is_spent z d x ≡ true → is_chosen z d x ≡ false
  unfolding is_chosen
  spent_unchosen x h = rw (unused_no_copy z d x (spent_unused x h))

  -- ---- in which order

  pub phase : ℕ → ℕ
  phase x = if is_write z d x then 2 else (if is_chosen z d x then 1 else 0)

  phase_spent : (x : ℕ) → is_spent z d x ≡ true → phase x ≡ 0
  unfolding phase
  phase_spent x h = rw (spent_no_write x h, spent_unchosen x h)

  pub phase_old : (x : ℕ) → is_old_copy z d x ≡ true → phase x ≡ 0
  unfolding phase
  phase_old x h = rw (copy_no_write z d x (old_is z d x h).0, (old_is z d x h).1)

  pub phase_chosen : (x : ℕ) → Chosen z d x → phase x ≡ 1
  unfolding phase
  phase_chosen x h = rw (copy_no_write z d x (complete-copy z d x h.is_complete), chosen_test z d x h)

  pub phase_write : (x : ℕ) → is_write z d x ≡ true → phase x ≡ 2
  unfolding phase
  phase_write x h = rw h

  -- by phase, and Write buckets by epoch
  abbrev pub Precedes : ℕ → ℕ → Type 0
  Precedes x y = (phase x ≤ phase y) × (phase x ≡ 2 → epoch_of z d x ≤ epoch_of z d y)

  -- a copy precedes what comes in its phase or later
  copy_precedes : (x y : ℕ) → phase x ≤ 1 → phase x ≤ phase y → Precedes x y
  copy_precedes x y h k = (k, λ e. absurd (omega arith))

  in_vacant : (x : ℕ) → 1 ≤ times x vacant → phase x ≡ 0
  in_vacant x h = phase_spent x (in_buckets z d (is_spent z d) x h).0

  in_olds : (x : ℕ) → 1 ≤ times x olds → phase x ≡ 0
  in_olds x h = phase_old x (in_class (is_old_copy z d) x h).0

  in_copies : (x : ℕ) → 1 ≤ times x copies → phase x ≡ 1
  in_copies x h = phase_chosen x (dropped_copy z d x (in_class (is_dropped_copy z d) x h).0).0

  in_logs : (x : ℕ) → 1 ≤ times x logs → phase x ≡ 2
  in_logs x h = phase_write x (dropped_write z d x (in_class (is_dropped_write z d) x h).0).0

  rising_logs : Pairwise Precedes logs
  unfolding by_epoch
  rising_logs = pairwise_map (λ x y. epoch_of z d x ≤ epoch_of z d y) Precedes logs (λ x y p q h. (omega (arith, in_logs x p, in_logs y q), λ e. h))
      (rising_sort (epoch_of z d) (buckets z d (is_dropped_write z d)))

  pub ordered : (n : ℕ) → Pairwise Precedes (rebuilt z d n).state.gc
  unfolding rebuilt
  ordered n = pairwise_append Precedes vacant (olds ++ (copies ++ logs))
      (pairwise_any Precedes vacant (λ x y p q. copy_precedes x y (omega (arith, in_vacant x p)) (omega (arith, in_vacant x p))))
      (pairwise_append Precedes olds (copies ++ logs)
      (pairwise_any Precedes olds (λ x y p q. copy_precedes x y (omega (arith, in_olds x p)) (omega (arith, in_olds x p))))
      (pairwise_append Precedes copies logs
      (pairwise_any Precedes copies (λ x y p q. copy_precedes x y (omega (arith, in_copies x p)) (omega (arith, in_copies x p, in_copies y q))))
      rising_logs
      (λ x y p q. copy_precedes x y (omega (arith, in_copies x p)) (omega (arith, in_copies x p, in_logs y q))))
      (λ x y p q. copy_precedes x y (omega (arith, in_olds x p)) (omega (arith, in_olds x p))))
      (λ x y p q. copy_precedes x y (omega (arith, in_vacant x p)) (omega (arith, in_vacant x p)))
