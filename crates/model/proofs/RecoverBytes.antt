-- The bytes that recovery merges are the plain disk's.
use Prim.Native.Nat.{ℕ, ◌≤◌, ◌<◌}
use mathlib.Core.Path.{◌≡◌, refl, sym, ap, ◌∙◌}
use mathlib.Core.Logic.{inl, inr, ◌≢◌}
use mathlib.Core.Bool.{true, false, true≢false}
use mathlib.Core.Option.{none, some}
use mathlib.Core.List.{List, [], ◌∷◌, Memᴰ}
use native.Mathlib.Omega.{arith}
use native.Mathlib.Decide.{ℕ_discrete, dec_lt}
use lib.ListN.{length, get_or}
use borrow.Author.Tests.{eqb-true, eq-eqb}
use Rattle.std.specs.Prelude.{if◌then◌else◌}
use Rattle.lists.specs.Lists.{empty, head, times}
use Rattle.lists.proofs.Tests.{and_left, and_right, and-true}
use Rattle.lists.proofs.Counts.{times_self, times_other, times_cons, mem_times}
use Rattle.lists.proofs.Orders.{Rising, rising_sort, times_sort}
use Rattle.model.specs.declared.Sizes.{Sizes}
use Rattle.model.specs.Sizes.{Device, bucket_size, body}
use Rattle.model.specs.Stores.{bucket_bytes, disk_bytes}
use Rattle.model.specs.Image.{epoch_of, back_of, is_write}
use Rattle.model.specs.Recover.{buckets, by_epoch, is_write_of, chosen, merge_all, recovered}
use Rattle.model.proofs.Limits.{on_chip}
use Rattle.model.proofs.Views.{Lay, top, bare, SafeAt, copied, uncopied}
use Rattle.model.proofs.Safe.{found, gives_of, holds_of, view, plain_at, Safe}
use Rattle.model.proofs.Frames.{Lengths, length_bucket, length_disk}
use Rattle.model.proofs.Formed.{Formed}
use Rattle.model.proofs.Show.{same_refl}
use Rattle.model.proofs.Buckets.{gives_write, gives_found, holds_from}
use Rattle.model.proofs.MergeBytes.{Wins, merge_all_silent, merge_all_wins, length-merge_all}
use Rattle.model.proofs.BucketKinds.{write-used}
use Rattle.model.proofs.RecoverChoice.{newest-chosen, in_buckets, from_buckets, head-chosen, chosen_in}

module _ (z : Sizes) (d : Device) (p_pos : 1 ≤ z.p) (s_pos : 1 ≤ z.s) (L : Lengths z d) (F : Formed z d) where
  -- of buckets by epoch, the newest with byte i wins
  newest_wins : (ws : List ℕ) → Rising (epoch_of z d) ws → (c i x : ℕ) → 1 ≤ times c ws → found z d c z.p i ≡ some x
      → ((w : ℕ) → 1 ≤ times w ws → w ≢ c → epoch_of z d w ≢ epoch_of z d c)
      → ((w : ℕ) → 1 ≤ times w ws → epoch_of z d c < epoch_of z d w → found z d w z.p i ≡ none) → Wins z d s_pos L F i x ws
  unfolding times
  newest_wins [] r c i x t e differ none_newer = absurd (omega arith)
  newest_wins (w ∷ ws) r c i x t e differ none_newer = go (dec_lt 0 (times c ws)) (λ q. newest_wins ws r.1 c i x q e (λ v h. differ v (later v h)) (λ v h. none_newer v (later v h)))
    where
      later : (v : ℕ) → 1 ≤ times v ws → 1 ≤ times v (w ∷ ws)
      later v h = omega (arith, times_cons v w ws)

      go : Dec (0 < times c ws) → (1 ≤ times c ws → Wins z d s_pos L F i x ws) → Wins z d s_pos L F i x (w ∷ ws)
      go (yes u) more = inr (more u)
      go (no u) more = inl (rw (← same) e, λ v m. quiet v (mem_times v ws m))
        where
          same : c ≡ w
          same = first (ℕ_discrete c w)
            where
              first : Dec (c ≡ w) → c ≡ w
              first (yes q) = q
              first (no q) = absurd (omega (arith, times_cons c w ws, times_other c w q))

          quiet : (v : ℕ) → 1 ≤ times v ws → found z d v z.p i ≡ none
          quiet v h =
              let ne : epoch_of z d v ≢ epoch_of z d c = differ v (later v h) (λ q. omega (arith, ap (λ (y : ℕ). times y ws) q)) in
              none_newer v (later v h) (omega (arith, r.0 v h, ap (epoch_of z d) same, ne))

  module _ (b : ℕ) (hb : b < z.b) where
    logs : List ℕ
    logs = by_epoch z d (buckets z d (is_write_of z d b))

    in_logs : (w : ℕ) → 1 ≤ times w logs → (is_write z d w ≡ true) × (back_of z d w ≡ b) × (w < body z)
    unfolding logs by_epoch is_write_of
    in_logs w h =
        let r = in_buckets z d (is_write_of z d b) w (omega (arith, times_sort (epoch_of z d) w (buckets z d (is_write_of z d b)))) in
        (and_left (is_write z d w) _ r.0, eqb-true _ _ (and_right (is_write z d w) _ r.0), r.1)

    from_logs : (w : ℕ) → w < body z → is_write z d w ≡ true → back_of z d w ≡ b → 1 ≤ times w logs
    unfolding logs by_epoch is_write_of
    from_logs w hw q e =
        omega (arith, times_sort (epoch_of z d) w (buckets z d (is_write_of z d b)), from_buckets z d (is_write_of z d b) w hw (and-true q (eq-eqb (back_of z d w) b e)))

    rising_logs : Rising (epoch_of z d) logs
    unfolding logs by_epoch
    rising_logs = rising_sort (epoch_of z d) (buckets z d (is_write_of z d b))

    in_chip : (w : ℕ) → Memᴰ w logs → w < body z
    in_chip w m = (in_logs w (mem_times w logs m)).2

    gives_log : (w i : ℕ) → 1 ≤ times w logs → gives_of z d w b i ≡ found z d w z.p i
    gives_log w i h = let r = in_logs w h in gives_found z d w b i r.2 r.0 r.1

    -- the logs of b over a base, where they give x
    laid : (base : List ℕ) → length base ≡ bucket_size z → (i x : ℕ) → Lay (view z d) b (λ j. get_or base j 0) i x → get_or (merge_all z d logs base) i 0 ≡ x
    laid base h i x (bare n e) =
        merge_all_silent z d s_pos L F logs in_chip base h i (λ w m. sym (gives_log w i (mem_times w logs m)) ∙ n w) ∙ e
    laid base h i x (top c e n) =
        let g = gives_write z d c b i x e in
        merge_all_wins z d s_pos L F logs in_chip base h i x
        (newest_wins logs rising_logs c i x (from_logs c g.0 g.1 g.2) g.3
        (λ w t ne q. let r = in_logs w t in ne (F.epochs_differ w c r.2 g.0 (write-used z d w r.0) (write-used z d c g.1) q))
        (λ w t a. sym (gives_log w i t) ∙ n w a))

    -- what lies under them
    base_of : List ℕ
    base_of = if empty (chosen z d b) then disk_bytes z d b else bucket_bytes z d (head (chosen z d b))

    none-chosen : ((c : ℕ) → holds_of z d c b ≡ false) → empty (chosen z d b) ≡ true
    unfolding empty
    none-chosen n = go (chosen z d b) refl
      where
        go : (l : List ℕ) → chosen z d b ≡ l → empty l ≡ true
        go [] q = refl
        go (c ∷ l) q =
            let r = chosen_in z d b c (omega (arith, times_cons c c l, times_self c, ap (times c) q)) in
            absurd (true≢false (sym (holds_from z d c b r.1 r.0.is_complete r.2) ∙ n c))

    pub recovered-plain : (plain : List ℕ) → Safe z plain d → (length (recovered z d b) ≡ bucket_size z) × ((i : ℕ) → get_or (recovered z d b) i 0 ≡ plain_at z plain b i)
    unfolding Safe recovered logs base_of
    recovered-plain plain s = go (s b)
      where
        over : (base : List ℕ) → base_of ≡ base → length base ≡ bucket_size z → ((i : ℕ) → Lay (view z d) b (λ j. get_or base j 0) i (plain_at z plain b i))
            → (length (merge_all z d logs base_of) ≡ bucket_size z) × ((i : ℕ) → get_or (merge_all z d logs base_of) i 0 ≡ plain_at z plain b i)
        over base e h l = rw e (length-merge_all z d s_pos L F logs in_chip base h, λ i. laid base h i (plain_at z plain b i) (l i))

        go : SafeAt (view z d) b (plain_at z plain b) → (length (recovered z d b) ≡ bucket_size z) × ((i : ℕ) → get_or (recovered z d b) i 0 ≡ plain_at z plain b i)
        go (copied c n l _) =
            let r = newest-chosen z d p_pos d (same_refl z d) b c n in
            let h = head-chosen z d F b c r.1 r.0 r.2 in
            over (bucket_bytes z d c) (rw (h.0, h.1)) (length_bucket z d L c (on_chip z c r.1)) l
        go (uncopied n l) = over (disk_bytes z d b) (rw (none-chosen n)) (length_disk z d L b hb) l
