-- The buckets that a drain sends to GC may be erased in their order, after those that stand there.
use Prim.Native.Nat.{ℕ, ◌+◌, ◌≤◌, ◌<◌}
use mathlib.Core.Path.{◌≡◌, sym, ap, ◌∙◌, subst}
use mathlib.Core.Logic.{◌⊎◌, inl, inr}
use mathlib.Core.Bool.{true, false, ◌&&◌, true≢false}
use mathlib.Core.Option.{none, some}
use mathlib.Core.List.{List, ◌++◌, map}
use native.Mathlib.Omega.{arith}
use native.Mathlib.Decide.{dec_lt}
use lib.ListN.{get_or}
use Rattle.lists.specs.Lists.{keep, times, sort_by}
use Rattle.lists.proofs.Tests.{true_or_false, and-true, or_left, or_second}
use Rattle.lists.proofs.Rows.{map_append}
use Rattle.lists.proofs.Counts.{times_append}
use Rattle.lists.proofs.Orders.{Pairwise, pairwise_append, pairwise_cut, pairwise_any, times_sort}
use Rattle.model.specs.declared.Sizes.{Sizes}
use Rattle.model.specs.Sizes.{Device}
use Rattle.model.specs.Stores.{Store, erase, disk_bytes}
use Rattle.model.specs.Image.{epoch_of, is_dirty}
use Rattle.model.specs.State.{State, holds, cache_of, caches}
use Rattle.model.specs.Operations.{unclean, is_unclean, drained}
use Rattle.model.proofs.Limits.{on_chip}
use Rattle.model.proofs.Views.{SafeAt, copied, uncopied}
use Rattle.model.proofs.Safe.{gives_of, holds_of, view, plain_at, Safe, Along, Ready}
use Rattle.model.proofs.Prefix.{along_append}
use Rattle.model.proofs.Buckets.{holds_parts}
use Rattle.model.proofs.Queues.{Maps, absent, maps_times, times_maps}
use Rattle.model.proofs.QueuesErased.{gone, Below, gone_disk}
use Rattle.model.proofs.Inside.{Inside, lens, in_chip, one_place, gc_below, swept-lengths, swept_safe, who_gives, who_holds}
use Rattle.model.proofs.Erases.{along_erases, without_gone}
use Rattle.model.proofs.Retire.{none_unless, Without, retire_others, retire_logs}
use Rattle.model.proofs.DrainQueues.{selected, maps_selected, selected_maps, reads_selected}

module _ (z : Sizes) (d : Device) (s : State) where
  -- ---- b has a Write or Dirty bucket

  pub write-unclean : (b : ℕ) → holds b s.writes ≡ true → unclean z d s b ≡ true
  unfolding unclean
  write-unclean b h = or_left (holds b s.writes) (holds b s.reads && is_dirty z d (cache_of b s.reads)) h

  pub clean_unwritten : (b : ℕ) → unclean z d s b ≡ false → holds b s.writes ≡ false
  clean_unwritten b h = go (true_or_false (holds b s.writes))
    where
      go : (holds b s.writes ≡ true) ⊎ (holds b s.writes ≡ false) → holds b s.writes ≡ false
      go (inl e) = absurd (true≢false (sym (write-unclean b e) ∙ h))
      go (inr e) = e

  pub clean_read : (b c : ℕ) → unclean z d s b ≡ false → Maps s.reads b c → is_dirty z d c ≡ false
  unfolding unclean
  clean_read b c h m = go (true_or_false (is_dirty z d c))
    where
      go : (is_dirty z d c ≡ true) ⊎ (is_dirty z d c ≡ false) → is_dirty z d c ≡ false
      go (inr e) = e
      go (inl e) = absurd (true≢false (sym (or_second (holds b s.writes) (holds b s.reads && is_dirty z d (cache_of b s.reads)) (and-true m.held (rw m.is e))) ∙ h))

  module _ (p_pos : 1 ≤ z.p) (plain : List ℕ) (e : Device) (j : Inside z plain s e) where
    -- ---- who leaves

    data Leaves (x : ℕ) : Type 0 where
      copy : (b : ℕ) → Maps s.reads b x → unclean z d s b ≡ true → Leaves x
      log : (b : ℕ) → Maps s.writes b x → Leaves x

    pub times-drained : (x : ℕ) → times x (drained z d s) ≡ times x (caches (keep (is_unclean z d s) s.reads)) + times x (caches s.writes)
    unfolding drained
    times-drained x =
        times_append x (sort_by (epoch_of z d) (caches (keep (is_unclean z d s) s.reads))) (sort_by (epoch_of z d) (caches s.writes))
        ∙ omega (arith, times_sort (epoch_of z d) x (caches (keep (is_unclean z d s) s.reads)), times_sort (epoch_of z d) x (caches s.writes))

    leaves : (x : ℕ) → 1 ≤ times x (drained z d s) → Leaves x
    unfolding is_unclean
    leaves x h = go (dec_lt 0 (times x (caches s.writes)))
      where
        go : Dec (0 < times x (caches s.writes)) → Leaves x
        go (yes u) = let m = times_maps s.writes j.writes.write_once x u in log m.0 m.1
        go (no u) =
            let m = times_maps (selected (unclean z d s) s.reads) (reads_selected (unclean z d s) z e s.reads j.reads).read_once x (omega (arith, times-drained x)) in
            let r = maps_selected (unclean z d s) s.reads j.reads.read_once m.0 x m.1 in
            copy m.0 r.0 r.1

    copy_leaves : (b c : ℕ) → Maps s.reads b c → unclean z d s b ≡ true → 1 ≤ times c (drained z d s)
    unfolding is_unclean
    copy_leaves b c m h = omega (arith, times-drained c, maps_times (selected (unclean z d s) s.reads) b c (selected_maps (unclean z d s) s.reads b c m h))

    leaves_below : Below z (drained z d s)
    leaves_below x h = go (leaves x h)
      where
        go : Leaves x → x < z.c
        go (copy b m u) = on_chip z x (in_chip z plain s e j x (omega (arith, maps_times s.reads b x m)))
        go (log b m) = on_chip z x (in_chip z plain s e j x (omega (arith, maps_times s.writes b x m)))

    -- copies before logs
    abbrev Precedes : ℕ → ℕ → Type 0
    Precedes x y = 1 ≤ times x (caches s.writes) → 1 ≤ times y (caches s.writes)

    read_no_write : (b c : ℕ) → Maps s.reads b c → times c (caches s.writes) ≡ 0
    read_no_write b c m = omega (arith, one_place z plain s e j c, maps_times s.reads b c m)

    ordered : Pairwise Precedes (drained z d s)
    unfolding drained is_unclean
    ordered = pairwise_append Precedes copies logs (pairwise_any Precedes copies (λ x y p q. before x y p)) (pairwise_any Precedes logs (λ x y p q h. omega (arith, times_sort (epoch_of z d) y (caches s.writes))))
        (λ x y p q. before x y p)
      where
        copies : List ℕ
        copies = sort_by (epoch_of z d) (caches (selected (unclean z d s) s.reads))

        logs : List ℕ
        logs = sort_by (epoch_of z d) (caches s.writes)

        before : (x y : ℕ) → 1 ≤ times x copies → Precedes x y
        before x y p h =
            let m = times_maps (selected (unclean z d s) s.reads) (reads_selected (unclean z d s) z e s.reads j.reads).read_once x
            (omega (arith, times_sort (epoch_of z d) x (caches (selected (unclean z d s) s.reads)))) in
            absurd (omega (arith, read_no_write m.0 x (maps_selected (unclean z d s) s.reads j.reads.read_once m.0 x m.1).0))

    -- ---- after each first part of them

    module _ (disk : (b : ℕ) → unclean z d s b ≡ true → (i : ℕ) → get_or (disk_bytes z e b) i 0 ≡ plain_at z plain b i) (done rest : List ℕ) (parts : drained z d s ≡ done ++ rest) where
      abbrev swept : Device
      swept = gone z e s.gc

      in_done : (x : ℕ) → 1 ≤ times x done → 1 ≤ times x (drained z d s)
      in_done x h = omega (arith, ap (times x) parts, times_append x done rest)

      precedes : (x y : ℕ) → 1 ≤ times x done → 1 ≤ times y rest → Precedes x y
      precedes x y p q = pairwise_cut Precedes done rest (subst (λ (l : List ℕ). Pairwise Precedes l) parts ordered) x y p q

      without : Without (view z swept) (view z (gone z swept done)) (λ c. 1 ≤ times c done)
      without = without_gone z p_pos swept (swept-lengths z plain s e j) done (λ x h. leaves_below x (in_done x h))

      log_free : (b : ℕ) → ((x : ℕ) → Maps s.writes b x → 1 ≤ times x done → ⊥) → (x i : ℕ) → 1 ≤ times x done → gives_of z swept x b i ≡ none
      log_free b h x i t = none_unless (λ v q. h x (who_gives z plain s e j p_pos x b i v q) t)

      reader : (b c : ℕ) → holds_of z swept c b ≡ true → Maps s.reads b c
      reader b c h = who_holds z plain s e j p_pos c b h

      -- b's bytes are on the disk
      safe_unclean : (b : ℕ) → unclean z d s b ≡ true → SafeAt (view z swept) b (plain_at z plain b) → SafeAt (view z (gone z swept done)) b (plain_at z plain b)
      safe_unclean b u safe = go safe
        where
          on_disk : (i : ℕ) → get_or (disk_bytes z swept b) i 0 ≡ plain_at z plain b i
          on_disk i = ap (λ (l : List ℕ). get_or l i 0) (gone_disk z s.gc (gc_below z plain s e j) e (lens z plain s e j) b) ∙ disk b u i

          -- b has one Write bucket
          oldest : (c x i y y' : ℕ) → 1 ≤ times c done → ¬ (1 ≤ times x done) → gives_of z swept c b i ≡ some y → gives_of z swept x b i ≡ some y' → epoch_of z swept c < epoch_of z swept x
          oldest c x i y y' t h q q' =
              absurd (h (rw (sym (who_gives z plain s e j p_pos x b i y' q').is ∙ (who_gives z plain s e j p_pos c b i y q).is) t))

          go : SafeAt (view z swept) b (plain_at z plain b) → SafeAt (view z (gone z swept done)) b (plain_at z plain b)
          go (uncopied n l) = retire_logs without b (plain_at z plain b) (λ c q. absurd (true≢false (sym q ∙ n c))) on_disk oldest safe
          go (copied c n l clean) = pick (dec_lt 0 (times c done))
            where
              m : Maps s.reads b c
              m = reader b c n.0

              pick : Dec (0 < times c done) → SafeAt (view z (gone z swept done)) b (plain_at z plain b)
              pick (yes t) = retire_logs without b (plain_at z plain b) (λ x h. rw (sym (reader b x h).is ∙ m.is) t) on_disk oldest safe
              pick (no t) = retire_others without b (plain_at z plain b)
                  (log_free b (λ x w h. omega (arith, read_no_write b c m, precedes x c h later (maps_times s.writes b x w))))
                  (λ x n' h. t (rw (sym m.is ∙ (reader b x n'.0).is) h)) safe
                where
                  later : 1 ≤ times c rest
                  later = omega (arith, copy_leaves b c m u, ap (times c) parts, times_append c done rest)

      -- none of b's buckets leaves
      safe_clean : (b : ℕ) → unclean z d s b ≡ false → SafeAt (view z swept) b (plain_at z plain b) → SafeAt (view z (gone z swept done)) b (plain_at z plain b)
      safe_clean b u safe = retire_others without b (plain_at z plain b) (log_free b (λ x w h. absent (clean_unwritten b u) w)) (λ c n h. stays c (reader b c n.0) (leaves c (in_done c h))) safe
        where
          stays : (c : ℕ) → Maps s.reads b c → Leaves c → ⊥
          stays c m (copy b' m' u') = true≢false (sym u' ∙ ap (unclean z d s) (one_back b' m') ∙ u)
            where
              one_back : (b' : ℕ) → Maps s.reads b' c → b' ≡ b
              one_back b' m' = sym (holds_parts z e c b' (j.reads.copies b' c m')).2 ∙ (holds_parts z e c b (j.reads.copies b c m)).2
          stays c m (log b' m') = omega (arith, read_no_write b c m, maps_times s.writes b' c m')

      safe_done : Safe z plain (gone z (gone z e s.gc) done)
      unfolding Safe
      safe_done b = go (true_or_false (unclean z d s b))
        where
          go : (unclean z d s b ≡ true) ⊎ (unclean z d s b ≡ false) → SafeAt (view z (gone z swept done)) b (plain_at z plain b)
          go (inl u) = safe_unclean b u (swept_safe z plain s e j b)
          go (inr u) = safe_clean b u (swept_safe z plain s e j b)

    pub ready_drained : ((b : ℕ) → unclean z d s b ≡ true → (i : ℕ) → get_or (disk_bytes z e b) i 0 ≡ plain_at z plain b i) → Ready z plain (s.gc ++ drained z d s) e
    ready_drained disk =
        subst (λ (l : List Store). Along z (Safe z plain) e l) (sym (map_append erase s.gc (drained z d s)))
        (along_append z (Safe z plain) e (map erase s.gc) (map erase (drained z d s)) j.ready (along_erases z (Safe z plain) (gone z e s.gc) (drained z d s) (safe_done disk)))
