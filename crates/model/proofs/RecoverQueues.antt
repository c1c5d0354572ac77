-- The queues that recovery makes: each cache bucket once, the newest copies and the only Write buckets.
use Prim.Native.Nat.{ℕ, ◌+◌, ◌≤◌, ◌<◌}
use mathlib.Core.Path.{◌≡◌, refl, sym, ap, ◌∙◌}
use mathlib.Core.Logic.{◌⊎◌, inl, inr, ◌≢◌}
use mathlib.Core.Bool.{Bool, true, false, not, ◌&&◌, true≢false}
use mathlib.Core.List.{List, [], ◌∷◌, ◌++◌, map}
use native.Mathlib.Omega.{arith}
use native.Mathlib.Decide.{dec_lt}
use lib.ListN.{length, length-map}
use lib.Dec.{ltb, eqb}
use borrow.Author.Tests.{lt-ltb, le-ltb, ltb-true, le-leb}
use Rattle.std.specs.Prelude.{if◌then◌else◌}
use Rattle.lists.specs.Lists.{all, keep, member, times, distinct}
use Rattle.lists.proofs.Tests.{and_left, and-true}
use Rattle.lists.proofs.Rows.{count_le}
use Rattle.lists.proofs.Counts.{times_append, member-times, times_cons, times_self}
use Rattle.lists.proofs.Orders.{times-keep, member_in, times_sort, length_sort, distinct-map, length-newest}
use Rattle.model.specs.declared.Sizes.{Sizes}
use Rattle.model.specs.declared.Entry.{Entry}
use Rattle.model.specs.Sizes.{Device, body}
use Rattle.model.specs.Spare.{spoiled, write_kind, kind}
use Rattle.model.specs.Stores.{tag_of}
use Rattle.model.specs.Image.{used, epoch_of, back_of, is_write, is_copy, page_blank, blanks, head_tag}
use Rattle.model.specs.State.{entry, holds, cache_bucket, back_bucket, caches, backs}
use Rattle.model.specs.Recover.{buckets, by_epoch, is_newer, among_newest, newest, is_chosen, is_only, kept_writes, is_dropped_write, is_remaining, kept_copies, is_dropped_copy, is_old_copy, is_free, is_spent, kept_read, kept_write, rebuilt}
use Rattle.model.proofs.Heads.{Blank, head_first}
use Rattle.model.proofs.Formed.{Formed, first_blank}
use Rattle.model.proofs.Tags.{blank-true, spoiled-ff, programmed-ff}
use Rattle.model.proofs.Buckets.{gives_write, holds_parts, holds_from}
use Rattle.model.proofs.Retire.{none_unless}
use Rattle.model.proofs.Queues.{Maps, maps_first}
use Rattle.model.proofs.Marks.{is_unmarked}
use Rattle.model.proofs.QueuesShown.{priority_fits, Reads, Writes}
use Rattle.model.proofs.Inside.{places}
use Rattle.model.proofs.BucketKinds.{complete-copy, copy-used, write-used}
use Rattle.model.proofs.RecoverChoice.{times-buckets, in_buckets, once_buckets, chosen_of, chosen_test, chosen_one, only_of, kept_write_lem, kept_copy}

module _ (z : Sizes) (d : Device) where
  times-by_epoch : (c : ℕ) (l : List ℕ) → times c (by_epoch z d l) ≡ times c l
  unfolding by_epoch
  times-by_epoch c l = times_sort (epoch_of z d) c l

  -- ---- a queue of cache buckets, each with the back-end bucket that its tags say

  module _ (priority : ℕ → ℕ) where
    abbrev slots : List ℕ → List Entry
    slots l = map (λ c. entry (back_of z d c) c (priority c)) l

    caches_slots : (l : List ℕ) → caches (slots l) ≡ l
    unfolding caches cache_bucket entry
    caches_slots [] = refl
    caches_slots (c ∷ l) = ap (λ (m : List ℕ). c ∷ m) (caches_slots l)

    backs_slots : (l : List ℕ) → backs (slots l) ≡ map (back_of z d) l
    unfolding backs back_bucket entry
    backs_slots [] = refl
    backs_slots (c ∷ l) = ap (λ (m : List ℕ). back_of z d c ∷ m) (backs_slots l)

    maps_slots : (l : List ℕ) (b c : ℕ) → Maps (slots l) b c → (1 ≤ times c l) × (back_of z d c ≡ b)
    unfolding holds entry
    maps_slots [] b c m = absurd (true≢false (sym m.held))
    maps_slots (x ∷ l) b c m = go (maps_first (entry (back_of z d x) x (priority x)) (slots l) b c m) (λ q. maps_slots l b c q)
      where
        go : ((back_of z d x ≡ b) × (x ≡ c)) ⊎ ((back_of z d x ≢ b) × Maps (slots l) b c) → (Maps (slots l) b c → (1 ≤ times c l) × (back_of z d c ≡ b))
            → (1 ≤ times c (x ∷ l)) × (back_of z d c ≡ b)
        go (inl h) r = (omega (arith, times_cons c x l, ap (λ (y : ℕ). times c (y ∷ [])) h.1, times_self c), ap (back_of z d) (sym h.1) ∙ h.0)
        go (inr h) r = let w = r h.1 in (omega (arith, w.0, times_cons c x l), w.1)

    -- by epoch
    times_slots : (l : List ℕ) (c : ℕ) → times c (caches (slots (by_epoch z d l))) ≡ times c l
    times_slots l c = ap (times c) (caches_slots (by_epoch z d l)) ∙ times-by_epoch c l

    in_slots : (l : List ℕ) (b c : ℕ) → Maps (slots (by_epoch z d l)) b c → (1 ≤ times c l) × (back_of z d c ≡ b)
    in_slots l b c m = let r = maps_slots (by_epoch z d l) b c m in (omega (arith, r.0, times-by_epoch c l), r.1)

    -- each back-end bucket once, where its buckets are told apart
    slots_once : (l : List ℕ) → ((c : ℕ) → times c l ≤ 1) → ((c e : ℕ) → 1 ≤ times c l → 1 ≤ times e l → back_of z d c ≡ back_of z d e → c ≡ e)
        → distinct (backs (slots (by_epoch z d l))) ≡ true
    slots_once l once inj =
        ap distinct (backs_slots (by_epoch z d l))
        ∙ distinct-map (back_of z d) (by_epoch z d l) (λ c. omega (arith, times-by_epoch c l, once c))
        (λ c e p q. inj c e (omega (arith, times-by_epoch c l)) (omega (arith, times-by_epoch e l)))

    length_slots : (l : List ℕ) → length (slots (by_epoch z d l)) ≡ length l
    unfolding by_epoch
    length_slots l = length-map (by_epoch z d l) (λ c. entry (back_of z d c) c (priority c)) ∙ length_sort (epoch_of z d) l

  -- ---- each cache bucket once

  -- a selection has a bucket once or not at all
  kept_once : (n : ℕ) (t : ℕ → Bool) (c : ℕ) → times c (newest z d n (buckets z d t)) ≤ 1
  unfolding newest
  kept_once n t c = go (among_newest z d n (buckets z d t) c) (times-keep (among_newest z d n (buckets z d t)) c (buckets z d t))
    where
      go : (s : Bool) → times c (keep (among_newest z d n (buckets z d t)) (buckets z d t)) ≡ (if s then times c (buckets z d t) else 0)
          → times c (keep (among_newest z d n (buckets z d t)) (buckets z d t)) ≤ 1
      go true r = omega (arith, once_buckets z d t c)
      go false r = omega arith

  member_once : (c : ℕ) (l : List ℕ) → times c l ≤ 1 → times c l ≡ (if member c l then 1 else 0)
  member_once c l h = go (member c l) refl
    where
      go : (t : Bool) → member c l ≡ t → times c l ≡ (if t then 1 else 0)
      go true e = omega (arith, member_in c l e)
      go false e = member-times c l (rw e)

  -- the classes of one bucket, by what it is
  classes : (used writes chosen keeps_copy keeps_write free : Bool) → (chosen ≡ true → used && not writes ≡ true) → (keeps_copy ≡ true → chosen ≡ true) → (keeps_write ≡ true → used && writes ≡ true)
      → (free ≡ true → used ≡ false)
      → (if keeps_copy then 1 else 0) + (if keeps_write then 1 else 0)
      + ((if not free && not used then 1 else 0)
      + ((if (used && not writes) && not chosen then 1 else 0) + ((if chosen && not keeps_copy then 1 else 0) + (if (used && writes) && not keeps_write then 1 else 0))))
      + (if free then 1 else 0) ≡ 1
  classes true w c k l true hc hk hl hf = absurd (true≢false (hf refl))
  classes true true true k l false hc hk hl hf = absurd (true≢false (sym (hc refl)))
  classes true true false true l false hc hk hl hf = absurd (true≢false (sym (hk refl)))
  classes true true false false true false hc hk hl hf = refl
  classes true true false false false false hc hk hl hf = refl
  classes true false true true true false hc hk hl hf = absurd (true≢false (sym (hl refl)))
  classes true false true true false false hc hk hl hf = refl
  classes true false true false true false hc hk hl hf = absurd (true≢false (sym (hl refl)))
  classes true false true false false false hc hk hl hf = refl
  classes true false false true l false hc hk hl hf = absurd (true≢false (sym (hk refl)))
  classes true false false false true false hc hk hl hf = absurd (true≢false (sym (hl refl)))
  classes true false false false false false hc hk hl hf = refl
  classes false w true k l f hc hk hl hf = absurd (true≢false (sym (hc refl)))
  classes false w false true l f hc hk hl hf = absurd (true≢false (sym (hk refl)))
  classes false w false false true f hc hk hl hf = absurd (true≢false (sym (hl refl)))
  classes false w false false false true hc hk hl hf = refl
  classes false w false false false false hc hk hl hf = refl

  -- how often the queues that recovery makes have a bucket
  abbrev recovered_places : ℕ → ℕ
  recovered_places c = times c (kept_copies z d) + times c (kept_writes z d)
      + (times c (buckets z d (is_spent z d))
      + (times c (buckets z d (is_old_copy z d)) + (times c (buckets z d (is_dropped_copy z d)) + times c (buckets z d (is_dropped_write z d)))))
      + times c (buckets z d (is_free z d))

  places_recovered : (n c : ℕ) → places (rebuilt z d n).state c ≡ recovered_places c
  unfolding rebuilt kept_read kept_write
  places_recovered n c =
      omega (
        arith,
        times_slots (λ x. 0) (kept_copies z d) c,
        times_slots (blanks z d) (kept_writes z d) c,
        times_append c (buckets z d (is_spent z d)) (by_epoch z d (buckets z d (is_old_copy z d)) ++ (by_epoch z d (buckets z d (is_dropped_copy z d)) ++ by_epoch z d (buckets z d (is_dropped_write z d)))),
        times_append c (by_epoch z d (buckets z d (is_old_copy z d))) (by_epoch z d (buckets z d (is_dropped_copy z d)) ++ by_epoch z d (buckets z d (is_dropped_write z d))),
        times_append c (by_epoch z d (buckets z d (is_dropped_copy z d))) (by_epoch z d (buckets z d (is_dropped_write z d))),
        times-by_epoch c (buckets z d (is_old_copy z d)),
        times-by_epoch c (buckets z d (is_dropped_copy z d)),
        times-by_epoch c (buckets z d (is_dropped_write z d)),
      )

  kept_copy_once : (c : ℕ) → times c (kept_copies z d) ≤ 1
  unfolding kept_copies
  kept_copy_once c = kept_once z.r (is_remaining z d) c

  kept_write_once : (c : ℕ) → times c (kept_writes z d) ≤ 1
  unfolding kept_writes
  kept_write_once c = kept_once z.w (is_only z d) c

  -- of a bucket of the chip
  in_class : (t : ℕ → Bool) (c : ℕ) → c < body z → times c (buckets z d t) ≡ (if t c then 1 else 0)
  in_class t c h = times-buckets z d t c ∙ rw (lt-ltb c (body z) h)

  -- a blank first page is the head
  free_unused : (c : ℕ) → is_free z d c ≡ true → used z d c ≡ false
  unfolding is_free used
  free_unused c h = let b = blank-true (tag_of z d c 0) h in rw (head_first z d c (ap spoiled b ∙ spoiled-ff), b) programmed-ff

  once_inside : (c : ℕ) → c < body z → recovered_places c ≡ 1
  unfolding is_spent is_old_copy is_dropped_copy is_dropped_write is_copy is_write
  once_inside c h =
      rw (
        member_once c (kept_copies z d) (kept_copy_once c),
        member_once c (kept_writes z d) (kept_write_once c),
        in_class (is_spent z d) c h,
        in_class (is_old_copy z d) c h,
        in_class (is_dropped_copy z d) c h,
        in_class (is_dropped_write z d) c h,
        in_class (is_free z d) c h,
      )
      (classes (used z d c) (eqb (kind (head_tag z d c)) write_kind) (is_chosen z d c) (member c (kept_copies z d)) (member c (kept_writes z d)) (is_free z d c)
      (λ q. complete-copy z d c (chosen_of z d c q).is_complete)
      (λ q. chosen_test z d c (kept_copy z d c (member_in c (kept_copies z d) q)).0)
      (λ q. (kept_write_lem z d c (member_in c (kept_writes z d) q)).0.is_write_lem)
      (free_unused c))

  pub once_recovered : (n c : ℕ) → places (rebuilt z d n).state c ≡ (if ltb c (body z) then 1 else 0)
  once_recovered n c = places_recovered n c ∙ go (dec_lt c (body z))
    where
      none : (l : List ℕ) → ¬ (c < body z) → (1 ≤ times c l → c < body z) → times c l ≡ 0
      none l out h = pick (dec_lt 0 (times c l))
        where
          pick : Dec (0 < times c l) → times c l ≡ 0
          pick (yes u) = absurd (out (h u))
          pick (no u) = omega arith

      go : Dec (c < body z) → recovered_places c ≡ (if ltb c (body z) then 1 else 0)
      go (yes u) = rw (lt-ltb c (body z) u) (once_inside c u)
      go (no u) = rw (le-ltb c (body z) (omega arith)) (omega (
        arith,
        none (kept_copies z d) u (λ q. (kept_copy z d c q).1),
        none (kept_writes z d) u (λ q. (kept_write_lem z d c q).1),
        none (buckets z d (is_spent z d)) u (λ q. (in_buckets z d (is_spent z d) c q).1),
        none (buckets z d (is_old_copy z d)) u (λ q. (in_buckets z d (is_old_copy z d) c q).1),
        none (buckets z d (is_dropped_copy z d)) u (λ q. (in_buckets z d (is_dropped_copy z d) c q).1),
        none (buckets z d (is_dropped_write z d)) u (λ q. (in_buckets z d (is_dropped_write z d) c q).1),
        none (buckets z d (is_free z d)) u (λ q. (in_buckets z d (is_free z d) c q).1),
      ))

  -- ---- copies and Write buckets

  blanks_fit : (l : List ℕ) → all (priority_fits z) (slots (blanks z d) l) ≡ true
  unfolding all priority_fits entry blanks
  blanks_fit [] = refl
  blanks_fit (c ∷ l) = and-true (le-leb (blanks z d c) z.p (count_le z.p (page_blank z d c))) (blanks_fit l)

  pub unmarked_recovered : (n : ℕ) → all is_unmarked (rebuilt z d n).state.writes ≡ true
  unfolding rebuilt kept_write all is_unmarked entry
  unmarked_recovered n = go (by_epoch z d (kept_writes z d))
    where
      go : (l : List ℕ) → all is_unmarked (slots (blanks z d) l) ≡ true
      go [] = refl
      go (c ∷ l) = go l

  module _ (F : Formed z d) (next : ℕ) where
    in_reads : (b c : ℕ) → Maps (rebuilt z d next).state.reads b c → (1 ≤ times c (kept_copies z d)) × (back_of z d c ≡ b)
    unfolding rebuilt kept_read
    in_reads b c m = in_slots (λ x. 0) (kept_copies z d) b c m

    in_writes : (b c : ℕ) → Maps (rebuilt z d next).state.writes b c → (1 ≤ times c (kept_writes z d)) × (back_of z d c ≡ b)
    unfolding rebuilt kept_write
    in_writes b c m = in_slots (blanks z d) (kept_writes z d) b c m

    pub reads_recovered : Reads z d (rebuilt z d next).state.reads
    unfolding rebuilt kept_read
    reads_recovered = record {
      read_once = slots_once (λ x. 0) (kept_copies z d) kept_copy_once
          (λ c e p q. let k = kept_copy z d c p in let l = kept_copy z d e q in chosen_one z d F c e k.1 l.1 k.0 l.0);
      copies = λ b c m. let r = in_reads b c m in let k = kept_copy z d c r.0 in holds_from z d c b k.1 k.0.is_complete r.1;
      newest-copy = λ b c m x q.
          let r = in_reads b c m in
          let h = holds_parts z d x b q in
          (kept_copy z d c r.0).0.is_newest x h.0 h.1 (h.2 ∙ sym r.1);
    }

    pub writes_recovered : Writes z d (rebuilt z d next).state.writes
    unfolding rebuilt kept_write
    writes_recovered = record {
      write_once = slots_once (blanks z d) (kept_writes z d) kept_write_once
          (λ c e p q b. let k = kept_write_lem z d c p in (kept_write_lem z d e q).0.no_other c k.1 k.0.is_write_lem b);
      logs = λ b c m. let r = in_writes b c m in ((kept_write_lem z d c r.0).0.is_write_lem, r.1);
      newest_logs = λ b c m x i ne.
          let r = in_writes b c m in
          inl (none_unless (λ v q. let g = gives_write z d x b i v q in ne ((kept_write_lem z d c r.0).0.no_other x g.0 g.1 (g.2 ∙ sym r.1))));
      priorities = blanks_fit (by_epoch z d (kept_writes z d));
    }

    -- ---- lengths

    few : (n : ℕ) (t : ℕ → Bool) → ((c : ℕ) → 1 ≤ times c (buckets z d t) → (c < body z) × (used z d c ≡ true)) → length (newest z d n (buckets z d t)) ≤ n
    unfolding newest among_newest is_newer
    few n t ok = length-newest (epoch_of z d) (among_newest z d n (buckets z d t)) n (buckets z d t) (once_buckets z d t)
        (λ c e p q. let k = ok c p in let l = ok e q in F.epochs_differ c e k.0 l.0 k.1 l.1)
        (λ c p h. ltb-true _ _ h)

    pub few_reads_recovered : length (rebuilt z d next).state.reads ≤ z.r
    unfolding rebuilt kept_read kept_copies is_remaining
    few_reads_recovered = rw (length_slots (λ x. 0) (kept_copies z d)) (few z.r (is_remaining z d) (λ c p.
        let r = in_buckets z d (is_remaining z d) c p in
        (r.1, copy-used z d c (complete-copy z d c (chosen_of z d c (and_left (is_chosen z d c) _ r.0)).is_complete))))

    pub few_writes_recovered : length (rebuilt z d next).state.writes ≤ z.w
    unfolding rebuilt kept_write kept_writes
    few_writes_recovered = rw (length_slots (blanks z d) (kept_writes z d)) (few z.w (is_only z d) (λ c p.
        let r = in_buckets z d (is_only z d) c p in
        (r.1, write-used z d c (only_of z d c r.0).is_write_lem)))

    -- ---- free buckets are blank

    pub free_recovered : (c : ℕ) → 1 ≤ times c (rebuilt z d next).state.free → Blank z d c
    unfolding rebuilt is_free
    free_recovered c h =
        let r = in_buckets z d (is_free z d) c h in
        first_blank z d c (F.buckets_fit c r.1) r.0
