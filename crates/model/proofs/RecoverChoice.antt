-- What recovery's choices say: the copy of each back-end bucket, its Write buckets, and which of them are kept.
use Prim.Native.Nat.{ℕ, ◌≤◌, ◌<◌}
use mathlib.Core.Path.{◌≡◌, refl, sym, ap, ◌∙◌}
use mathlib.Core.Bool.{Bool, true, false, not, ◌&&◌, ◌||◌, true≢false}
use mathlib.Core.List.{List, [], ◌∷◌}
use native.Mathlib.Omega.{arith}
use native.Mathlib.Decide.{dec_lt}
use lib.Dec.{ltb, eqb}
use borrow.Author.Tests.{ltb-true, ltb-false, lt-ltb, le-ltb, eqb-true, eq-eqb, not-true}
use Rattle.std.specs.Prelude.{if◌then◌else◌}
use Rattle.lists.specs.Lists.{below, all_below, head, empty, times}
use Rattle.lists.proofs.Tests.{and_left, and_right, and-true, or_right}
use Rattle.lists.proofs.Rows.{all-below, below_all}
use Rattle.lists.proofs.Counts.{member-times, times-member, times_cons, times_self}
use Rattle.lists.proofs.Orders.{times-keep, times_below, kept_in, any_in, in_any}
use Rattle.model.specs.declared.Sizes.{Sizes}
use Rattle.model.specs.Sizes.{Device, body}
use Rattle.model.specs.Image.{epoch_of, back_of, is_write, is_copy, is_dirty, complete}
use Rattle.model.specs.Recover.{buckets, is_newer, among_newest, newest, is_write_of, is_copy_of, gives_way, is_chosen, is_chosen_of, chosen, is_no_other, is_only, kept_writes, is_dropped_write, flushed, is_remaining, kept_copies, is_dropped_copy, is_old_copy, is_unsaved_of, unsaved}
use Rattle.model.proofs.Views.{Newest}
use Rattle.model.proofs.Safe.{view}
use Rattle.model.proofs.Formed.{Formed}
use Rattle.model.proofs.Show.{Same, epoch_of-same, holds_same}
use Rattle.model.proofs.BucketKinds.{complete-copy, copy-used}
use Rattle.model.proofs.Buckets.{holds_parts, holds_from}

module _ (z : Sizes) (d : Device) where
  -- ---- the cache buckets that pass a test

  pub times-buckets : (t : ℕ → Bool) (c : ℕ) → times c (buckets z d t) ≡ (if t c then (if ltb c (body z) then 1 else 0) else 0)
  unfolding buckets
  times-buckets t c = times-keep t c (below (body z)) ∙ rw (times_below c (body z))

  pub in_buckets : (t : ℕ → Bool) (c : ℕ) → 1 ≤ times c (buckets z d t) → (t c ≡ true) × (c < body z)
  in_buckets t c h = go (t c) refl (ltb c (body z)) refl (times-buckets t c)
    where
      go : (u : Bool) → t c ≡ u → (v : Bool) → ltb c (body z) ≡ v → times c (buckets z d t) ≡ (if u then (if v then 1 else 0) else 0) → (t c ≡ true) × (c < body z)
      go true e true f r = (e, ltb-true c (body z) f)
      go true e false f r = absurd (omega arith)
      go false e v f r = absurd (omega arith)

  pub from_buckets : (t : ℕ → Bool) (c : ℕ) → c < body z → t c ≡ true → times c (buckets z d t) ≡ 1
  from_buckets t c h e = times-buckets t c ∙ rw (e, lt-ltb c (body z) h)

  pub once_buckets : (t : ℕ → Bool) (c : ℕ) → times c (buckets z d t) ≤ 1
  once_buckets t c = go (t c) (ltb c (body z)) (times-buckets t c)
    where
      go : (u v : Bool) → times c (buckets z d t) ≡ (if u then (if v then 1 else 0) else 0) → times c (buckets z d t) ≤ 1
      go true true r = omega arith
      go true false r = omega arith
      go false v r = omega arith

  in_newest : (n : ℕ) (l : List ℕ) (c : ℕ) → 1 ≤ times c (newest z d n l) → 1 ≤ times c l
  unfolding newest
  in_newest n l c h = (kept_in (among_newest z d n l) c l h).1

  -- ---- the copy of a back-end bucket

  -- a complete copy that no other of its back-end bucket is newer than
  pub record Chosen (c : ℕ) : Type 0 where
    pub is_complete : complete z d c ≡ true
    pub is_newest : (e : ℕ) → e < body z → complete z d e ≡ true → back_of z d e ≡ back_of z d c → epoch_of z d e ≤ epoch_of z d c

  pub chosen_of : (c : ℕ) → is_chosen z d c ≡ true → Chosen c
  unfolding is_chosen gives_way is_copy_of is_newer
  chosen_of c h = record {
    is_complete = and_left (complete z d c) (all_below (body z) (gives_way z d c)) h;
    is_newest = λ e he q b. ltb-false _ _ (not-true _ (or_right _ _ (all-below (body z) (gives_way z d c) (and_right (complete z d c) (all_below (body z) (gives_way z d c)) h) e he)
        (ap not (and-true q (eq-eqb (back_of z d e) (back_of z d c) b)))));
  }

  pub chosen_test : (c : ℕ) → Chosen c → is_chosen z d c ≡ true
  unfolding is_chosen gives_way is_copy_of is_newer
  chosen_test c h = and-true h.is_complete (below_all (body z) (gives_way z d c) (λ e he. go e he (complete z d e) refl (eqb (back_of z d e) (back_of z d c)) refl))
    where
      go : (e : ℕ) → e < body z → (t : Bool) → complete z d e ≡ t → (u : Bool) → eqb (back_of z d e) (back_of z d c) ≡ u
          → not (t && u) || not (ltb (epoch_of z d c) (epoch_of z d e)) ≡ true
      go e he true q true r = ap not (le-ltb (epoch_of z d c) (epoch_of z d e) (h.is_newest e he q (eqb-true _ _ r)))
      go e he true q false r = refl
      go e he false q u r = refl

  -- the newest copy that another device shows, where its chip is the same
  pub newest-chosen : 1 ≤ z.p → (e : Device) → ((c : ℕ) → Same z d e c) → (b c : ℕ) → Newest (view z e) b c → Chosen c × (c < body z) × (back_of z d c ≡ b)
  newest-chosen p_pos e alike b c n = (record { is_complete = h.1; is_newest = newer }, h.0, h.2)
    where
      h : (c < body z) × (complete z d c ≡ true) × (back_of z d c ≡ b)
      h = holds_parts z d c b (sym (holds_same z p_pos d e c (alike c) b) ∙ n.0)

      newer : (x : ℕ) → x < body z → complete z d x ≡ true → back_of z d x ≡ back_of z d c → epoch_of z d x ≤ epoch_of z d c
      newer x hx q r =
          let a = epoch_of-same z p_pos d e x (alike x) in
          let a' = epoch_of-same z p_pos d e c (alike c) in
          rw (← a, ← a') (n.1 x (holds_same z p_pos d e x (alike x) b ∙ holds_from z d x b hx q (r ∙ h.2)))

  pub old_copy : (c : ℕ) → complete z d c ≡ true → is_chosen z d c ≡ false → is_old_copy z d c ≡ true
  unfolding is_old_copy
  old_copy c h e = and-true (complete-copy z d c h) (ap not e)

  pub old_is : (c : ℕ) → is_old_copy z d c ≡ true → (is_copy z d c ≡ true) × (is_chosen z d c ≡ false)
  unfolding is_old_copy
  old_is c h = (and_left (is_copy z d c) _ h, not-true _ (and_right (is_copy z d c) _ h))

  -- a back-end bucket has one copy at the most
  pub chosen_one : Formed z d → (c e : ℕ) → c < body z → e < body z → Chosen c → Chosen e → back_of z d c ≡ back_of z d e → c ≡ e
  chosen_one f c e hc he p q b =
      let u : epoch_of z d e ≤ epoch_of z d c = p.is_newest e he q.is_complete (sym b) in
      let v : epoch_of z d c ≤ epoch_of z d e = q.is_newest c hc p.is_complete b in
      f.epochs_differ c e hc he (copy-used z d c (complete-copy z d c p.is_complete)) (copy-used z d e (complete-copy z d e q.is_complete)) (omega arith)

  -- ---- Write buckets

  -- the only Write bucket of its back-end bucket
  pub record Only (w : ℕ) : Type 0 where
    pub is_write_lem : is_write z d w ≡ true
    pub no_other : (e : ℕ) → e < body z → is_write z d e ≡ true → back_of z d e ≡ back_of z d w → e ≡ w

  pub only_of : (w : ℕ) → is_only z d w ≡ true → Only w
  unfolding is_only is_no_other is_write_of
  only_of w h = record {
    is_write_lem = and_left (is_write z d w) (all_below (body z) (is_no_other z d w)) h;
    no_other = λ e he q b. eqb-true e w (or_right _ _ (all-below (body z) (is_no_other z d w) (and_right (is_write z d w) (all_below (body z) (is_no_other z d w)) h) e he)
        (ap not (and-true q (eq-eqb (back_of z d e) (back_of z d w) b))));
  }

  pub kept_write_lem : (w : ℕ) → 1 ≤ times w (kept_writes z d) → Only w × (w < body z)
  unfolding kept_writes
  kept_write_lem w h =
      let r = in_buckets (is_only z d) w (in_newest z.w (buckets z d (is_only z d)) w h) in
      (only_of w r.0, r.1)

  pub dropped_write : (w : ℕ) → is_dropped_write z d w ≡ true → (is_write z d w ≡ true) × (times w (kept_writes z d) ≡ 0)
  unfolding is_dropped_write
  dropped_write w h = (and_left (is_write z d w) _ h, member-times w (kept_writes z d) (and_right (is_write z d w) _ h))

  -- a back-end bucket whose merged units are written has a Write bucket that is dropped
  pub flushed_by : (b : ℕ) → flushed z d b ≡ true → (w : ℕ) × (w < body z) × (is_dropped_write z d w ≡ true) × (back_of z d w ≡ b)
  unfolding flushed is_write_of
  flushed_by b h =
      let a = any_in (is_write_of z d b) (buckets z d (is_dropped_write z d)) h in
      let r = in_buckets (is_dropped_write z d) a.0 a.1 in
      (a.0, r.1, r.0, eqb-true _ _ (and_right (is_write z d a.0) _ a.2))

  pub drop_flushes : (w : ℕ) → w < body z → is_dropped_write z d w ≡ true → flushed z d (back_of z d w) ≡ true
  unfolding flushed is_write_of
  drop_flushes w hw h =
      in_any (is_write_of z d (back_of z d w)) (buckets z d (is_dropped_write z d)) w (omega (arith, from_buckets (is_dropped_write z d) w hw h))
      (and-true (dropped_write w h).0 (eq-eqb (back_of z d w) (back_of z d w) refl))

  -- then all its Write buckets are dropped
  pub flush_drops : (b w : ℕ) → flushed z d b ≡ true → is_write z d w ≡ true → w < body z → back_of z d w ≡ b → is_dropped_write z d w ≡ true
  unfolding is_dropped_write
  flush_drops b w h q hw e = and-true q (times-member w (kept_writes z d) (go (dec_lt 0 (times w (kept_writes z d))) (flushed_by b h)))
    where
      go : Dec (0 < times w (kept_writes z d)) → (x : ℕ) × (x < body z) × (is_dropped_write z d x ≡ true) × (back_of z d x ≡ b) → times w (kept_writes z d) ≡ 0
      go (no u) x = omega arith
      go (yes u) x =
          let r = dropped_write x.0 x.2 in
          let same : x.0 ≡ w = (kept_write_lem w u).0.no_other x.0 x.1 r.0 (x.3 ∙ sym e) in
          absurd (omega (arith, r.1, ap (λ (y : ℕ). times y (kept_writes z d)) same))

  -- ---- copies

  pub kept_copy : (c : ℕ) → 1 ≤ times c (kept_copies z d) → Chosen c × (c < body z) × (flushed z d (back_of z d c) ≡ false)
  unfolding kept_copies is_remaining
  kept_copy c h =
      let r = in_buckets (is_remaining z d) c (in_newest z.r (buckets z d (is_remaining z d)) c h) in
      (chosen_of c (and_left (is_chosen z d c) _ r.0), r.1, not-true _ (and_right (is_chosen z d c) _ r.0))

  pub dropped_copy : (c : ℕ) → is_dropped_copy z d c ≡ true → Chosen c × (times c (kept_copies z d) ≡ 0)
  unfolding is_dropped_copy
  dropped_copy c h = (chosen_of c (and_left (is_chosen z d c) _ h), member-times c (kept_copies z d) (and_right (is_chosen z d c) _ h))

  -- the copy of a back-end bucket whose merged units are written is dropped
  pub flush_drops_copy : (c : ℕ) → is_chosen z d c ≡ true → flushed z d (back_of z d c) ≡ true → is_dropped_copy z d c ≡ true
  unfolding is_dropped_copy
  flush_drops_copy c q h = and-true q (times-member c (kept_copies z d) (go (dec_lt 0 (times c (kept_copies z d)))))
    where
      go : Dec (0 < times c (kept_copies z d)) → times c (kept_copies z d) ≡ 0
      go (no u) = omega arith
      go (yes u) = absurd (true≢false (sym h ∙ (kept_copy c u).2))

  -- a back-end bucket whose copy's own units are written
  pub unsaved_by : (b : ℕ) → unsaved z d b ≡ true → (c : ℕ) × (c < body z) × (is_dropped_copy z d c ≡ true) × (is_dirty z d c ≡ true) × (back_of z d c ≡ b)
  unfolding unsaved is_unsaved_of
  unsaved_by b h =
      let a = any_in (is_unsaved_of z d b) (buckets z d (is_dropped_copy z d)) h in
      let r = in_buckets (is_dropped_copy z d) a.0 a.1 in
      (a.0, r.1, r.0, and_left (is_dirty z d a.0) _ a.2, eqb-true _ _ (and_right (is_dirty z d a.0) _ a.2))

  pub drop_saves : (c : ℕ) → c < body z → is_dropped_copy z d c ≡ true → is_dirty z d c ≡ true → unsaved z d (back_of z d c) ≡ true
  unfolding unsaved is_unsaved_of
  drop_saves c hc h q =
      in_any (is_unsaved_of z d (back_of z d c)) (buckets z d (is_dropped_copy z d)) c (omega (arith, from_buckets (is_dropped_copy z d) c hc h))
      (and-true q (eq-eqb (back_of z d c) (back_of z d c) refl))

  -- ---- the list of a back-end bucket's copies

  pub chosen_in : (b c : ℕ) → 1 ≤ times c (chosen z d b) → Chosen c × (c < body z) × (back_of z d c ≡ b)
  unfolding chosen is_chosen_of
  chosen_in b c h =
      let r = in_buckets (is_chosen_of z d b) c h in
      (chosen_of c (and_left (is_chosen z d c) _ r.0), r.1, eqb-true _ _ (and_right (is_chosen z d c) _ r.0))

  pub in_chosen : (b c : ℕ) → c < body z → Chosen c → back_of z d c ≡ b → 1 ≤ times c (chosen z d b)
  unfolding chosen is_chosen_of
  in_chosen b c hc h e = omega (arith, from_buckets (is_chosen_of z d b) c hc (and-true (chosen_test c h) (eq-eqb (back_of z d c) b e)))

  -- its head is the copy
  times_nil : (c : ℕ) → times c [] ≡ 0
  unfolding times
  times_nil c = refl

  pub head-chosen : Formed z d → (b c : ℕ) → c < body z → Chosen c → back_of z d c ≡ b → (empty (chosen z d b) ≡ false) × (head (chosen z d b) ≡ c)
  unfolding empty head
  head-chosen f b c hc h e = go (chosen z d b) refl
    where
      go : (l : List ℕ) → chosen z d b ≡ l → (empty (chosen z d b) ≡ false) × (head (chosen z d b) ≡ c)
      go [] q = absurd (omega (arith, in_chosen b c hc h e, ap (times c) q, times_nil c))
      go (x ∷ l) q = (ap empty q ∙ refl, ap head q ∙ same x (chosen_in b x (omega (arith, times_cons x x l, times_self x, ap (times x) q))))
        where
          same : (x : ℕ) → Chosen x × (x < body z) × (back_of z d x ≡ b) → x ≡ c
          same x r = chosen_one f x c r.1 hc r.0 h (r.2 ∙ sym e)
