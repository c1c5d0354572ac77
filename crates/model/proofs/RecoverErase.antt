-- The GC queue that recovery makes may be erased in its order.
use Prim.Native.Nat.{ℕ, ◌≤◌, ◌<◌}
use mathlib.Core.Path.{◌≡◌, refl, sym, ap, ◌∙◌, subst}
use mathlib.Core.Logic.{◌⊎◌, inl, inr, ◌≢◌}
use mathlib.Core.Bool.{Bool, true, false, true≢false}
use mathlib.Core.Option.{none, some}
use mathlib.Core.List.{List, ◌++◌}
use native.Mathlib.Omega.{arith}
use native.Mathlib.Decide.{dec_lt}
use lib.ListN.{get_or}
use Rattle.lists.specs.Lists.{times}
use Rattle.lists.proofs.Tests.{true_or_false}
use Rattle.lists.proofs.Counts.{times_append}
use Rattle.lists.proofs.Orders.{Pairwise, pairwise_cut}
use Rattle.model.specs.declared.Sizes.{Sizes}
use Rattle.model.specs.Sizes.{Device, body}
use Rattle.model.specs.Stores.{bucket_bytes, disk_bytes}
use Rattle.model.specs.Image.{epoch_of, back_of, is_write, is_dirty, complete}
use Rattle.model.specs.Recover.{is_chosen, flushed, is_dropped_copy, is_old_copy, rebuilt}
use Rattle.model.proofs.Limits.{on_chip}
use Rattle.model.proofs.Views.{Lay, SafeAt, copied, uncopied, Newest, lay_base}
use Rattle.model.proofs.Safe.{gives_of, holds_of, view, plain_at, Safe, Ready}
use Rattle.model.proofs.Frames.{Lengths}
use Rattle.model.proofs.Formed.{Formed}
use Rattle.model.proofs.Show.{Same, epoch_of-same, back_of-same, is_write-same, is_dirty-same, holds_same}
use Rattle.model.proofs.Buckets.{gives_write, holds_parts}
use Rattle.model.proofs.QueuesErased.{gone, Below}
use Rattle.model.proofs.Erases.{along_erases, without_gone}
use Rattle.model.proofs.Retire.{none_unless, Without, retire_others, retire_copies, retire_logs}
use Rattle.model.proofs.RecoverOrder.{Retired, spent, old, copy, log, retired, in_gc, retired-below, spent_no_write, spent_unchosen, phase_old, phase_chosen, phase_write, Precedes, ordered}
use Rattle.model.proofs.BucketKinds.{complete-copy, copy_no_write, write-used}
use Rattle.model.proofs.RecoverChoice.{newest-chosen, Chosen, chosen_of, chosen_test, chosen_one, old_copy, old_is, dropped_copy, dropped_write, drop_flushes, flush_drops, flush_drops_copy}

strict : (m n : ℕ) → m ≤ n → m ≢ n → m < n
strict m n h ne = omega arith

module _ (z : Sizes) (d : Device) (F : Formed z d) where
  -- what recovery's stores leave: the chip as it was, and the disk with the bytes that leave the chip
  pub record Rescued (plain : List ℕ) (e : Device) : Type 0 where
    pub lens : Lengths z e
    pub alike : (c : ℕ) → Same z d e c
    pub safe : Safe z plain e
    pub merged_bytes : (b : ℕ) → flushed z d b ≡ true → (i : ℕ) → get_or (disk_bytes z e b) i 0 ≡ plain_at z plain b i
    pub own_bytes : (c : ℕ) → c < body z → is_dropped_copy z d c ≡ true → is_dirty z d c ≡ true → flushed z d (back_of z d c) ≡ false
        → (i : ℕ) → get_or (disk_bytes z e (back_of z d c)) i 0 ≡ get_or (bucket_bytes z d c) i 0

  module _ (p_pos : 1 ≤ z.p) (plain : List ℕ) (e : Device) (kept : Rescued plain e) (n : ℕ) (done rest : List ℕ) (parts : (rebuilt z d n).state.gc ≡ done ++ rest) where
    in_done : (x : ℕ) → 1 ≤ times x done → Retired z d x
    in_done x h = retired z d n x (omega (arith, ap (times x) parts, times_append x done rest))

    below_done : Below z done
    below_done x h = on_chip z x (retired-below z d x (in_done x h))

    precedes : (x y : ℕ) → 1 ≤ times x done → 1 ≤ times y rest → Precedes z d x y
    precedes x y p q = pairwise_cut (Precedes z d) done rest (subst (λ (l : List ℕ). Pairwise (Precedes z d) l) parts (ordered z d n)) x y p q

    -- a bucket of the queue that is not gone comes later
    left_in : (y : ℕ) → Retired z d y → ¬ (1 ≤ times y done) → 1 ≤ times y rest
    left_in y r h = omega (arith, in_gc z d n y r, ap (times y) parts, times_append y done rest)

    without : Without (view z e) (view z (gone z e done)) (λ c. 1 ≤ times c done)
    without = without_gone z p_pos e kept.lens done below_done

    -- who gives to b and who is a copy of b
    giver : (x b i v : ℕ) → gives_of z e x b i ≡ some v → (x < body z) × (is_write z d x ≡ true) × (back_of z d x ≡ b)
    giver x b i v h =
        let g = gives_write z e x b i v h in
        (g.0, sym (is_write-same z p_pos d e x (kept.alike x)) ∙ g.1, sym (back_of-same z p_pos d e x (kept.alike x)) ∙ g.2)

    holder : (x b : ℕ) → holds_of z e x b ≡ true → (x < body z) × (complete z d x ≡ true) × (back_of z d x ≡ b)
    holder x b h = holds_parts z d x b (sym (holds_same z p_pos d e x (kept.alike x) b) ∙ h)

    the_copy : (b c : ℕ) → Newest (view z e) b c → Chosen z d c × (c < body z) × (back_of z d c ≡ b)
    the_copy b c n = newest-chosen z d p_pos e kept.alike b c n

    module _ (b : ℕ) where
      log_free : ((x : ℕ) → x < body z → is_write z d x ≡ true → back_of z d x ≡ b → 1 ≤ times x done → ⊥) → (x i : ℕ) → 1 ≤ times x done → gives_of z e x b i ≡ none
      log_free h x i t = none_unless (λ v q. let g = giver x b i v q in h x g.0 g.1 g.2 t)

      -- once b's copy is gone, all its copies are
      copies_gone : (c : ℕ) → Newest (view z e) b c → 1 ≤ times c done → (x : ℕ) → holds_of z e x b ≡ true → 1 ≤ times x done
      copies_gone c n t x h = go (dec_lt 0 (times x done)) (true_or_false (is_chosen z d x))
        where
          r : Chosen z d c × (c < body z) × (back_of z d c ≡ b)
          r = the_copy b c n

          q : (x < body z) × (complete z d x ≡ true) × (back_of z d x ≡ b)
          q = holder x b h

          go : Dec (0 < times x done) → (is_chosen z d x ≡ true) ⊎ (is_chosen z d x ≡ false) → 1 ≤ times x done
          go (yes u) v = u
          go (no u) (inl v) = rw (chosen_one z d F x c q.0 r.1 (chosen_of z d x v) r.0 (q.2 ∙ sym r.2)) t
          go (no u) (inr v) =
              let o : is_old_copy z d x ≡ true = old_copy z d x q.1 v in
              absurd (omega (arith, (precedes c x t (left_in x (old q.0 o) u)).0, phase_chosen z d c r.0, phase_old z d x o))

      stays : (c : ℕ) → Newest (view z e) b c → ¬ (1 ≤ times c done) → (x : ℕ) → Newest (view z e) b x → ¬ (1 ≤ times x done)
      stays c n h x m t =
          let r = the_copy b c n in
          let q = the_copy b x m in
          h (rw (← chosen_one z d F x c q.1 r.1 q.0 r.0 (q.2 ∙ sym r.2)) t)

      -- dropped Write buckets go after the copy
      logs_later : flushed z d b ≡ true → (c : ℕ) → Newest (view z e) b c → ¬ (1 ≤ times c done) → (x : ℕ) → x < body z → is_write z d x ≡ true → back_of z d x ≡ b → 1 ≤ times x done → ⊥
      logs_later f c n h x hx q k t =
          let r = the_copy b c n in
          let drops : is_dropped_copy z d c ≡ true = flush_drops_copy z d c (chosen_test z d c r.0) (rw r.2 f) in
          omega (arith, (precedes x c t (left_in c (copy r.1 drops) h)).0, phase_write z d x q, phase_chosen z d c r.0)

      -- b's merged units were written
      safe_flushed : flushed z d b ≡ true → SafeAt (view z e) b (plain_at z plain b) → SafeAt (view z (gone z e done)) b (plain_at z plain b)
      safe_flushed f s = go s
        where
          oldest : (c x i y y' : ℕ) → 1 ≤ times c done → ¬ (1 ≤ times x done) → gives_of z e c b i ≡ some y → gives_of z e x b i ≡ some y' → epoch_of z e c < epoch_of z e x
          oldest c x i y y' t h q q' =
              let g = giver c b i y q in
              let g' = giver x b i y' q' in
              let r = (precedes c x t (left_in x (log g'.0 (flush_drops z d b x f g'.1 g'.0 g'.2)) h)).1 (phase_write z d c g.1) in
              let a = epoch_of-same z p_pos d e c (kept.alike c) in
              let a' = epoch_of-same z p_pos d e x (kept.alike x) in
              rw (a, a') (strict (epoch_of z d c) (epoch_of z d x) r (λ k.
              h (rw (← F.epochs_differ c x g.0 g'.0 (write-used z d c g.1) (write-used z d x g'.1) k) t)))

          go : SafeAt (view z e) b (plain_at z plain b) → SafeAt (view z (gone z e done)) b (plain_at z plain b)
          go (uncopied n l) = retire_logs without b (plain_at z plain b)
              (λ c q. absurd (true≢false (sym q ∙ n c))) (kept.merged_bytes b f) oldest s
          go (copied c n l d') = pick (dec_lt 0 (times c done))
            where
              pick : Dec (0 < times c done) → SafeAt (view z (gone z e done)) b (plain_at z plain b)
              pick (yes t) = retire_logs without b (plain_at z plain b) (copies_gone c n t) (kept.merged_bytes b f) oldest s
              pick (no t) = retire_others without b (plain_at z plain b) (log_free (logs_later f c n t)) (stays c n t) s

      -- they were not: then no log of b goes
      safe_unflushed : flushed z d b ≡ false → SafeAt (view z e) b (plain_at z plain b) → SafeAt (view z (gone z e done)) b (plain_at z plain b)
      safe_unflushed f s = go s
        where
          no_log : (x : ℕ) → x < body z → is_write z d x ≡ true → back_of z d x ≡ b → 1 ≤ times x done → ⊥
          no_log x hx q k t = pick (in_done x t)
            where
              pick : Retired z d x → ⊥
              pick (spent h o) = true≢false (sym q ∙ spent_no_write z d x o)
              pick (old h o) = true≢false (sym q ∙ copy_no_write z d x (old_is z d x o).0)
              pick (copy h o) = true≢false (sym q ∙ copy_no_write z d x (complete-copy z d x (dropped_copy z d x o).0.is_complete))
              pick (log h o) = true≢false (sym (drop_flushes z d x h o) ∙ rw k f)

          go : SafeAt (view z e) b (plain_at z plain b) → SafeAt (view z (gone z e done)) b (plain_at z plain b)
          go (uncopied n l) = retire_others without b (plain_at z plain b) (log_free no_log) (λ c m. absurd (true≢false (sym m.0 ∙ n c))) s
          go (copied c n l clean) = pick (dec_lt 0 (times c done))
            where
              r : Chosen z d c × (c < body z) × (back_of z d c ≡ b)
              r = the_copy b c n

              drops : Retired z d c → is_dropped_copy z d c ≡ true
              drops (spent h o) = absurd (true≢false (sym (chosen_test z d c r.0) ∙ spent_unchosen z d c o))
              drops (old h o) = absurd (true≢false (sym (chosen_test z d c r.0) ∙ (old_is z d c o).1))
              drops (copy h o) = o
              drops (log h o) = absurd (true≢false (sym (dropped_write z d c o).0 ∙ copy_no_write z d c (complete-copy z d c r.0.is_complete)))

              own : 1 ≤ times c done → (t : Bool) → is_dirty z d c ≡ t → (i : ℕ) → Lay (view z e) b (λ j. get_or (disk_bytes z e b) j 0) i (plain_at z plain b i)
              own t false q i = clean (is_dirty-same z p_pos d e c (kept.alike c) ∙ q) i
              own t true q i = lay_base (l i) (inl (
                  rw r.2 at (kept.own_bytes c r.1 (drops (in_done c t)) q (rw r.2 f) i)
                  ∙ sym (ap (λ (m : List ℕ). get_or m i 0) (kept.alike c).bytes_same)))

              pick : Dec (0 < times c done) → SafeAt (view z (gone z e done)) b (plain_at z plain b)
              pick (no t) = retire_others without b (plain_at z plain b) (log_free no_log) (stays c n t) s
              pick (yes t) = retire_copies without b (plain_at z plain b) (log_free no_log) (copies_gone c n t) (own t (is_dirty z d c) refl)

    safe_done : Safe z plain (gone z e done)
    unfolding Safe
    safe_done b = go (true_or_false (flushed z d b))
      where
        go : (flushed z d b ≡ true) ⊎ (flushed z d b ≡ false) → SafeAt (view z (gone z e done)) b (plain_at z plain b)
        go (inl f) = safe_flushed b f (kept.safe b)
        go (inr f) = safe_unflushed b f (kept.safe b)

  pub ready_recovered : 1 ≤ z.p → (plain : List ℕ) (e : Device) → Rescued plain e → (n : ℕ) → Ready z plain (rebuilt z d n).state.gc e
  ready_recovered p_pos plain e kept n = along_erases z (Safe z plain) e (rebuilt z d n).state.gc (safe_done p_pos plain e kept n)
