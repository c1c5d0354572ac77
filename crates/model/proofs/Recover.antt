-- Recover: its stores, the state that it makes, and what it owes.
use Prim.Native.Nat.{ℕ, ◌+◌, ◌*◌, ◌≤◌, ◌<◌}
use mathlib.Core.Path.{◌≡◌, refl, sym, ap, ◌∙◌, subst}
use mathlib.Core.Logic.{◌⊎◌, inl, inr}
use mathlib.Core.Bool.{true, false, ◌||◌}
use mathlib.Core.List.{List, [], map}
use native.Mathlib.Omega.{arith}
use lib.ListN.{length, get_or}
use Rattle.lists.specs.Lists.{below, keep, times}
use Rattle.lists.proofs.Tests.{true_or_false, or_left, or_right, or_second}
use Rattle.lists.proofs.Orders.{kept_below, below_kept}
use Rattle.model.specs.declared.Sizes.{Sizes}
use Rattle.model.specs.Sizes.{Device, bucket_size, body}
use Rattle.model.specs.Stores.{Store, erase, apply_all, bucket_bytes}
use Rattle.model.specs.Image.{epoch_of, back_of, is_dirty}
use Rattle.model.specs.Recover.{flushed, recovered, unsaved, is_rescued, rescued, rescue_stores, rebuilt, swept, recover}
use Rattle.model.specs.State.{top_epoch}
use Rattle.model.specs.Calls.{recover_call, plan_of}
use Rattle.model.specs.Promise.{feed}
use Rattle.model.proofs.Safe.{holds_of, Sound, Along}
use Rattle.model.proofs.Invariant.{Pays}
use Rattle.model.proofs.Limits.{Limits, limits_of, on_chip}
use Rattle.model.proofs.Frames.{Lengths, length_bucket}
use Rattle.model.proofs.Formed.{Formed}
use Rattle.model.proofs.FormedKept.{chip-lengths, chip_formed}
use Rattle.model.proofs.Show.{Same, same_refl, epoch_of-same, is_dirty-same, holds_same}
use Rattle.model.proofs.Buckets.{holds_parts, holds_from}
use Rattle.model.proofs.Units.{plain_bytes, dirty_copy}
use Rattle.model.proofs.FindableRuns.{Each, Harmless, ledger_runs, along_cuts}
use Rattle.model.proofs.UnitRuns.{MayWrite, Ran, runs_harmless, units_run}
use Rattle.model.proofs.QueuesShown.{reads_kept, writes_kept}
use Rattle.model.proofs.Marks.{marked_none}
use Rattle.model.proofs.Prefix.{apply_all_append, cuts_append}
use Rattle.model.proofs.LedgerKept.{Ledger}
use Rattle.model.proofs.Findable.{Findable}
use Rattle.model.proofs.Inside.{Inside}
use Rattle.model.proofs.Steps.{Good}
use Rattle.model.proofs.Calling.{pays_good}
use Rattle.model.proofs.BucketKinds.{back_below, complete-copy, copy-used, write-used}
use Rattle.model.proofs.RecoverChoice.{Chosen, dropped_write, dropped_copy, flushed_by, unsaved_by, drop_saves, head-chosen}
use Rattle.model.proofs.RecoverBytes.{recovered-plain}
use Rattle.model.proofs.RecoverQueues.{once_recovered, reads_recovered, writes_recovered, unmarked_recovered, few_reads_recovered, few_writes_recovered, free_recovered}
use Rattle.model.proofs.RecoverErase.{Rescued, ready_recovered}
use Rattle.model.proofs.RecoverSwept.{swept_cuts, swept_sound, swept_ledger, swept_epochs}

module _ (z : Sizes) (B : Limits z) (d : Device) (plain : List ℕ) (sound : Sound z plain d) where
  L : Lengths z d
  L = chip-lengths z sound.chip

  F : Formed z d
  F = chip_formed z sound.chip

  s_pos : 1 ≤ z.s
  s_pos = omega (arith, B.s_low)

  -- ---- the back-end buckets whose units are written

  flushed-below : (b : ℕ) → flushed z d b ≡ true → b < z.b
  flushed-below b h =
      let w = flushed_by z d b h in
      rw (← w.3) (back_below z d F B.p_low w.0 w.1 (write-used z d w.0 (dropped_write z d w.0 w.2).0))

  rescues : List ℕ
  rescues = keep (is_rescued z d) (below z.b)

  in_rescues : (b : ℕ) → 1 ≤ times b rescues → (is_rescued z d b ≡ true) × (b < z.b)
  unfolding rescues
  in_rescues b h = kept_below (is_rescued z d) b z.b h

  from_rescues : (b : ℕ) → b < z.b → is_rescued z d b ≡ true → 1 ≤ times b rescues
  unfolding rescues
  from_rescues b hb e = omega (arith, below_kept (is_rescued z d) b z.b hb e)

  rescued-merged : (b : ℕ) → flushed z d b ≡ true → rescued z d b ≡ recovered z d b
  unfolding rescued
  rescued-merged b h = rw h

  -- the bytes of a dropped Dirty copy
  rescued_own : (c : ℕ) → c < body z → Chosen z d c → flushed z d (back_of z d c) ≡ false → rescued z d (back_of z d c) ≡ bucket_bytes z d c
  unfolding rescued
  rescued_own c hc h f = rw (f, (head-chosen z d F (back_of z d c) c hc h refl).1)

  -- no erase is pending
  none_pending : (x : ℕ) → 1 ≤ times x [] → x < z.c
  unfolding times
  none_pending x t = absurd (omega arith)

  may_merge : (b : ℕ) → flushed z d b ≡ true → b < z.b → MayWrite z B plain [] none_pending (rescued z d) d b
  may_merge b h hb =
      let r = recovered-plain z d B.p_low s_pos L F b hb plain sound.safe in
      record {
        place = hb;
        size = ap length (rescued-merged b h) ∙ r.0;
        allowed = λ e same. plain_bytes (λ i hi. ap (λ (l : List ℕ). get_or l i 0) (rescued-merged b h) ∙ r.1 i);
      }

  may_rescue : (c : ℕ) → c < body z → Chosen z d c → is_dirty z d c ≡ true → flushed z d (back_of z d c) ≡ false → MayWrite z B plain [] none_pending (rescued z d) d (back_of z d c)
  unfolding times
  may_rescue c hc h dirty f = record {
    place = back_below z d F B.p_low c hc (copy-used z d c (complete-copy z d c h.is_complete));
    size = ap length (rescued_own c hc h f) ∙ length_bucket z d L c (on_chip z c hc);
    allowed = λ e same. dirty_copy c (λ t. omega arith) (holds_same z B.p_low d e c (same c) (back_of z d c) ∙ holds_from z d c (back_of z d c) hc h.is_complete refl)
        (is_dirty-same z B.p_low d e c (same c) ∙ dirty) (λ x q. older e same x q);
  }
    where
      older : (e : Device) → ((x : ℕ) → Same z d e x) → (x : ℕ) → holds_of z e x (back_of z d c) ≡ true → epoch_of z e x ≤ epoch_of z e c
      older e same x q =
          let u = epoch_of-same z B.p_low d e x (same x) in
          let v = epoch_of-same z B.p_low d e c (same c) in
          let p = holds_parts z d x (back_of z d c) (sym (holds_same z B.p_low d e x (same x) (back_of z d c)) ∙ q) in
          rw (u, v) (h.is_newest x p.0 p.1 p.2)

  may_write : (b : ℕ) → 1 ≤ times b rescues → MayWrite z B plain [] none_pending (rescued z d) d b
  unfolding is_rescued
  may_write b t = let r = in_rescues b t in go (true_or_false (flushed z d b)) r.0 r.1
    where
      go : (flushed z d b ≡ true) ⊎ (flushed z d b ≡ false) → flushed z d b || unsaved z d b ≡ true → b < z.b → MayWrite z B plain [] none_pending (rescued z d) d b
      go (inl f) h hb = may_merge b f hb
      go (inr f) h hb =
          let u = unsaved_by z d b (or_right (flushed z d b) (unsaved z d b) h f) in
          subst (λ (x : ℕ). MayWrite z B plain [] none_pending (rescued z d) d x) u.4
          (may_rescue u.0 u.1 (dropped_copy z d u.0 u.2).0 u.3 (rw u.4 f))

  -- ---- its stores

  module _ (next : ℕ) where
    abbrev after : Device
    after = apply_all z d (rebuilt z d next).stores

    run : Along z (Sound z plain) d (rebuilt z d next).stores × Ran z B plain [] none_pending (rescued z d) rescues d after
    unfolding rebuilt rescue_stores rescues
    run = units_run z B plain [] none_pending (rescued z d) d rescues may_write d (same_refl z d) sound.chip sound.safe

    rescued-all : Rescued z d F plain after
    unfolding is_rescued
    rescued-all = record {
      lens = chip-lengths z run.1.chip;
      alike = run.1.still;
      safe = run.1.ready;
      merged_bytes = λ b h i.
          let hb = flushed-below b h in
          let t = from_rescues b hb (or_left (flushed z d b) (unsaved z d b) h) in
          ap (λ (l : List ℕ). get_or l i 0) (run.1.disk_is b t ∙ rescued-merged b h) ∙ (recovered-plain z d B.p_low s_pos L F b hb plain sound.safe).1 i;
      own_bytes = λ c hc drops dirty f i.
          let h = (dropped_copy z d c drops).0 in
          let hb = back_below z d F B.p_low c hc (copy-used z d c (complete-copy z d c h.is_complete)) in
          let t = from_rescues (back_of z d c) hb (or_second (flushed z d (back_of z d c)) (unsaved z d (back_of z d c)) (drop_saves z d c hc drops dirty)) in
          ap (λ (l : List ℕ). get_or l i 0) (run.1.disk_is (back_of z d c) t ∙ rescued_own c hc h f);
    }

    -- ---- its state

    harmless : Each (Harmless z d) (rebuilt z d next).stores
    unfolding rebuilt rescue_stores rescues
    harmless = runs_harmless z B plain [] none_pending (rescued z d) d rescues may_write d

    module _ (pl : length plain ≡ z.b * bucket_size z) (ledger : Ledger z d next) (above : (c : ℕ) → c < body z → epoch_of z d c < next) (low : 1 ≤ next) (high : next ≤ 4294967296) where
      inside_rebuilt : Inside z plain (rebuilt z d next).state after
      unfolding rebuilt
      inside_rebuilt = record {
        sizes_are = refl;
        plain-length = pl;
        chip = run.1.chip;
        ledger = ledger_runs z B.p_low (rebuilt z d next).stores d next L harmless ledger;
        ready = ready_recovered z d F B.p_low plain after rescued-all next;
        once = once_recovered z d next;
        reads = reads_kept z B.p_low d after (rebuilt z d next).state.reads (λ b c m. still c) (λ b c h q. still c) (reads_recovered z d F next);
        writes = writes_kept z B.p_low d after (rebuilt z d next).state.writes (λ b c m. still c) (λ b c i h. inl (still c)) (writes_recovered z d F next);
        marks = λ b h. absurd (marked_none (rebuilt z d next).state.writes (unmarked_recovered z d next) b h);
        few_reads = few_reads_recovered z d F next;
        few_writes = few_writes_recovered z d F next;
        free_blank = λ c t k hk. (still c).tags-same k hk ∙ free_recovered z d F next c t k hk;
        accepted_low = omega arith;
        next_above = λ c hc. rw (epoch_of-same z B.p_low d after c (still c)) (above c hc);
        next_low = low;
        next_high = high;
      }
        where
          still : (c : ℕ) → Same z d after c
          still c = run.1.still c

      rebuilt_good : Good z plain (rebuilt z d next) d
      rebuilt_good = (along_cuts z B.p_low plain (rebuilt z d next).stores d next high harmless ledger run.0, inside_rebuilt)

-- ---- after its erases

module _ (z : Sizes) (B : Limits z) (d : Device) (plain : List ℕ) (f : Findable z plain d) where
  recover_good : length plain ≡ z.b * bucket_size z → Good z plain (recover z d) d
  unfolding recover
  recover_good pl = (
    cuts_append z (Findable z plain) d erases stores (swept_cuts z B plain d f) good.0,
    subst (λ (e : Device). Inside z plain (recover z d).state e) (sym (apply_all_append z d erases stores)) good.1,
  )
    where
      erases : List Store
      erases = map erase (swept z d)

      left : Device
      left = apply_all z d erases

      next : ℕ
      next = top_epoch z d + 1

      stores : List Store
      stores = (rebuilt z left next).stores

      good : Good z plain (rebuilt z left next) left
      good = rebuilt_good z B left plain (swept_sound z B plain d f) next pl (swept_ledger z B plain d f next (omega arith))
          (λ c hc. omega (arith, swept_epochs z B plain d f c hc)) (omega arith) (omega (arith, f.low))

pub recover_pays : (z : Sizes) → Pays z (recover_call z)
unfolding plan_of feed
recover_pays z s d plain fits i r =
    let B = limits_of z fits in
    pays_good z B.p_low (recover_call z) s d plain refl (recover_good z B d plain i.found i.plain-length)
