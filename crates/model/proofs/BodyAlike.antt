-- Chips that look alike outside the ledger: each bucket there is the same in both, or has no programmed page in either.
use Prim.Native.Nat.{ℕ, ◌≤◌, ◌<◌}
use mathlib.Core.Path.{◌≡◌, sym, ap, ◌∙◌}
use mathlib.Core.Logic.{◌⊎◌, inl, inr, ◌≢◌}
use mathlib.Core.Bool.{true, false, true≢false}
use mathlib.Core.List.{List, [], ◌∷◌, map}
use native.Mathlib.Omega.{arith}
use native.Mathlib.Decide.{ℕ_discrete, dec_lt}
use lib.ListN.{get_or}
use borrow.Author.Tests.{le-ltb}
use Rattle.model.specs.declared.Sizes.{Sizes}
use Rattle.model.specs.Sizes.{Device, body}
use Rattle.model.specs.Stores.{erase, apply, disk_bytes}
use Rattle.model.specs.Image.{bucket_fits, used, epoch_of}
use Rattle.model.proofs.Views.{Quiet, silent, Kept, apart, safe_still}
use Rattle.model.proofs.Safe.{holds_of, view, plain_at, Safe, Chip, Sound, Along}
use Rattle.model.proofs.Frames.{Lengths, lengths_kept, tag_erased, disk_erased}
use Rattle.model.proofs.Heads.{Blank, Vacant}
use Rattle.model.proofs.Show.{Same, same-sym, same_trans, same_erase, used-same, epoch_of-same, fits-same, quiet_same, kept_same}
use Rattle.model.proofs.Buckets.{gives_beyond, unused_epoch, unused_gives, unused_holds, blank_unused}
use Rattle.model.proofs.QueuesErased.{Below, below-head, below_tail}
use Rattle.model.proofs.FormedKept.{chip_formed, chip-epoch, chip_of, blank-fits}

module _ (z : Sizes) where
  -- ---- a bucket without a programmed page

  module _ (p_pos : 1 ≤ z.p) where
    pub vacant_same : (d e : Device) (c : ℕ) → Same z d e c → Vacant z d c → Vacant z e c
    vacant_same d e c s v = (fits-same z p_pos d e c s ∙ v.0, used-same z p_pos d e c s ∙ v.1)

    pub blank_vacant : (d : Device) (c : ℕ) → Blank z d c → Vacant z d c
    blank_vacant d c b = (blank-fits z p_pos d c b, blank_unused z d c p_pos b)

  -- ---- chips that look alike

  abbrev pub Alike : Device → Device → ℕ → Type 0
  Alike d e c = Same z d e c ⊎ (Vacant z d c × Vacant z e c)

  -- no copy beyond the body
  holds_beyond : (d : Device) (c : ℕ) → body z ≤ c → (b : ℕ) → holds_of z d c b ≡ false
  unfolding holds_of
  holds_beyond d c h b = rw (le-ltb c (body z) h)

  module _ (p_pos : 1 ≤ z.p) (d e : Device) (alike : (c : ℕ) → c < body z → Alike d e c) where
    -- what is confirmed is as safe
    module _ (b : ℕ) where
      quiet : (c i : ℕ) → Quiet (view z d) (view z e) b i c
      quiet c i = go (dec_lt c (body z))
        where
          at : Alike d e c → Quiet (view z d) (view z e) b i c
          at (inl s) = quiet_same z p_pos d e c s b i
          at (inr r) = silent (unused_gives z d c r.0.1 b i) (unused_gives z e c r.1.1 b i)

          go : Dec (c < body z) → Quiet (view z d) (view z e) b i c
          go (yes h) = at (alike c h)
          go (no h) = silent (gives_beyond z d c (omega arith) b i) (gives_beyond z e c (omega arith) b i)

      held : (c : ℕ) → Kept (view z d) (view z e) b c
      held c = go (dec_lt c (body z))
        where
          at : Alike d e c → Kept (view z d) (view z e) b c
          at (inl s) = kept_same z p_pos d e c s b
          at (inr r) = apart (unused_holds z d c r.0.1 b) (unused_holds z e c r.1.1 b)

          go : Dec (c < body z) → Kept (view z d) (view z e) b c
          go (yes h) = at (alike c h)
          go (no h) = apart (holds_beyond d c (omega arith) b) (holds_beyond e c (omega arith) b)

    safe_alike : (plain : List ℕ) → ((b : ℕ) → disk_bytes z e b ≡ disk_bytes z d b) → Safe z plain d → Safe z plain e
    unfolding Safe
    safe_alike plain disk s b = safe_still (view z d) (view z e) b (plain_at z plain b) (quiet b) (held b) (λ i. inl (ap (λ (l : List ℕ). get_or l i 0) (disk b))) (s b)

    -- a bucket with a page is the same
    used_alike : (c : ℕ) → c < body z → used z e c ≡ true → Same z d e c
    used_alike c hc u = go (alike c hc)
      where
        go : Alike d e c → Same z d e c
        go (inl s) = s
        go (inr r) = absurd (true≢false (sym u ∙ r.1.1))

    pub chip_alike : Lengths z e → Chip z d → Chip z e
    chip_alike L h = chip_of z e L (record { buckets_fit = λ c hc. fit c hc (alike c hc); epochs_differ = differ }) (λ c hc. low c hc (alike c hc))
      where
        fit : (c : ℕ) → c < body z → Alike d e c → bucket_fits z e c ≡ true
        fit c hc (inl s) = fits-same z p_pos d e c s ∙ (chip_formed z h).buckets_fit c hc
        fit c hc (inr r) = r.1.0

        differ : (a b : ℕ) → a < body z → b < body z → used z e a ≡ true → used z e b ≡ true → epoch_of z e a ≡ epoch_of z e b → a ≡ b
        differ a b ha hb ua ub q =
            let s = used_alike a ha ua in
            let t = used_alike b hb ub in
            (chip_formed z h).epochs_differ a b ha hb (sym (used-same z p_pos d e a s) ∙ ua) (sym (used-same z p_pos d e b t) ∙ ub)
            (sym (epoch_of-same z p_pos d e a s) ∙ (q ∙ epoch_of-same z p_pos d e b t))

        low : (c : ℕ) → c < body z → Alike d e c → epoch_of z e c < 4294967296
        low c hc (inl s) = rw (epoch_of-same z p_pos d e c s) (chip-epoch z h c hc)
        low c hc (inr r) = rw (unused_epoch z e c r.1.1) (omega arith)

    pub sound_alike : (plain : List ℕ) → Lengths z e → ((b : ℕ) → disk_bytes z e b ≡ disk_bytes z d b) → Sound z plain d → Sound z plain e
    sound_alike plain L disk s = record { chip = chip_alike L s.chip; safe = safe_alike plain disk s.safe }

  -- an erase of the same bucket on both
  alike_erase : 1 ≤ z.p → (d e : Device) → Lengths z d → Lengths z e → (g : ℕ) → g < z.c → (c : ℕ) → Alike d e c → Alike (apply z d (erase g)) (apply z e (erase g)) c
  alike_erase p_pos d e L M g hg c r = go (ℕ_discrete c g) r
    where
      erased : (f : Device) → Lengths z f → c ≡ g → Vacant z (apply z f (erase g)) c
      erased f N q = blank_vacant p_pos (apply z f (erase g)) c (λ k hk. rw q (tag_erased z f N g hg k hk))

      still : (f : Device) → Lengths z f → c ≢ g → Vacant z f c → Vacant z (apply z f (erase g)) c
      still f N ne v = vacant_same p_pos f (apply z f (erase g)) c (same_erase z f N g hg c ne) v

      go : Dec (c ≡ g) → Alike d e c → Alike (apply z d (erase g)) (apply z e (erase g)) c
      go (yes q) r = inr (erased d L q, erased e M q)
      go (no ne) (inl s) = inl (same_trans z (same-sym z (same_erase z d L g hg c ne)) (same_trans z s (same_erase z e M g hg c ne)))
      go (no ne) (inr r) = inr (still d L ne r.0, still e M ne r.1)

  -- what may be erased in one may be erased in the other
  pub ready_alike : (p_pos : 1 ≤ z.p) (plain : List ℕ) (gs : List ℕ) → Below z gs → (d e : Device) → Lengths z d → Lengths z e → ((c : ℕ) → c < body z → Alike d e c)
      → ((b : ℕ) → disk_bytes z e b ≡ disk_bytes z d b) → Along z (Safe z plain) d (map erase gs) → Along z (Safe z plain) e (map erase gs)
  ready_alike p_pos plain [] h d e L M alike disk a = safe_alike p_pos d e alike plain disk a
  ready_alike p_pos plain (g ∷ gs) h d e L M alike disk a =
      let hg = below-head z g gs h in (
        safe_alike p_pos d e alike plain disk a.0,
        ready_alike p_pos plain gs (below_tail z g gs h) (apply z d (erase g)) (apply z e (erase g)) (lengths_kept z d L (erase g) hg) (lengths_kept z e M (erase g) hg)
            (λ c hc. alike_erase p_pos d e L M g hg c (alike c hc))
            (λ b. disk_erased z e M g hg b ∙ (disk b ∙ sym (disk_erased z d L g hg b))) a.1,
      )
