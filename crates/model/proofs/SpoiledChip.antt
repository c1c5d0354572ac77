-- A spoiled page where a bucket's first blank page was: the chip still fits, and it shows all that it showed.
use Prim.Native.Nat.{ℕ, zero, suc, ◌+◌, ◌-◌, ◌*◌, ◌≤◌, ◌<◌}
use mathlib.Core.Path.{◌≡◌, refl, sym, ap, ◌∙◌}
use mathlib.Core.Logic.{◌⊎◌, inl, inr}
use mathlib.Core.Bool.{true, false, true≢false}
use mathlib.Core.List.{List}
use native.Mathlib.Omega.{arith}
use native.Mathlib.Nat.{mul-le-mul_right}
use native.Mathlib.Decide.{ℕ_discrete}
use lib.ListN.{get_or}
use Rattle.lists.proofs.Tests.{true_or_false}
use Rattle.lists.proofs.Parts.{part_other}
use Rattle.model.specs.declared.Sizes.{Sizes}
use Rattle.model.specs.Sizes.{Device, body}
use Rattle.model.specs.Stores.{program, apply, tag_of, bucket_bytes}
use Rattle.model.specs.Spare.{blank, spoiled, programmed, pages, extent}
use Rattle.model.specs.Image.{head_tag, bucket_fits, used, epoch_of, ends_log, log_bytes}
use Rattle.model.proofs.Views.{Quiet, same, silent, Kept, apart, safe_still}
use Rattle.model.proofs.Safe.{covers, found, gives_of, view, plain_at, Safe, Chip, Sound}
use Rattle.model.proofs.Limits.{Limits}
use Rattle.model.proofs.Tags.{blank_unprogrammed, spoiled_unprogrammed, spoiled_real}
use Rattle.model.proofs.Frames.{Lengths, Fits, tag-programmed, tag_other_page, tag_other_bucket, bytes_programmed, disk_programmed, page_in_bucket}
use Rattle.model.proofs.Heads.{head_page}
use Rattle.model.proofs.Rules.{unruled_test}
use Rattle.model.proofs.Show.{used_by, epoch_by, back_by, write_by, quiet_same, kept_same, same_program}
use Rattle.model.proofs.Buckets.{holds-none, incomplete, unused_gives, unused_epoch}
use Rattle.model.proofs.Formed.{unused_none, ends_programmed, log_inside}
use Rattle.model.proofs.FormedKept.{chip-lengths, chip_formed, page_before, head_stays, fits_after, settle}

-- what a page says is the same before and after, since its spare bytes are, or since it is programmed neither before nor after
pub data Unread (before after : List ℕ) : Type 0 where
  stays : after ≡ before → Unread before after
  neither : programmed before ≡ false → programmed after ≡ false → Unread before after

pub unread_sym : {before after : List ℕ} → Unread before after → Unread after before
unread_sym (stays q) = stays (sym q)
unread_sym (neither p q) = neither q p

-- a programmed page is as it was
pub unread_programmed : {before after : List ℕ} → Unread before after → programmed after ≡ true → after ≡ before
unread_programmed (stays q) p = q
unread_programmed (neither r q) p = absurd (true≢false (sym p ∙ q))

module _ (z : Sizes) (bounds : Limits z) (c k : ℕ) (bytes tag : List ℕ) (f : Fits z (program c k bytes tag)) (bad : spoiled tag ≡ true) (d : Device)
    (free : blank (tag_of z d c k) ≡ true) where
  abbrev after : Device
  after = apply z d (program c k bytes tag)

  module _ (lens : Lengths z d) where
    -- ---- its pages

    here : programmed (tag_of z after c k) ≡ false
    here = ap programmed (tag-programmed z d lens c k bytes tag f) ∙ spoiled_unprogrammed tag bad

    pub unread : (c' j : ℕ) → j < z.p → Unread (tag_of z d c' j) (tag_of z (apply z d (program c k bytes tag)) c' j)
    unread c' j hj = go (ℕ_discrete c' c) (ℕ_discrete j k)
      where
        go : Dec (c' ≡ c) → Dec (j ≡ k) → Unread (tag_of z d c' j) (tag_of z after c' j)
        go (no ne) q = stays (tag_other_bucket z d lens c k bytes tag f c' j ne hj)
        go (yes p) (no ne) = rw p (stays (tag_other_page z d lens c k bytes tag f j ne))
        go (yes p) (yes q) = rw (p, q) (neither (blank_unprogrammed (tag_of z d c k) free) here)

    -- ---- its bucket

    module _ (fit : bucket_fits z d c ≡ true) where
      unused_stays : used z d c ≡ false → used z after c ≡ false
      unfolding used
      unused_stays u = let h = head_page z bounds.p_low after c in ap programmed h.is ∙ none h.page h.inside
        where
          none : (j : ℕ) → j < z.p → programmed (tag_of z after c j) ≡ false
          none j hj = go (unread c j hj)
            where
              go : Unread (tag_of z d c j) (tag_of z after c j) → programmed (tag_of z after c j) ≡ false
              go (stays q) = ap programmed q ∙ unused_none z d c fit u j hj
              go (neither p q) = q

      heads : used z d c ≡ true → head_tag z after c ≡ head_tag z d c
      heads = head_stays z bounds.p_low d lens c k bytes tag f fit free

      pub used-spoiled : used z (apply z d (program c k bytes tag)) c ≡ used z d c
      used-spoiled = go (true_or_false (used z d c))
        where
          go : (used z d c ≡ true) ⊎ (used z d c ≡ false) → used z after c ≡ used z d c
          go (inl u) = used_by z d after c (heads u)
          go (inr u) = unused_stays u ∙ sym u

      epoch-spoiled : epoch_of z after c ≡ epoch_of z d c
      epoch-spoiled = go (true_or_false (used z d c))
        where
          go : (used z d c ≡ true) ⊎ (used z d c ≡ false) → epoch_of z after c ≡ epoch_of z d c
          go (inl u) = epoch_by z d after c (heads u)
          go (inr u) = unused_epoch z after c (unused_stays u) ∙ sym (unused_epoch z d c u)

      pub fits-spoiled : ((j : ℕ) → j < k → blank (tag_of z d c j) ≡ false) → bucket_fits z (apply z d (program c k bytes tag)) c ≡ true
      fits-spoiled behind = fits_after z bounds.p_low d lens c k bytes tag f fit free (unruled_test z after c k here) (spoiled_real tag bad) behind

      -- ---- its logs

      ends_spoiled : (j : ℕ) → j < z.p → ends_log z after c j ≡ ends_log z d c j
      unfolding ends_log
      ends_spoiled j hj = go (unread c j hj)
        where
          go : Unread (tag_of z d c j) (tag_of z after c j) → ends_log z after c j ≡ ends_log z d c j
          go (stays q) = rw q
          go (neither p q) = rw (p, q)

      module _ (j : ℕ) (hj : j < z.p) (ends : ends_log z d c j ≡ true) where
        before : j < k
        before = page_before z bounds.p_low d lens c k bytes tag f fit free j hj (ends_programmed z d c fit j ends)

        tag_stays : tag_of z after c j ≡ tag_of z d c j
        tag_stays = tag_other_page z d lens c k bytes tag f j (λ q. omega (arith, before))

        log_stays : log_bytes z after c j ≡ log_bytes z d c j
        unfolding log_bytes
        log_stays = rw (tag_stays, bytes_programmed z d lens c k bytes tag f)
            (part_other (bucket_bytes z d c) (k * z.s) bytes ((j + 1 - pages (tag_of z d c j)) * z.s) (extent (tag_of z d c j))
            (page_in_bucket z d lens c k bytes f.0 f.1 f.2)
            (inl (omega (arith, log_inside z d c fit (omega (arith, bounds.s_low)) j hj ends, mul-le-mul_right z.s before))))

      found-spoiled : (n i : ℕ) → n ≤ z.p → found z after c n i ≡ found z d c n i
      unfolding found covers
      found-spoiled zero i h = refl
      found-spoiled (suc n) i h = go (true_or_false (ends_log z d c n)) (found-spoiled n i (omega arith))
        where
          go : (ends_log z d c n ≡ true) ⊎ (ends_log z d c n ≡ false) → found z after c n i ≡ found z d c n i → found z after c (suc n) i ≡ found z d c (suc n) i
          go (inl t) more = rw (ends_spoiled n h, log_stays n h t, tag_stays n h t, more)
          go (inr t) more = rw (ends_spoiled n h, t, more)

      -- ---- what it shows

      gives_spoiled : used z d c ≡ true → (b i : ℕ) → gives_of z after c b i ≡ gives_of z d c b i
      unfolding gives_of
      gives_spoiled u b i = let h = heads u in rw (write_by z d after c h, back_by z d after c h, found-spoiled z.p i (omega arith))

      quiet_spoiled : (b i : ℕ) → Quiet (view z d) (view z after) b i c
      quiet_spoiled b i = go (true_or_false (used z d c))
        where
          go : (used z d c ≡ true) ⊎ (used z d c ≡ false) → Quiet (view z d) (view z after) b i c
          go (inl u) = same (gives_spoiled u b i) epoch-spoiled
          go (inr u) = silent (unused_gives z d c u b i) (unused_gives z after c (unused_stays u) b i)

      kept_spoiled : (b : ℕ) → Kept (view z d) (view z after) b c
      kept_spoiled b = apart (holds-none z d c (incomplete z d c k f.1 (blank_unprogrammed (tag_of z d c k) free)) b) (holds-none z after c (incomplete z after c k f.1 here) b)

      safe_spoiled : (plain : List ℕ) → Safe z plain d → Safe z plain after
      unfolding Safe
      safe_spoiled plain s b = safe_still (view z d) (view z after) b (plain_at z plain b) (λ c' i. quiet c' i (ℕ_discrete c' c)) (λ c'. kept c' (ℕ_discrete c' c))
          (λ i. inl (ap (λ (l : List ℕ). get_or l i 0) (disk_programmed z d lens c k bytes tag f b))) (s b)
        where
          quiet : (c' i : ℕ) → Dec (c' ≡ c) → Quiet (view z d) (view z after) b i c'
          quiet c' i (yes q) = rw q (quiet_spoiled b i)
          quiet c' i (no ne) = quiet_same z bounds.p_low d after c' (same_program z d lens c k bytes tag f c' ne) b i

          kept : (c' : ℕ) → Dec (c' ≡ c) → Kept (view z d) (view z after) b c'
          kept c' (yes q) = rw q (kept_spoiled b)
          kept c' (no ne) = kept_same z bounds.p_low d after c' (same_program z d lens c k bytes tag f c' ne) b

  -- ---- the chip

  module _ (hc : c < body z) (behind : (j : ℕ) → j < k → blank (tag_of z d c j) ≡ false) where
    chip-spoiled : Chip z d → Chip z after
    chip-spoiled h = settle z bounds.p_low d c k bytes tag f hc h free (unruled_test z after c k (here lens)) (spoiled_real tag bad) behind
        (λ u c' hc' ne u' q. ne ((chip_formed z h).epochs_differ c' c hc' hc u' (sym (used-spoiled lens fit) ∙ u) (q ∙ epoch-spoiled lens fit)))
        (rw (epoch-spoiled lens fit) (h.epochs c hc))
      where
        lens : Lengths z d
        lens = chip-lengths z h

        fit : bucket_fits z d c ≡ true
        fit = (chip_formed z h).buckets_fit c hc

    pub sound_spoiled : (plain : List ℕ) → Sound z plain d → Sound z plain (apply z d (program c k bytes tag))
    sound_spoiled plain s = record {
      chip = chip-spoiled s.chip;
      safe = safe_spoiled (chip-lengths z s.chip) ((chip_formed z s.chip).buckets_fit c hc) plain s.safe;
    }
