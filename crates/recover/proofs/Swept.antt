-- The chip that recovery's erases leave of one that number 4 lets pass.
use Prim.Native.Nat.{ℕ, ◌+◌, ◌≤◌, ◌<◌}
use mathlib.Core.Path.{◌≡◌, sym, ap, ◌∙◌}
use mathlib.Core.Logic.{◌⊎◌, inl, inr}
use mathlib.Core.Bool.{true, false, true≢false}
use mathlib.Core.List.{List, [], ◌∷◌}
use native.Mathlib.Omega.{arith}
use native.Mathlib.Decide.{dec_lt}
use Rattle.lists.specs.Lists.{below, keep, times}
use Rattle.lists.proofs.Tests.{true_or_false, every_at}
use Rattle.lists.proofs.Rows.{all-below}
use Rattle.lists.proofs.Distinct.{distinct_differ}
use Rattle.lists.proofs.Counts.{times_append, times_cons, times_other, times-only}
use Rattle.lists.proofs.Orders.{kept_below, below_kept}
use Rattle.model.specs.declared.Sizes.{Sizes}
use Rattle.model.specs.Sizes.{Device, body}
use Rattle.model.specs.Spare.{epoch}
use Rattle.model.specs.Image.{bucket_fits, body_fits, used, epoch_of}
use Rattle.model.specs.Ledger.{named, found_fits, occupied, first_epoch, recoverable}
use Rattle.model.specs.Recover.{swept}
use Rattle.model.proofs.Limits.{Limits, on_chip}
use Rattle.model.proofs.Frames.{Lengths}
use Rattle.model.proofs.Heads.{Blank, head-programmed}
use Rattle.model.proofs.Show.{Same, used-same, epoch_of-same, fits-same}
use Rattle.model.proofs.Buckets.{blank_unused}
use Rattle.model.proofs.Formed.{formed_test, epoch-used}
use Rattle.model.proofs.FormedKept.{blank-fits}
use Rattle.model.proofs.QueuesErased.{gone, gone_same, gone_blank}
use Rattle.holes.proofs.First.{used_first}

module _ (z : Sizes) (B : Limits z) (d : Device) where
  -- ---- the buckets that are erased

  abbrev names : List ℕ
  names = keep (named z d) (below (body z))

  in_swept : (c : ℕ) → times c (swept z d) ≡ times c names + (times c (body z ∷ []) + times c ((body z + 1) ∷ []))
  unfolding swept
  in_swept c = times_append c names (body z ∷ (body z + 1) ∷ []) ∙ ap (λ (n : ℕ). times c names + n) (times_cons c (body z) ((body z + 1) ∷ []))

  swept-below : (c : ℕ) → 1 ≤ times c (swept z d) → c < z.c
  swept-below c h = go (dec_lt 0 (times c names)) (dec_lt 0 (times c (body z ∷ [])))
    where
      go : Dec (0 < times c names) → Dec (0 < times c (body z ∷ [])) → c < z.c
      go (yes t) u = on_chip z c (kept_below (named z d) c (body z) t).1
      go (no t) (yes u) = omega (arith, times-only c (body z) u, B.ledger_in)
      go (no t) (no u) = omega (arith, times-only c (body z + 1) (omega (arith, in_swept c)), B.ledger_in)

  named-swept : (c : ℕ) → c < body z → named z d c ≡ true → 1 ≤ times c (swept z d)
  named-swept c hc n = omega (arith, in_swept c, below_kept (named z d) c (body z) hc n)

  other_swept : (c : ℕ) → c < body z → named z d c ≡ false → times c (swept z d) ≡ 0
  other_swept c hc n = go (dec_lt 0 (times c names))
    where
      go : Dec (0 < times c names) → times c (swept z d) ≡ 0
      go (yes t) = absurd (true≢false (sym (kept_below (named z d) c (body z) t).0 ∙ n))
      go (no t) = omega (arith, in_swept c, times_other c (body z) (λ e. omega arith), times_other c (body z + 1) (λ e. omega arith))

  -- ---- a used bucket's head is its first programmed page

  used-occupied : (c : ℕ) → used z d c ≡ true → occupied z d c ≡ true
  unfolding occupied
  used-occupied c u = rw (used_first z d c B.p_low u) (head-programmed z d c u)

  used-epoch : (c : ℕ) → used z d c ≡ true → first_epoch z d c ≡ epoch_of z d c
  unfolding first_epoch
  used-epoch c u = ap epoch (used_first z d c B.p_low u) ∙ sym (epoch-used z d c u)

  -- ---- what is left

  module _ (L : Lengths z d) (h : recoverable z d ≡ true) where
    abbrev left : Device
    left = gone z d (swept z d)

    fits-found : (c : ℕ) → c < body z → named z d c ≡ false → bucket_fits z d c ≡ true
    unfolding recoverable found_fits
    fits-found c hc n = rw n at (all-below (body z) (found_fits z d) (every_at _ h 0) c hc)

    found_differ : (a b : ℕ) → a < body z → b < body z → used z d a ≡ true → used z d b ≡ true → epoch_of z d a ≡ epoch_of z d b → a ≡ b
    unfolding recoverable
    found_differ a b ha hb ua ub e = distinct_differ (occupied z d) (first_epoch z d) (body z) (every_at _ h 1) a b ha hb
        (used-occupied a ua) (used-occupied b ub) (used-epoch a ua ∙ e ∙ sym (used-epoch b ub))

    goes : (c : ℕ) → c < body z → named z d c ≡ true → Blank z left c
    goes c hc n = gone_blank z (swept z d) swept-below d L c (named-swept c hc n)

    stays : (c : ℕ) → c < body z → named z d c ≡ false → Same z d left c
    stays c hc n = gone_same z (swept z d) swept-below d L c (other_swept c hc n)

    used_stays : (c : ℕ) → c < body z → used z left c ≡ true → Same z d left c
    used_stays c hc u = go (true_or_false (named z d c))
      where
        go : (named z d c ≡ true) ⊎ (named z d c ≡ false) → Same z d left c
        go (inl n) = absurd (true≢false (sym u ∙ blank_unused z left c B.p_low (goes c hc n)))
        go (inr n) = stays c hc n

    fits_left : (c : ℕ) → c < body z → bucket_fits z left c ≡ true
    fits_left c hc = go (true_or_false (named z d c))
      where
        go : (named z d c ≡ true) ⊎ (named z d c ≡ false) → bucket_fits z left c ≡ true
        go (inl n) = blank-fits z B.p_low left c (goes c hc n)
        go (inr n) = fits-same z B.p_low d left c (stays c hc n) ∙ fits-found c hc n

    pub swept-fits : body_fits z left ≡ true
    swept-fits = formed_test z left (record {
      buckets_fit = fits_left;
      epochs_differ = λ a b ha hb ua ub e.
          let sa = used_stays a ha ua in
          let sb = used_stays b hb ub in
          let was = epoch_of-same z B.p_low d left a sa in
          let now = epoch_of-same z B.p_low d left b sb in
          found_differ a b ha hb (sym (used-same z B.p_low d left a sa) ∙ ua) (sym (used-same z B.p_low d left b sb) ∙ ub) (sym was ∙ e ∙ now);
    })
