-- A ledger of blank pages, as format and recovery leave it.
use Prim.Native.Nat.{ℕ, zero, suc, ◌+◌, ◌*◌, ◌≤◌, ◌<◌}
use mathlib.Core.Path.{◌≡◌, refl, ap, ◌∙◌}
use mathlib.Core.Logic.{◌⊎◌, inl, inr}
use mathlib.Core.Bool.{true, not}
use Rattle.lists.specs.Lists.{ff}
use Rattle.lists.proofs.Tests.{or_left, or_second}
use Rattle.lists.proofs.Rows.{below_all}
use Rattle.model.specs.declared.Sizes.{Sizes}
use Rattle.model.specs.Sizes.{Device, body}
use Rattle.model.specs.Stores.{tag_of}
use Rattle.model.specs.Spare.{blank}
use Rattle.model.specs.Image.{is_packed, packed}
use Rattle.model.specs.Ledger.{ledger_tag, entry_fits, one_in_use}
use Rattle.model.specs.State.{entry_epoch}
use Rattle.model.proofs.Tags.{blank-ff, programmed-ff}
use Rattle.model.proofs.Heads.{Blank}
use Rattle.model.proofs.LedgerKept.{Apart, Ledger}
use Rattle.model.proofs.LedgerErase.{entry_real, Slot, slot_of, slot_tag}

module _ (z : Sizes) (p_pos : 1 ≤ z.p) (d : Device) (lower : Blank z d (body z)) (upper : Blank z d (body z + 1)) where
  page_blank_lem : (i : ℕ) → i < 2 * z.p → ledger_tag z d i ≡ ff 16
  page_blank_lem i hi = let s = slot_of z i hi in slot_tag z s.2 d ∙ go s.0 s.1 s.2 s.2.bucket
    where
      go : (l k : ℕ) → Slot z l k i → (l ≡ body z) ⊎ (l ≡ body z + 1) → tag_of z d l k ≡ ff 16
      go l k s (inl q) = rw q (lower k s.page)
      go l k s (inr q) = rw q (upper k s.page)

  packed-blank : (l : ℕ) → Blank z d l → packed z d l ≡ true
  unfolding packed is_packed
  packed-blank l b = below_all z.p (is_packed z d l) page
    where
      page : (k : ℕ) → k < z.p → is_packed z d l k ≡ true
      page zero hk = refl
      page (suc k) hk = or_second (not (blank (tag_of z d l k))) (blank (tag_of z d l (suc k))) (ap blank (b (suc k) hk) ∙ blank-ff)

  none_apart : Apart z d
  unfolding Apart
  none_apart i k hi hk kd = absurd (entry_real (ledger_tag z d i) kd (page_blank_lem i hi))

  pub blank_ledger : (next : ℕ) → 1 ≤ next → Ledger z d next
  unfolding entry_fits entry_epoch one_in_use
  blank_ledger next low = record {
    entries = λ i hi. rw (page_blank_lem i hi, programmed-ff);
    lower_packed = packed-blank (body z) lower;
    upper_packed = packed-blank (body z + 1) upper;
    one = or_left (blank (tag_of z d (body z) 0)) _ (ap blank (lower 0 p_pos) ∙ blank-ff);
    below_next = λ i hi. rw (page_blank_lem i hi, programmed-ff) low;
    apart = none_apart;
  }
