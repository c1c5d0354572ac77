-- Stores that leave the ledger as it is: programs of pages outside it whose epoch no entry for their bucket has, and disk units.
use Prim.Native.Nat.{ℕ, ◌+◌, ◌*◌, ◌≤◌, ◌<◌}
use mathlib.Core.Path.{◌≡◌, sym, ap, ◌∙◌}
use mathlib.Core.Logic.{◌⊎◌, inl, inr, ◌≢◌}
use mathlib.Core.Bool.{true, false, not}
use mathlib.Core.List.{List}
use native.Mathlib.Omega.{arith}
use native.Mathlib.Nat.{mul-le-mul_right}
use native.Mathlib.Decide.{ℕ_discrete}
use borrow.Author.Tests.{eqb-true}
use Rattle.lists.proofs.Tests.{true_or_false, every_at, or_right}
use Rattle.lists.proofs.Rows.{all-below, any_below_lem}
use Rattle.model.specs.declared.Sizes.{Sizes}
use Rattle.model.specs.Sizes.{Device, body, page_index}
use Rattle.model.specs.Stores.{program, unit, apply, tag_of}
use Rattle.model.specs.Spare.{programmed, ledger_kind, kind, epoch, back}
use Rattle.model.specs.Image.{used, epoch_of, packed}
use Rattle.model.specs.Ledger.{ledger_tag, entry_fits, holds_epoch, names, named, one_in_use}
use Rattle.model.specs.State.{entry_epoch}
use Rattle.model.proofs.Frames.{Lengths, Fits, tag-programmed, tag_other_place, tag_other_page, tag_other_bucket, tag_unit}
use Rattle.model.proofs.Heads.{head_page, head-programmed}
use Rattle.model.proofs.Formed.{epoch-used}

module _ (z : Sizes) where
  -- no entry has the epoch of a page of the bucket that it is for
  unfoldable pub Apart : Device → Type 0
  Apart d = (i k : ℕ) → i < 2 * z.p → k < z.p → kind (ledger_tag z d i) ≡ ledger_kind → programmed (tag_of z d (back (ledger_tag z d i)) k) ≡ true
      → epoch (tag_of z d (back (ledger_tag z d i)) k) ≢ epoch (ledger_tag z d i)

  -- no entry for the bucket c has the epoch e
  abbrev pub New : Device → (c e : ℕ) → Type 0
  New d c e = (i : ℕ) → i < 2 * z.p → kind (ledger_tag z d i) ≡ ledger_kind → back (ledger_tag z d i) ≡ c → e ≢ epoch (ledger_tag z d i)

  -- a bucket with a page has its epoch from one
  own_page : 1 ≤ z.p → (d : Device) (c : ℕ) → used z d c ≡ true → (k : ℕ) × (k < z.p) × (programmed (tag_of z d c k) ≡ true) × (epoch_of z d c ≡ epoch (tag_of z d c k))
  own_page p_pos d c u =
      let h = head_page z p_pos d c in
      (h.page, h.inside, sym (ap programmed h.is) ∙ head-programmed z d c u, epoch-used z d c u ∙ ap epoch h.is)

  pub apart_own : (d : Device) → Apart d → (c : ℕ) → used z d c ≡ true → New d c (epoch_of z d c)
  unfolding Apart
  apart_own d a c u i hi kd b q =
      let o = own_page (omega arith) d c u in
      a i o.0 hi o.1 kd (rw b o.2) (rw b (sym o.3 ∙ q))

  -- so no bucket with a page is named
  pub apart_unnamed : 1 ≤ z.p → (d : Device) → Apart d → (c : ℕ) → used z d c ≡ true → named z d c ≡ false
  unfolding named names holds_epoch
  apart_unnamed p_pos d a c u = go (true_or_false (named z d c))
    where
      go : (named z d c ≡ true) ⊎ (named z d c ≡ false) → named z d c ≡ false
      go (inr q) = q
      go (inl q) =
          let m = any_below_lem (2 * z.p) (names z d c) q in
          let k : kind (ledger_tag z d m.0) ≡ ledger_kind = eqb-true _ _ (every_at _ m.2 0) in
          let b : back (ledger_tag z d m.0) ≡ c = eqb-true _ _ (every_at _ m.2 1) in
          let o = own_page p_pos d c u in
          let held = all-below z.p (holds_epoch z d c (epoch (ledger_tag z d m.0))) (every_at _ m.2 2) o.0 o.1 in
          absurd (apart_own d a c u m.0 m.1 k b (o.3 ∙ eqb-true _ _ (or_right (not (programmed (tag_of z d c o.0))) _ held (ap not o.2))))

  -- a page of the body is no page of the ledger
  pub ledger_still : (d : Device) → Lengths z d → (c k : ℕ) (bytes tag : List ℕ) → Fits z (program c k bytes tag) → c < body z → (i : ℕ) → ledger_tag z (apply z d (program c k bytes tag)) i ≡ ledger_tag z d i
  unfolding ledger_tag page_index
  ledger_still d L c k bytes tag f hc i = tag_other_place z d L c k bytes tag f (body z) i (λ q. omega (arith, f.1, mul-le-mul_right z.p hc))

  pub apart_program : (d : Device) → Lengths z d → (c k : ℕ) (bytes tag : List ℕ) → Fits z (program c k bytes tag) → c < body z
      → New d c (epoch tag) → Apart d → Apart (apply z d (program c k bytes tag))
  unfolding Apart
  apart_program d L c k bytes tag f hc new a i j hi hj =
      rw (ledger_still d L c k bytes tag f hc i) (λ kd p q. go kd p q (ℕ_discrete (back (ledger_tag z d i)) c) (ℕ_discrete j k))
    where
      e : Device
      e = apply z d (program c k bytes tag)

      x : ℕ
      x = back (ledger_tag z d i)

      go : kind (ledger_tag z d i) ≡ ledger_kind → programmed (tag_of z e x j) ≡ true → epoch (tag_of z e x j) ≡ epoch (ledger_tag z d i) → Dec (x ≡ c) → Dec (j ≡ k) → ⊥
      go kd p q (yes r) (yes s) =
          let t : tag_of z e x j ≡ tag = rw (r, s) (tag-programmed z d L c k bytes tag f) in
          new i hi kd r (sym (ap epoch t) ∙ q)
      go kd p q (yes r) (no ne) =
          let t : tag_of z e x j ≡ tag_of z d x j = rw r (tag_other_page z d L c k bytes tag f j ne) in
          a i j hi hj kd (sym (ap programmed t) ∙ p) (sym (ap epoch t) ∙ q)
      go kd p q (no ne) r =
          let t = tag_other_bucket z d L c k bytes tag f x j ne hj in
          a i j hi hj kd (sym (ap programmed t) ∙ p) (sym (ap epoch t) ∙ q)

  pub apart_unit : (d : Device) (u : ℕ) (bytes : List ℕ) → Apart d → Apart (apply z d (unit u bytes))
  unfolding Apart ledger_tag
  apart_unit d u bytes a i k hi hk = rw (tag_unit z d u bytes (body z) i, tag_unit z d u bytes (back (tag_of z d (body z) i)) k) (a i k hi hk)

  -- what stands in the ledger of a running engine, whose next epoch is `next`
  pub record Ledger (d : Device) (next : ℕ) : Type 0 where
    pub entries : (i : ℕ) → i < 2 * z.p → entry_fits z d i ≡ true
    pub lower_packed : packed z d (body z) ≡ true
    pub upper_packed : packed z d (body z + 1) ≡ true
    pub one : one_in_use z d ≡ true
    pub below_next : (i : ℕ) → i < 2 * z.p → entry_epoch z d i < next
    pub apart : Apart d
