-- Erases, whole or half done: which pages stay, which buckets are still named, and that recovery finds as much as before.
use Prim.Native.Nat.{ℕ, zero, suc, ◌+◌, ◌-◌, ◌*◌, ◌≤◌, ◌<◌}
use mathlib.Core.Path.{◌≡◌, refl, sym, ap, ◌∙◌, subst}
use mathlib.Core.Logic.{◌⊎◌, inl, inr, ◌≢◌}
use mathlib.Core.Bool.{Bool, true, false, true≢false}
use mathlib.Core.List.{List}
use native.Mathlib.Omega.{arith}
use native.Mathlib.Decide.{ℕ_discrete, dec_lt}
use borrow.Author.Tests.{eqb-true, eq-eqb}
use Rattle.std.specs.Prelude.{if◌then◌else◌}
use Rattle.lists.specs.Lists.{part, ff}
use Rattle.lists.proofs.Tests.{same_truth, every_at, every_more, every-none}
use Rattle.lists.proofs.Rows.{all-below, below_all, any_below_lem, below-any}
use Rattle.lists.proofs.Parts.{length-ff}
use Rattle.model.specs.declared.Sizes.{Sizes}
use Rattle.model.specs.Sizes.{Device, body, page_index}
use Rattle.model.specs.Stores.{program, erase, apply, tag_of, disk_bytes}
use Rattle.model.specs.Spare.{programmed, ledger_kind, kind, epoch, back}
use Rattle.model.specs.Image.{head_tag, used, epoch_of}
use Rattle.model.specs.Ledger.{ledger_tag, entry_fits, holds_epoch, names, named}
use Rattle.model.specs.State.{entry_epoch, top_epoch}
use Rattle.model.specs.Promise.{blank_page, half_erased}
use Rattle.model.proofs.Tags.{kind_real, programmed-ff}
use Rattle.model.proofs.Frames.{Lengths, Fits, lengths_kept, tag-programmed, tag_other_page, tag_erased, disk_programmed, disk_erased}
use Rattle.model.proofs.Heads.{Vacant, head_blanked}
use Rattle.model.proofs.Show.{Same, same_refl, same-sym, same_trans, same_program, same_erase, epoch_by}
use Rattle.model.proofs.Formed.{epoch_top, entry_top, top_least, epoch_unused}
use Rattle.model.proofs.Findable.{Findable, torn-body, torn_ledger}

-- an entry is programmed
pub entry_page : (tag : List ℕ) → kind tag ≡ ledger_kind → programmed tag ≡ true
entry_page tag k = kind_real tag (rw k (omega arith)) (rw k (omega arith))

-- a blank page is none
pub entry_real : (tag : List ℕ) → kind tag ≡ ledger_kind → tag ≢ ff 16
entry_real tag k q = true≢false (sym (entry_page tag k) ∙ (ap programmed q ∙ programmed-ff))

module _ (z : Sizes) where
  -- e is d, but some pages of the bucket x are blank
  pub record Blanked (d e : Device) (x : ℕ) : Type 0 where
    pub lens : Lengths z e
    pub others : (c : ℕ) → c ≢ x → Same z e d c
    pub own : (k : ℕ) → k < z.p → (tag_of z e x k ≡ tag_of z d x k) ⊎ (tag_of z e x k ≡ ff 16)
    pub disk_same : (b : ℕ) → disk_bytes z d b ≡ disk_bytes z e b

  -- ---- a whole and a half-done erase

  module _ (d : Device) (L : Lengths z d) (x : ℕ) (hx : x < z.c) where
    pub blanked_erase : Blanked d (apply z d (erase x)) x
    blanked_erase = record {
      lens = lengths_kept z d L (erase x) hx;
      others = λ c ne. same-sym z (same_erase z d L x hx c ne);
      own = λ k hk. inr (tag_erased z d L x hx k hk);
      disk_same = λ b. sym (disk_erased z d L x hx b);
    }

    blank-fits : (k : ℕ) → k < z.p → Fits z (program x k (ff z.s) (ff 16))
    blank-fits k hk = (hx, hk, length-ff z.s, length-ff 16)

    blanked_page : (e : Device) → Blanked d e x → (k : ℕ) → k < z.p → Blanked d (blank_page z e x k) x
    unfolding blank_page
    blanked_page e b k hk = record {
      lens = lengths_kept z e b.lens (program x k (ff z.s) (ff 16)) f;
      others = λ c ne. same_trans z (same-sym z (same_program z e b.lens x k (ff z.s) (ff 16) f c ne)) (b.others c ne);
      own = λ j hj. page j hj (ℕ_discrete j k) (b.own j hj);
      disk_same = λ c. b.disk_same c ∙ sym (disk_programmed z e b.lens x k (ff z.s) (ff 16) f c);
    }
      where
        f : Fits z (program x k (ff z.s) (ff 16))
        f = blank-fits k hk

        after : Device
        after = apply z e (program x k (ff z.s) (ff 16))

        page : (j : ℕ) → j < z.p → Dec (j ≡ k) → (tag_of z e x j ≡ tag_of z d x j) ⊎ (tag_of z e x j ≡ ff 16) → (tag_of z after x j ≡ tag_of z d x j) ⊎ (tag_of z after x j ≡ ff 16)
        page j hj (yes q) r = inr (rw q (tag-programmed z e b.lens x k (ff z.s) (ff 16) f))
        page j hj (no ne) (inl r) = inl (tag_other_page z e b.lens x k (ff z.s) (ff 16) f j ne ∙ r)
        page j hj (no ne) (inr r) = inr (tag_other_page z e b.lens x k (ff z.s) (ff 16) f j ne ∙ r)

    pub blanked_half : (t : ℕ → Bool) (n : ℕ) → n ≤ z.p → Blanked d (half_erased z t d x n) x
    unfolding half_erased
    blanked_half t zero h = record { lens = L; others = λ c ne. same_refl z d c; own = λ k hk. inl refl; disk_same = λ b. refl }
    blanked_half t (suc n) h = go (t n) (blanked_half t n (omega arith))
      where
        go : (u : Bool) → Blanked d (half_erased z t d x n) x → Blanked d (if u then blank_page z (half_erased z t d x n) x n else half_erased z t d x n) x
        go false b = b
        go true b = blanked_page (half_erased z t d x n) b n (omega arith)

  -- ---- the pages of the ledger

  abbrev pub InLedger : ℕ → Type 0
  InLedger l = (l ≡ body z) ⊎ (l ≡ body z + 1)

  pub ledger_above : (l : ℕ) → InLedger l → body z ≤ l
  ledger_above l (inl q) = omega arith
  ledger_above l (inr q) = omega arith

  -- page i of the ledger is page k of its bucket l
  pub record Slot (l k i : ℕ) : Type 0 where
    pub bucket : InLedger l
    pub page : k < z.p
    pub inside : i < 2 * z.p
    pub place : page_index z l k ≡ page_index z (body z) i

  lower_slot : (k : ℕ) → k < z.p → Slot (body z) k k
  lower_slot k hk = record { bucket = inl refl; page = hk; inside = omega arith; place = refl }

  upper_slot : (k : ℕ) → k < z.p → Slot (body z + 1) k (z.p + k)
  unfolding page_index
  upper_slot k hk = record { bucket = inr refl; page = hk; inside = omega arith; place = omega arith }

  pub slot_at : (l k : ℕ) → InLedger l → k < z.p → (i : ℕ) × Slot l k i
  slot_at l k (inl q) hk = (k, subst (λ (x : ℕ). Slot x k k) (sym q) (lower_slot k hk))
  slot_at l k (inr q) hk = (z.p + k, subst (λ (x : ℕ). Slot x k (z.p + k)) (sym q) (upper_slot k hk))

  pub slot_of : (i : ℕ) → i < 2 * z.p → (l : ℕ) × (k : ℕ) × Slot l k i
  slot_of i hi = go (dec_lt i z.p)
    where
      go : Dec (i < z.p) → (l : ℕ) × (k : ℕ) × Slot l k i
      go (yes h) = (body z, i, lower_slot i h)
      go (no h) = (body z + 1, i - z.p, subst (λ (j : ℕ). Slot (body z + 1) (i - z.p) j) (omega arith) (upper_slot (i - z.p) (omega arith)))

  pub slot_tag : {l k i : ℕ} → Slot l k i → (d : Device) → ledger_tag z d i ≡ tag_of z d l k
  unfolding ledger_tag tag_of
  slot_tag s d = ap (λ (n : ℕ). part d.spare (n * 16) 16) (sym s.place)

  pub slot_beyond : {l k i : ℕ} → Slot l k i → body z ≤ l
  slot_beyond {l} s = ledger_above l s.bucket

  -- ---- the entry on page i names c

  pub record Names (d : Device) (c i : ℕ) : Type 0 where
    pub is_entry_lem : kind (ledger_tag z d i) ≡ ledger_kind
    pub is_for : back (ledger_tag z d i) ≡ c
    pub agrees : (k : ℕ) → k < z.p → holds_epoch z d c (epoch (ledger_tag z d i)) k ≡ true

  pub named_at : (d : Device) (c : ℕ) → named z d c ≡ true → (i : ℕ) × (i < 2 * z.p) × Names d c i
  unfolding named names
  named_at d c h =
      let m = any_below_lem (2 * z.p) (names z d c) h in (
        m.0,
        m.1,
        record {
          is_entry_lem = eqb-true _ _ (every_at _ m.2 0);
          is_for = eqb-true _ _ (every_at _ m.2 1);
          agrees = all-below z.p (holds_epoch z d c (epoch (ledger_tag z d m.0))) (every_at _ m.2 2);
        },
      )

  pub named_by : (d : Device) (c i : ℕ) → i < 2 * z.p → Names d c i → named z d c ≡ true
  unfolding named names
  named_by d c i hi n = below-any (2 * z.p) (names z d c) i hi
      (every_more _ _ (eq-eqb _ _ n.is_entry_lem) (every_more _ _ (eq-eqb _ _ n.is_for)
      (every_more _ _ (below_all z.p (holds_epoch z d c (epoch (ledger_tag z d i))) n.agrees) every-none)))

  -- it still does where it stays and pages of c become blank
  pub names_still : (d e : Device) (c i : ℕ) → ledger_tag z e i ≡ ledger_tag z d i → ((k : ℕ) → k < z.p → (tag_of z e c k ≡ tag_of z d c k) ⊎ (tag_of z e c k ≡ ff 16)) → Names d c i → Names e c i
  unfolding holds_epoch
  names_still d e c i stays pages n = record {
    is_entry_lem = ap kind stays ∙ n.is_entry_lem;
    is_for = ap back stays ∙ n.is_for;
    agrees = λ k hk. at k hk (pages k hk);
  }
    where
      at : (k : ℕ) → k < z.p → (tag_of z e c k ≡ tag_of z d c k) ⊎ (tag_of z e c k ≡ ff 16) → holds_epoch z e c (epoch (ledger_tag z e i)) k ≡ true
      at k hk (inl q) = rw (q, stays) (n.agrees k hk)
      at k hk (inr q) = rw (q, programmed-ff)

  -- ---- what blank pages leave

  module _ (d e : Device) (x : ℕ) (b : Blanked d e x) where
    page_blanked : (c k : ℕ) → k < z.p → (tag_of z e c k ≡ tag_of z d c k) ⊎ (tag_of z e c k ≡ ff 16)
    page_blanked c k hk = go (ℕ_discrete c x)
      where
        go : Dec (c ≡ x) → (tag_of z e c k ≡ tag_of z d c k) ⊎ (tag_of z e c k ≡ ff 16)
        go (yes q) = rw q (b.own k hk)
        go (no ne) = inl (sym ((b.others c ne).tags-same k hk))

    pub entry_blanked : (i : ℕ) → i < 2 * z.p → (ledger_tag z e i ≡ ledger_tag z d i) ⊎ (ledger_tag z e i ≡ ff 16)
    entry_blanked i hi =
        let s = slot_of i hi in
        rw (slot_tag s.2 e, slot_tag s.2 d) (page_blanked s.0 s.1 s.2.page)

    pub entry_stays : {l k i : ℕ} → Slot l k i → l ≢ x → ledger_tag z e i ≡ ledger_tag z d i
    entry_stays {l} {k} s ne = slot_tag s e ∙ (sym ((b.others l ne).tags-same k s.page) ∙ sym (slot_tag s d))

    entries_blanked : ((i : ℕ) → i < 2 * z.p → entry_fits z d i ≡ true) → (i : ℕ) → i < 2 * z.p → entry_fits z e i ≡ true
    unfolding entry_fits
    entries_blanked fits i hi = go (entry_blanked i hi)
      where
        go : (ledger_tag z e i ≡ ledger_tag z d i) ⊎ (ledger_tag z e i ≡ ff 16) → entry_fits z e i ≡ true
        go (inl q) = rw q (fits i hi)
        go (inr q) = rw (q, programmed-ff)

    epoch_blanked : 1 ≤ z.p → (c : ℕ) → c < body z → epoch_of z e c ≤ top_epoch z d
    unfolding used
    epoch_blanked p_pos c hc = go (head_blanked z p_pos d e c (page_blanked c))
      where
        go : (head_tag z e c ≡ head_tag z d c) ⊎ (head_tag z e c ≡ ff 16) → epoch_of z e c ≤ top_epoch z d
        go (inl q) = rw (epoch_by z d e c q) (epoch_top z d c hc)
        go (inr q) = omega (arith, epoch_unused z e c (ap programmed q ∙ programmed-ff))

    entry-epoch_blanked : (i : ℕ) → i < 2 * z.p → entry_epoch z e i ≤ entry_epoch z d i
    unfolding entry_epoch
    entry-epoch_blanked i hi = go (entry_blanked i hi)
      where
        go : (ledger_tag z e i ≡ ledger_tag z d i) ⊎ (ledger_tag z e i ≡ ff 16) → entry_epoch z e i ≤ entry_epoch z d i
        go (inl q) = rw q (omega arith)
        go (inr q) = rw (q, programmed-ff) (omega arith)

    top_blanked : 1 ≤ z.p → top_epoch z e ≤ top_epoch z d
    top_blanked p_pos = top_least z e (top_epoch z d) (epoch_blanked p_pos) (λ i hi. omega (arith, entry-epoch_blanked i hi, entry_top z d i hi))

    -- ---- in a bucket of the body: entries stay, so the same buckets are named

    module _ (hx : x < body z) where
      pub ledger_stays : (i : ℕ) → i < 2 * z.p → ledger_tag z e i ≡ ledger_tag z d i
      ledger_stays i hi = let s = slot_of i hi in entry_stays s.2 (λ q. omega (arith, slot_beyond s.2))

      named_still : (c : ℕ) → named z d c ≡ true → named z e c ≡ true
      named_still c n = let m = named_at d c n in named_by e c m.0 m.1 (names_still d e c m.0 (ledger_stays m.0 m.1) (page_blanked c) m.2)

      pub named-same : named z d x ≡ true → (c : ℕ) → named z e c ≡ named z d c
      named-same nx c = same_truth _ _ (back_to (ℕ_discrete c x)) (named_still c)
        where
          back_to : Dec (c ≡ x) → named z e c ≡ true → named z d c ≡ true
          back_to (yes q) n = rw q nx
          back_to (no ne) n =
              let m = named_at e c n in
              named_by d c m.0 m.1 (names_still e d c m.0 (sym (ledger_stays m.0 m.1)) (λ k hk. inl ((b.others c ne).tags-same k hk)) m.2)

      pub found-body : 1 ≤ z.p → (plain : List ℕ) → Findable z plain d → named z d x ≡ true → Findable z plain e
      found-body p_pos plain f nx = torn-body z p_pos plain d e x f nx b.lens (λ c hc ne. b.others c ne) b.own (λ c hc. named-same nx c) (entries_blanked f.accepted.entries)
          (omega (arith, top_blanked p_pos, f.low)) b.disk_same

    -- ---- in a bucket of the ledger: entries go

    module _ (hx : body z ≤ x) where
      pub body_same : (c : ℕ) → c < body z → Same z e d c
      body_same c hc = b.others c (λ q. omega arith)

      pub fewer : (c : ℕ) → c < body z → named z e c ≡ true → named z d c ≡ true
      fewer c hc n = go (entry_blanked m.0 m.1)
        where
          m : (i : ℕ) × (i < 2 * z.p) × Names e c i
          m = named_at e c n

          go : (ledger_tag z e m.0 ≡ ledger_tag z d m.0) ⊎ (ledger_tag z e m.0 ≡ ff 16) → named z d c ≡ true
          go (inl q) = named_by d c m.0 m.1 (names_still e d c m.0 (sym q) (λ k hk. inl ((body_same c hc).tags-same k hk)) m.2)
          go (inr q) = absurd (entry_real (ledger_tag z e m.0) m.2.is_entry_lem q)

      -- no bucket that they named has a programmed page
      pub found_ledger : 1 ≤ z.p → (plain : List ℕ) → Findable z plain d → ((c : ℕ) → c < body z → named z d c ≡ true → Vacant z d c) → Findable z plain e
      found_ledger p_pos plain f vacant = torn_ledger z p_pos plain d e f b.lens body_same (entries_blanked f.accepted.entries) fewer vacant
          (omega (arith, top_blanked p_pos, f.low)) b.disk_same
