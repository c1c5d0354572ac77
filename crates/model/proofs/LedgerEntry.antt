-- An entry of the erase ledger: what it says, the chip that has it, and what the erase that it is for makes of the ledger.
use Prim.Native.Nat.{ℕ, zero, suc, ◌+◌, ◌*◌, ◌≤◌, ◌<◌}
use mathlib.Core.Path.{◌≡◌, refl, sym, ap, ◌∙◌, subst}
use mathlib.Core.Logic.{◌⊎◌, inl, inr, ◌≢◌}
use mathlib.Core.Bool.{Bool, true, false, not, ◌||◌, true≢false}
use mathlib.Core.List.{List}
use native.Mathlib.Omega.{arith}
use native.Mathlib.Decide.{ℕ_discrete, dec_lt}
use lib.ListN.{length}
use lib.Dec.{ltb, eqb}
use borrow.Author.Tests.{ltb-true, lt-ltb, eq-eqb, ne_eqb}
use Rattle.std.specs.Prelude.{if◌then◌else◌}
use Rattle.lists.specs.Lists.{same, ff}
use Rattle.lists.proofs.Tests.{true_or_false, and_right, and-true, or_left, or_right, or_second}
use Rattle.lists.proofs.Sames.{same_self}
use Rattle.lists.proofs.Rows.{below_all}
use Rattle.lists.proofs.Parts.{length-ff}
use Rattle.model.specs.declared.Sizes.{Sizes}
use Rattle.model.specs.Sizes.{Device, body, page_index}
use Rattle.model.specs.Stores.{program, erase, apply, tag_of, disk_bytes}
use Rattle.model.specs.Spare.{blank, programmed, ledger_kind, kind, epoch, back, entry_tag}
use Rattle.model.specs.Image.{bucket_fits, epoch_of, is_packed, packed}
use Rattle.model.specs.Ledger.{ledger_tag, is_entry, entry_fits, holds_epoch, named, one_in_use, in_use, other_of}
use Rattle.model.specs.State.{entry_epoch, top_epoch}
use Rattle.model.proofs.Limits.{Limits, on_chip}
use Rattle.model.proofs.Tags.{programmed-ff, length-tag, kind-tag, epoch-tag, back-tag}
use Rattle.model.proofs.Safe.{Chip, Sound}
use Rattle.model.proofs.Frames.{Lengths, Fits, lengths_kept, tag-programmed, tag_other_place, tag_erased, disk_programmed, disk_erased}
use Rattle.model.proofs.Show.{Same, same-sym, same_trans, same_program, same_erase, epoch_of-same}
use Rattle.model.proofs.Formed.{top_least}
use Rattle.model.proofs.FormedKept.{chip-lengths, chip_formed, chip-epoch}
use Rattle.model.proofs.LedgerKept.{Ledger, Apart, apart_unnamed}
use Rattle.model.proofs.LedgerErase.{entry_page, entry_real, Blanked, InLedger, Slot, slot_tag, slot_beyond, Names, named_at, named_by, names_still, entry_blanked, ledger_stays, blanked_erase}
use Rattle.model.proofs.BodyAlike.{blank_vacant}
use Rattle.model.proofs.Findable.{epoch_own, Findable, noted}
use Rattle.model.proofs.ProgramsLedger.{entry-programmed, Filled, InUse, Shape, shape_still}

-- ---- what an entry says

module _ (e x : ℕ) where
  length-entry : length (entry_tag e x) ≡ 16
  unfolding entry_tag
  length-entry = length-tag ledger_kind 0 1 e x 0 1

  entry-kind : kind (entry_tag e x) ≡ ledger_kind
  unfolding entry_tag
  entry-kind = kind-tag ledger_kind 0 1 e x 0 1

  entry-epoch : e < 4294967296 → epoch (entry_tag e x) ≡ e
  unfolding entry_tag
  entry-epoch h = epoch-tag ledger_kind 0 1 e x 0 1 h

  entry-back : x < 65536 → back (entry_tag e x) ≡ x
  unfolding entry_tag
  entry-back h = back-tag ledger_kind 0 1 e x 0 1 h

module _ (z : Sizes) where
  -- it is for a bucket outside the ledger
  entry_for : (d : Device) (i : ℕ) → entry_fits z d i ≡ true → kind (ledger_tag z d i) ≡ ledger_kind → back (ledger_tag z d i) < body z
  unfolding entry_fits is_entry
  entry_for d i fits k =
      let q : is_entry z (ledger_tag z d i) ≡ true = or_right (not (programmed (ledger_tag z d i))) _ fits (ap not (entry_page (ledger_tag z d i) k)) in
      ltb-true _ _ (and_right (same (ledger_tag z d i) (entry_tag (epoch (ledger_tag z d i)) (back (ledger_tag z d i)))) _ q)

  -- ---- where the entry goes

  pub ledger_below : Limits z → (l : ℕ) → InLedger z l → l < z.c
  ledger_below B l (inl q) = omega (arith, B.ledger_in)
  ledger_below B l (inr q) = omega (arith, B.ledger_in)

  pub in_use_at : (d : Device) → InLedger z (in_use z d)
  unfolding in_use
  in_use_at d = go (blank (tag_of z d (body z + 1) 0))
    where
      go : (t : Bool) → InLedger z (if t then body z else body z + 1)
      go true = inl refl
      go false = inr refl

  -- and the bucket that takes over
  pub other_at : (l : ℕ) → InLedger z (other_of z l)
  unfolding other_of
  other_at l = go (eqb l (body z))
    where
      go : (t : Bool) → InLedger z (if t then body z + 1 else body z)
      go true = inr refl
      go false = inl refl

  pub other_differs : (l : ℕ) → InLedger z l → other_of z l ≢ l
  unfolding other_of
  other_differs l (inl q) = rw (eq-eqb l (body z) q) (λ r. omega arith)
  other_differs l (inr q) = rw (ne_eqb l (body z) (λ r. omega arith)) (λ r. omega arith)

  -- ---- a ledger of that shape passes numbers 4 and 5

  page_packed : (d : Device) (l n : ℕ) → Filled z d l n → (k : ℕ) → k < z.p → is_packed z d l k ≡ true
  unfolding is_packed
  page_packed d l n f zero hk = refl
  page_packed d l n f (suc k) hk = go (dec_lt k n)
    where
      go : Dec (k < n) → not (blank (tag_of z d l k)) || blank (tag_of z d l (suc k)) ≡ true
      go (yes h) = or_left _ _ (ap not (f.used k h))
      go (no h) = or_second (not (blank (tag_of z d l k))) _ (f.rest (suc k) (omega arith) hk)

  filled_packed : (d : Device) (l n : ℕ) → Filled z d l n → packed z d l ≡ true
  unfolding packed
  filled_packed d l n f = below_all z.p (is_packed z d l) (page_packed d l n f)

  shape_packed : (d : Device) → 1 ≤ z.p → Shape z d → (packed z d (body z) ≡ true) × (packed z d (body z + 1) ≡ true) × (one_in_use z d ≡ true)
  unfolding one_in_use
  shape_packed d p_pos s = go (ℕ_discrete s.bucket (body z)) s.in_use
    where
      go : Dec (s.bucket ≡ body z) → InUse z d s.bucket s.other s.entries → (packed z d (body z) ≡ true) × (packed z d (body z + 1) ≡ true) × (one_in_use z d ≡ true)
      go (yes q) u =
          let o : s.other ≡ body z + 1 = omega (arith, u.both) in
          let f = filled_packed d s.bucket s.entries u.filled in
          let g = filled_packed d s.other 0 u.unused in
          (rw (← q) f, rw (← o) g, or_second (blank (tag_of z d (body z) 0)) _ (rw (← o) (u.unused.rest 0 (omega arith) p_pos)))
      go (no ne) u =
          let l : s.bucket ≡ body z + 1 = omega (arith, u.both, u.bucket_in, u.other_in) in
          let o : s.other ≡ body z = omega (arith, u.both) in
          let f = filled_packed d s.bucket s.entries u.filled in
          let g = filled_packed d s.other 0 u.unused in
          (rw (← o) g, rw (← l) f, or_left (blank (tag_of z d (body z) 0)) _ (rw (← o) (u.unused.rest 0 (omega arith) p_pos)))

  -- the pages of a bucket hold its epoch
  holds_own_lem : (d e : Device) (c : ℕ) → bucket_fits z d c ≡ true → (k : ℕ) → k < z.p → tag_of z e c k ≡ tag_of z d c k → holds_epoch z e c (epoch_of z d c) k ≡ true
  unfolding holds_epoch
  holds_own_lem d e c fit k hk q = rw q (go (true_or_false (programmed (tag_of z d c k))))
    where
      go : (programmed (tag_of z d c k) ≡ true) ⊎ (programmed (tag_of z d c k) ≡ false) → holds_epoch z d c (epoch_of z d c) k ≡ true
      go (inl p) = or_second (not (programmed (tag_of z d c k))) _ (eq-eqb _ _ (epoch_own z d c fit k hk p))
      go (inr p) = or_left (not (programmed (tag_of z d c k))) _ (ap not p)

  -- ---- the chip d gets an entry for its bucket h

  module _ (B : Limits z) (d : Device) (next : ℕ) (chip : Chip z d) (led : Ledger z d next) (h : ℕ) (hh : h < body z) (h_old : epoch_of z d h < next) where
    abbrev tag : List ℕ
    tag = entry_tag (epoch_of z d h) h

    h_small : h < 65536
    h_small = omega (arith, hh, B.ledger_in, B.c_high)

    tag-epoch : epoch tag ≡ epoch_of z d h
    tag-epoch = entry-epoch (epoch_of z d h) h (chip-epoch z chip h hh)

    tag_back : back tag ≡ h
    tag_back = entry-back (epoch_of z d h) h h_small

    tag-entry : is_entry z tag ≡ true
    unfolding is_entry
    tag-entry = and-true {s = same tag (entry_tag (epoch tag) (back tag))} {t = ltb (back tag) (body z)} (rw (tag-epoch, tag_back) (same_self tag)) (rw tag_back (lt-ltb h (body z) hh))

    -- page i of the ledger in e: the new entry, d's, or blank
    pub data Left (e : Device) (i : ℕ) : Type 0 where
      new : ledger_tag z e i ≡ tag → Left e i
      old : ledger_tag z e i ≡ ledger_tag z d i → Left e i
      gone : ledger_tag z e i ≡ ff 16 → Left e i

    -- e is d with the entry on this page of the ledger, and perhaps without others
    pub record Entered (e : Device) (page : ℕ) : Type 0 where
      pub lens : Lengths z e
      pub body_same : (c : ℕ) → c < body z → Same z d e c
      pub disk_same : (b : ℕ) → disk_bytes z e b ≡ disk_bytes z d b
      pub inside : page < 2 * z.p
      pub is_new : ledger_tag z e page ≡ tag
      pub left : (i : ℕ) → i < 2 * z.p → Left e i

    entry-fits : {l k i : ℕ} → Slot z l k i → Fits z (program l k (ff z.s) tag)
    entry-fits {l} s = (ledger_below B l s.bucket, s.page, length-ff z.s, length-entry (epoch_of z d h) h)

    pub entered_program : {l k i : ℕ} → Slot z l k i → Entered (apply z d (program l k (ff z.s) tag)) i
    unfolding ledger_tag page_index
    entered_program {l} {k} {i} s = record {
      lens = lengths_kept z d L (program l k (ff z.s) tag) f;
      body_same = λ c hc. same_program z d L l k (ff z.s) tag f c (λ q. omega (arith, slot_beyond z s));
      disk_same = λ b. disk_programmed z d L l k (ff z.s) tag f b;
      inside = s.inside;
      is_new = here;
      left = λ j hj. at j (ℕ_discrete j i);
    }
      where
        L : Lengths z d
        L = chip-lengths z chip

        f : Fits z (program l k (ff z.s) tag)
        f = entry-fits s

        here : ledger_tag z (apply z d (program l k (ff z.s) tag)) i ≡ tag
        here = slot_tag z s (apply z d (program l k (ff z.s) tag)) ∙ tag-programmed z d L l k (ff z.s) tag f

        at : (j : ℕ) → Dec (j ≡ i) → Left (apply z d (program l k (ff z.s) tag)) j
        at j (yes q) = new (rw q here)
        at j (no ne) = old (tag_other_place z d L l k (ff z.s) tag f (body z) j (λ q. ne (omega (arith, s.place))))

    -- pages of the ledger go, but not the entry
    pub entered_blanked : (e f : Device) (page x : ℕ) → Entered e page → Blanked z e f x → body z ≤ x → ledger_tag z f page ≡ ledger_tag z e page → Entered f page
    entered_blanked e f page x n b hx stays = record {
      lens = b.lens;
      body_same = λ c hc. same_trans z (n.body_same c hc) (same-sym z (b.others c (λ q. omega arith)));
      disk_same = λ c. sym (b.disk_same c) ∙ n.disk_same c;
      inside = n.inside;
      is_new = stays ∙ n.is_new;
      left = λ i hi. at i (n.left i hi) (entry_blanked z e f x b i hi);
    }
      where
        at : (i : ℕ) → Left e i → (ledger_tag z f i ≡ ledger_tag z e i) ⊎ (ledger_tag z f i ≡ ff 16) → Left f i
        at i l (inr q) = gone q
        at i (new r) (inl q) = new (q ∙ r)
        at i (old r) (inl q) = old (q ∙ r)
        at i (gone r) (inl q) = gone (q ∙ r)

    -- ---- what recovery finds there

    module _ (e : Device) (page : ℕ) (n : Entered e page) where
      entered_entries : (i : ℕ) → i < 2 * z.p → entry_fits z e i ≡ true
      unfolding entry_fits
      entered_entries i hi = go (n.left i hi)
        where
          go : Left e i → entry_fits z e i ≡ true
          go (new q) = rw q (or_second (not (programmed tag)) _ tag-entry)
          go (old q) = rw q (led.entries i hi)
          go (gone q) = rw (q, programmed-ff)

      entered_epochs : (i : ℕ) → i < 2 * z.p → entry_epoch z e i < next
      unfolding entry_epoch
      entered_epochs i hi = go (n.left i hi)
        where
          go : Left e i → entry_epoch z e i < next
          go (new q) = rw (q, entry-programmed (epoch_of z d h) h, tag-epoch) h_old
          go (old q) = rw q (led.below_next i hi)
          go (gone q) = rw (q, programmed-ff) (omega (arith, h_old))

      -- h is named: its pages hold the entry's epoch
      pub entered-named : named z e h ≡ true
      entered-named = named_by z e h page n.inside (record {
        is_entry_lem = ap kind n.is_new ∙ entry-kind (epoch_of z d h) h;
        is_for = ap back n.is_new ∙ tag_back;
        agrees = λ k hk. subst (λ (x : ℕ). holds_epoch z e h x k ≡ true) (sym (ap epoch n.is_new ∙ tag-epoch))
            (holds_own_lem d e h ((chip_formed z chip).buckets_fit h hh) k hk ((n.body_same h hh).tags-same k hk));
      })

      -- and no other bucket is that was not
      entered_older : (c : ℕ) → c < body z → c ≢ h → named z e c ≡ true → named z d c ≡ true
      entered_older c hc ne m = go (n.left i hi)
        where
          at : (i : ℕ) × (i < 2 * z.p) × Names z e c i
          at = named_at z e c m

          i : ℕ
          i = at.0

          hi : i < 2 * z.p
          hi = at.1

          go : Left e i → named z d c ≡ true
          go (new q) = absurd (ne (sym at.2.is_for ∙ (ap back q ∙ tag_back)))
          go (gone q) = absurd (entry_real (ledger_tag z e i) at.2.is_entry_lem q)
          go (old q) = named_by z d c i hi (names_still z e d c i (sym q) (λ k hk. inl (sym ((n.body_same c hc).tags-same k hk))) at.2)

      pub found-entered : next ≤ 4294967296 → (plain : List ℕ) → Sound z plain (apply z d (erase h)) → Findable z plain e
      found-entered high plain sound = noted z p_pos plain d (chip_formed z chip) (λ c hc u. apart_unnamed z p_pos d led.apart c u) h
          (apply z d (erase h)) sound (λ c hc ne. same_erase z d L h h_in c ne) (blank_vacant z p_pos (apply z d (erase h)) h (tag_erased z d L h h_in))
          e n.lens (λ c hc. same-sym z (n.body_same c hc)) entered_entries entered-named entered_older (omega (arith, top)) (λ b. disk_erased z d L h h_in b ∙ sym (n.disk_same b))
        where
          p_pos : 1 ≤ z.p
          p_pos = B.p_low

          L : Lengths z d
          L = chip-lengths z chip

          h_in : h < z.c
          h_in = on_chip z h hh

          top : top_epoch z e ≤ 4294967295
          top = top_least z e 4294967295 (λ c hc. omega (arith, epoch_of-same z p_pos d e c (n.body_same c hc), chip-epoch z chip c hc)) (λ i hi. omega (arith, entered_epochs i hi))

      -- ---- the erase that the entry is for

      abbrev erased : Device
      erased = apply z e (erase h)

      blanked : Blanked z e erased h
      blanked = blanked_erase z e n.lens h (on_chip z h hh)

      -- h has no page left
      h_none : (k : ℕ) → k < z.p → programmed (tag_of z erased h k) ≡ false
      h_none k hk = ap programmed (tag_erased z e n.lens h (on_chip z h hh) k hk) ∙ programmed-ff

      entered_apart : Apart z erased
      unfolding Apart
      entered_apart i k hi hk = rw (ledger_stays z e erased h blanked hh i hi) (λ kd p. go kd p (n.left i hi))
        where
          -- page k of the bucket that the entry t is for
          page_of : List ℕ → List ℕ
          page_of t = tag_of z erased (back t) k

          Outdated : List ℕ → Type 0
          Outdated t = epoch (page_of t) ≢ epoch t

          for_h : (t : List ℕ) → back t ≡ h → programmed (page_of t) ≡ true → Outdated t
          for_h t q p = absurd (true≢false (sym p ∙ (ap (λ (x : ℕ). programmed (tag_of z erased x k)) q ∙ h_none k hk)))

          other : kind (ledger_tag z d i) ≡ ledger_kind → programmed (page_of (ledger_tag z d i)) ≡ true → Dec (back (ledger_tag z d i) ≡ h) → Outdated (ledger_tag z d i)
          other kd p (yes q) = for_h (ledger_tag z d i) q p
          other kd p (no ne) =
              let c = back (ledger_tag z d i) in
              let s : tag_of z erased c k ≡ tag_of z d c k = sym ((blanked.others c ne).tags-same k hk) ∙ (n.body_same c (entry_for d i (led.entries i hi) kd)).tags-same k hk in
              λ q. led.apart i k hi hk kd (sym (ap programmed s) ∙ p) (sym (ap epoch s) ∙ q)

          go : kind (ledger_tag z e i) ≡ ledger_kind → programmed (page_of (ledger_tag z e i)) ≡ true → Left e i → Outdated (ledger_tag z e i)
          go kd p (new q) = for_h (ledger_tag z e i) (ap back q ∙ tag_back) p
          go kd p (gone q) = absurd (entry_real (ledger_tag z e i) kd q)
          go kd p (old q) = subst Outdated (sym q) (other (sym (ap kind q) ∙ kd) (sym (ap (λ (t : List ℕ). programmed (page_of t)) q) ∙ p) (ℕ_discrete (back (ledger_tag z d i)) h))

      pub ledger_erased : Shape z e → Ledger z erased next
      unfolding entry_fits entry_epoch
      ledger_erased shape =
          let s = shape_packed erased B.p_low (shape_still z e erased (λ c i hc hi. sym ((blanked.others c (λ q. omega (arith, hh))).tags-same i hi)) shape) in
          record {
            entries = λ i hi. rw (ledger_stays z e erased h blanked hh i hi) (entered_entries i hi);
            lower_packed = s.0;
            upper_packed = s.1;
            one = s.2;
            below_next = λ i hi. rw (ledger_stays z e erased h blanked hh i hi) (entered_epochs i hi);
            apart = entered_apart;
          }
