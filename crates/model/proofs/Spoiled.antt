-- A cut in a program may spoil its page: recovery finds as much as before, since no page that counts has changed.
use Prim.Native.Nat.{ℕ, zero, suc, ◌+◌, ◌-◌, ◌*◌, ◌/◌, ◌%◌, ◌≤◌, ◌<◌}
use mathlib.Core.Path.{◌≡◌, refl, sym, ap, ◌∙◌, subst}
use mathlib.Core.Logic.{◌⊎◌, inl, inr, ◌≢◌}
use mathlib.Core.Bool.{Bool, true, false, not}
use mathlib.Core.List.{List, [], ◌∷◌, ◌++◌}
use native.Mathlib.Omega.{arith}
use native.Mathlib.Nat.{div-add-mod', mod-lt, lt_of_mul-lt-mul_right}
use native.Mathlib.Decide.{ℕ_discrete, dec_lt}
use lib.ListN.{length, take, drop, length-take, length-append}
use borrow.Author.Tests.{eqb-true}
use Rattle.std.specs.Prelude.{if◌then◌else◌}
use Rattle.lists.specs.Lists.{part, ff}
use Rattle.lists.proofs.Tests.{true_or_false, same_truth, or_left, or_right}
use Rattle.lists.proofs.Parts.{length_part, length-ff}
use Rattle.model.specs.declared.Sizes.{Sizes}
use Rattle.model.specs.Sizes.{Device, body, page_index}
use Rattle.model.specs.Stores.{Store, program, erase, unit, apply, apply_all, tag_of, disk_bytes, page_bytes}
use Rattle.model.specs.Spare.{blank, spoiled, programmed, kind, epoch, back}
use Rattle.model.specs.Image.{bucket_fits, used, epoch_of}
use Rattle.model.specs.Ledger.{ledger_tag, entry_fits, holds_epoch, named}
use Rattle.model.specs.State.{entry_epoch, top_epoch}
use Rattle.model.specs.Promise.{Tear, spoiled_page, torn}
use Rattle.model.specs.StoresMade.{Rising}
use Rattle.model.proofs.Safe.{unspoiling, Sound}
use Rattle.model.proofs.Limits.{Limits}
use Rattle.model.proofs.Tags.{blank-true}
use Rattle.model.proofs.Frames.{Lengths, Fits, lengths_kept, place_row, tag-programmed, tag_other_page, bytes_programmed, disk_programmed}
use Rattle.model.proofs.Heads.{head_page, head-programmed}
use Rattle.model.proofs.Show.{Same, same_refl, same-sym, same_trans, same_program, fits-same}
use Rattle.model.proofs.Formed.{epoch_top, entry_top, top_least, epoch-used, epoch_unused}
use Rattle.model.proofs.FormedKept.{chip-lengths}
use Rattle.model.proofs.Pages.{length_page}
use Rattle.model.proofs.SpoiledChip.{Unread, stays, neither, unread_sym, unread_programmed, unread, used-spoiled, fits-spoiled, sound_spoiled}
use Rattle.model.proofs.BodyAlike.{vacant_same}
use Rattle.model.proofs.Findable.{Accepted, Fewer, uniform_fewer, ages_fewer, epoch_own, Shown, kept, goes, empty, Findable}
use Rattle.model.proofs.LedgerErase.{entry_page, slot_of, slot_tag, Names, named_at, named_by}

module _ (z : Sizes) where
  -- ---- chips whose pages say the same

  abbrev AllUnread : Device → Device → Type 0
  AllUnread d e = (c k : ℕ) → k < z.p → Unread (tag_of z d c k) (tag_of z e c k)

  module _ (d e : Device) (pages : AllUnread d e) where
    entry_unread : (i : ℕ) → i < 2 * z.p → Unread (ledger_tag z d i) (ledger_tag z e i)
    entry_unread i hi = let s = slot_of z i hi in rw (slot_tag z s.2 d, slot_tag z s.2 e) (pages s.0 s.1 s.2.page)

    names_unread : (c i : ℕ) → i < 2 * z.p → Names z d c i → Names z e c i
    unfolding holds_epoch
    names_unread c i hi n = record { is_entry_lem = ap kind still ∙ n.is_entry_lem; is_for = ap back still ∙ n.is_for; agrees = λ k hk. at k hk (pages c k hk) }
      where
        still : ledger_tag z e i ≡ ledger_tag z d i
        still = sym (unread_programmed (unread_sym (entry_unread i hi)) (entry_page (ledger_tag z d i) n.is_entry_lem))

        at : (k : ℕ) → k < z.p → Unread (tag_of z d c k) (tag_of z e c k) → holds_epoch z e c (epoch (ledger_tag z e i)) k ≡ true
        at k hk (stays q) = rw (q, still) (n.agrees k hk)
        at k hk (neither p q) = or_left (not (programmed (tag_of z e c k))) _ (rw q)

    named_unread : (c : ℕ) → named z d c ≡ true → named z e c ≡ true
    named_unread c h = let m = named_at z d c h in named_by z e c m.0 m.1 (names_unread c m.0 m.1 m.2)

    entries_unread : (i : ℕ) → i < 2 * z.p → entry_fits z d i ≡ true → entry_fits z e i ≡ true
    unfolding entry_fits
    entries_unread i hi h = go (entry_unread i hi)
      where
        go : Unread (ledger_tag z d i) (ledger_tag z e i) → entry_fits z e i ≡ true
        go (stays q) = rw q h
        go (neither p q) = or_left (not (programmed (ledger_tag z e i))) _ (rw q)

    entry-epoch_unread : (i : ℕ) → i < 2 * z.p → entry_epoch z e i ≡ entry_epoch z d i
    unfolding entry_epoch
    entry-epoch_unread i hi = go (entry_unread i hi)
      where
        go : Unread (ledger_tag z d i) (ledger_tag z e i) → entry_epoch z e i ≡ entry_epoch z d i
        go (stays q) = rw q
        go (neither p q) = rw (p, q)

    fewer : (c : ℕ) → Fewer z d e c
    fewer c k hk p = unread_programmed (pages c k hk) p

  named-same : (d e : Device) → AllUnread d e → (c : ℕ) → named z e c ≡ named z d c
  named-same d e pages c = same_truth _ _ (named_unread e d (λ x k hk. unread_sym (pages x k hk)) c) (named_unread d e pages c)

  -- recovery accepts both, if e's unnamed buckets fit where d's do
  accepted_unread : (d e : Device) → AllUnread d e → ((c : ℕ) → bucket_fits z d c ≡ true → bucket_fits z e c ≡ true) → Accepted z d → Accepted z e
  accepted_unread d e pages fits a = record {
    entries = λ i hi. entries_unread d e pages i hi (a.entries i hi);
    fits = λ c hc n. fits c (a.fits c hc (sym (named-same d e pages c) ∙ n));
    loose = λ c hc n. uniform_fewer z d e c (fewer d e pages c) (a.loose c hc (sym (named-same d e pages c) ∙ n));
    ages = ages_fewer z d e (λ c hc. fewer d e pages c) a.ages;
  }

  -- ---- the largest epoch

  module _ (d : Device) (a : Accepted z d) where
    -- a page's epoch is its bucket's; in a named one, where a blank page may hide it, that of the entry
    page_epoch : (c k : ℕ) → c < body z → k < z.p → programmed (tag_of z d c k) ≡ true → epoch (tag_of z d c k) ≤ top_epoch z d
    unfolding holds_epoch entry_epoch
    page_epoch c k hc hk p = go (true_or_false (named z d c))
      where
        go : (named z d c ≡ true) ⊎ (named z d c ≡ false) → epoch (tag_of z d c k) ≤ top_epoch z d
        go (inl n) =
            let m = named_at z d c n in
            let own : epoch (tag_of z d c k) ≡ epoch (ledger_tag z d m.0) = eqb-true _ _ (or_right (not (programmed (tag_of z d c k))) _ (m.2.agrees k hk) (rw p)) in
            let entry : entry_epoch z d m.0 ≡ epoch (ledger_tag z d m.0) = rw (entry_page (ledger_tag z d m.0) m.2.is_entry_lem) in
            omega (arith, entry_top z d m.0 m.1)
        go (inr n) = omega (arith, epoch_own z d c (a.fits c hc n) k hk p, epoch_top z d c hc)

    top_unread : 1 ≤ z.p → (e : Device) → AllUnread d e → top_epoch z e ≤ top_epoch z d
    top_unread p_pos e pages = top_least z e (top_epoch z d) (λ c hc. bucket c hc (true_or_false (used z e c))) (λ i hi. omega (arith, entry-epoch_unread d e pages i hi, entry_top z d i hi))
      where
        bucket : (c : ℕ) → c < body z → (used z e c ≡ true) ⊎ (used z e c ≡ false) → epoch_of z e c ≤ top_epoch z d
        bucket c hc (inr u) = omega (arith, epoch_unused z e c u)
        bucket c hc (inl u) =
            let h = head_page z p_pos e c in
            let p : programmed (tag_of z e c h.page) ≡ true = sym (ap programmed h.is) ∙ head-programmed z e c u in
            let t = fewer d e pages c h.page h.inside p in
            let own : epoch_of z e c ≡ epoch (tag_of z d c h.page) = epoch-used z e c u ∙ (ap epoch h.is ∙ ap epoch t) in
            omega (arith, page_epoch c h.page hc h.inside (sym (ap programmed t) ∙ p))

  -- ---- one spoiled page

  module _ (bounds : Limits z) (c k : ℕ) (bytes tag : List ℕ) (f : Fits z (program c k bytes tag)) (bad : spoiled tag ≡ true) where
    -- on two chips that show the bucket alike
    same-programmed : (d e : Device) → Lengths z d → Lengths z e → Same z d e c → Same z (apply z d (program c k bytes tag)) (apply z e (program c k bytes tag)) c
    same-programmed d e L M s = record {
      tags-same = λ j hj. page j hj (ℕ_discrete j k);
      bytes_same = rw (bytes_programmed z d L c k bytes tag f, bytes_programmed z e M c k bytes tag f, s.bytes_same);
    }
      where
        page : (j : ℕ) → j < z.p → Dec (j ≡ k) → tag_of z (apply z e (program c k bytes tag)) c j ≡ tag_of z (apply z d (program c k bytes tag)) c j
        page j hj (yes q) = rw (q, tag-programmed z d L c k bytes tag f, tag-programmed z e M c k bytes tag f)
        page j hj (no ne) = rw (tag_other_page z d L c k bytes tag f j ne, tag_other_page z e M c k bytes tag f j ne, s.tags-same j hj)

    module _ (plain : List ℕ) (d : Device) (F : Findable z plain d) (free : blank (tag_of z d c k) ≡ true) (behind : (j : ℕ) → j < k → blank (tag_of z d c j) ≡ false) where
      abbrev after : Device
      after = apply z d (program c k bytes tag)

      pages : AllUnread d after
      pages x j hj = unread z bounds c k bytes tag f bad d free F.lens x j hj

      others : (x : ℕ) → x ≢ c → Same z d after x
      others x ne = same_program z d F.lens c k bytes tag f x ne

      fits_still : (x : ℕ) → bucket_fits z d x ≡ true → bucket_fits z after x ≡ true
      fits_still x fit = go (ℕ_discrete x c)
        where
          go : Dec (x ≡ c) → bucket_fits z after x ≡ true
          go (yes q) = rw q (fits-spoiled z bounds c k bytes tag f bad d free F.lens (rw q at fit) behind)
          go (no ne) = fits-same z bounds.p_low d after x (others x ne) ∙ fit

      -- a chip g like the one that recovery's erases make of d serves, if it shows the spoiled bucket too
      found_with : (g : Device) → Sound z plain g → ((x : ℕ) → x ≢ c → Same z F.swept g x) → (c < body z → Shown z after g c)
          → ((b : ℕ) → disk_bytes z g b ≡ disk_bytes z F.swept b) → Findable z plain after
      found_with g s alike own disk = record {
        lens = lengths_kept z d F.lens (program c k bytes tag) f;
        accepted = accepted_unread d after pages fits_still F.accepted;
        low = omega (arith, top_unread d F.accepted bounds.p_low after pages, F.low);
        swept = g;
        sound = s;
        shown = λ x hx. at x hx (ℕ_discrete x c);
        disk_same = λ b. disk b ∙ (F.disk_same b ∙ sym (disk_programmed z d F.lens c k bytes tag f b));
      }
        where
          other : (x : ℕ) → x ≢ c → Shown z d F.swept x → Shown z after g x
          other x ne (kept n t) = kept (named-same d after pages x ∙ n) (same_trans z (same-sym z (others x ne)) (same_trans z t (alike x ne)))
          other x ne (goes n v) = goes (named-same d after pages x ∙ n) (vacant_same z bounds.p_low F.swept g x (alike x ne) v)
          other x ne (empty v w) = empty (vacant_same z bounds.p_low d after x (others x ne) v) (vacant_same z bounds.p_low F.swept g x (alike x ne) w)

          at : (x : ℕ) → x < body z → Dec (x ≡ c) → Shown z after g x
          at x hx (yes q) = subst (Shown z after g) (sym q) (own (rw q at hx))
          at x hx (no ne) = other x ne (F.shown x hx)

      -- the chip that served before does
      found_still : (c < body z → Shown z after F.swept c) → Findable z plain after
      found_still own = found_with F.swept F.sound (λ x ne. same_refl z F.swept x) own (λ b. refl)

      pub findable_spoiled : Findable z plain (apply z d (program c k bytes tag))
      findable_spoiled = go (dec_lt c (body z))
        where
          g : Device
          g = F.swept

          lens : Lengths z g
          lens = chip-lengths z F.sound.chip

          own : c < body z → Shown z d g c → Findable z plain after
          own hc (goes n v) = found_still (λ h. goes (named-same d after pages c ∙ n) v)
          own hc (empty v w) = found_still (λ h. empty (fits_still c v.0, used-spoiled z bounds c k bytes tag f bad d free F.lens v.0 ∙ v.1) w)
          own hc (kept n s) = found_with (apply z g (program c k bytes tag))
              (sound_spoiled z bounds c k bytes tag f bad g (ap blank (s.tags-same k f.1) ∙ free) hc (λ j hj. ap blank (s.tags-same j (omega (arith, f.1))) ∙ behind j hj) plain F.sound)
              (λ x ne. same_program z g lens c k bytes tag f x ne)
              (λ h. kept (named-same d after pages c ∙ n) (same-programmed d g F.lens lens s))
              (λ b. disk_programmed z g lens c k bytes tag f b)

          go : Dec (c < body z) → Findable z plain after
          go (yes hc) = own hc (F.shown c hc)
          go (no hc) = found_still (λ h. absurd (hc h))

  -- ---- the place of a blank page

  -- bucket and page of a place on the chip, though it may be counted from another bucket
  record Place (c k : ℕ) : Type 0 where
    bucket : ℕ
    page : ℕ
    on_chip : bucket < z.c
    in_bucket : page < z.p
    is : page_index z bucket page ≡ page_index z c k
    no_later : page ≤ k

  blank_inside : (d : Device) → Lengths z d → (c k : ℕ) → blank (tag_of z d c k) ≡ true → page_index z c k < z.c * z.p
  unfolding tag_of
  blank_inside d L c k free =
      let q : length (part d.spare (page_index z c k * 16) 16) ≡ 16 = ap length (blank-true _ free) in
      omega (arith, length_part d.spare (page_index z c k * 16) 16, L.spare_is)

  place_of_lem : 1 ≤ z.p → (c k : ℕ) → page_index z c k < z.c * z.p → Place c k
  unfolding page_index
  place_of_lem p_pos c k h = record {
    bucket = (c * z.p + k) / z.p;
    page = (c * z.p + k) % z.p;
    on_chip = lt_of_mul-lt-mul_right z.p (omega (arith, div-add-mod' (c * z.p + k) z.p));
    in_bucket = mod-lt (c * z.p + k) p_pos;
    is = div-add-mod' (c * z.p + k) z.p;
    no_later = go (dec_lt k ((c * z.p + k) % z.p));
  }
    where
      go : Dec (k < (c * z.p + k) % z.p) → (c * z.p + k) % z.p ≤ k
      go (no h) = omega arith
      go (yes h) =
          let low = mod-lt (c * z.p + k) p_pos in
          let whole = div-add-mod' (c * z.p + k) z.p in
          let q = place_row ((c * z.p + k) / z.p) ((c * z.p + k) % z.p) c k z.p low (omega arith) whole in
          omega (arith, ap (λ (x : ℕ). x * z.p) q)

  -- a store goes by the place alone
  program_place : (d : Device) (c k c' k' : ℕ) (bytes tag : List ℕ) → page_index z c k ≡ page_index z c' k' → apply z d (program c k bytes tag) ≡ apply z d (program c' k' bytes tag)
  unfolding apply
  program_place d c k c' k' bytes tag q = rw q

  tag_place : (d : Device) (c k c' k' : ℕ) → page_index z c k ≡ page_index z c' k' → tag_of z d c k ≡ tag_of z d c' k'
  unfolding tag_of
  tag_place d c k c' k' q = rw q

  -- ---- a cut

  module _ (bounds : Limits z) (plain : List ℕ) where
    spoiled-found : (d : Device) → Findable z plain d → (c k : ℕ) → blank (tag_of z d c k) ≡ true → ((j : ℕ) → j < k → blank (tag_of z d c j) ≡ false) → (t : Tear) → Findable z plain (spoiled_page z t d c k)
    unfolding spoiled_page spoiled kind page_index
    spoiled-found d F c k free behind t = subst (Findable z plain) (program_place d at.bucket at.page c k bytes tag at.is)
        (findable_spoiled bounds at.bucket at.page bytes tag (at.on_chip, at.in_bucket, length_page z t.data_bytes 0, length-spoiled) refl plain d F
        (ap blank (tag_place d at.bucket at.page c k at.is) ∙ free)
        (λ j hj. ap blank (tag_place d at.bucket j c (k - at.page + j) (omega (arith, at.is, at.no_later))) ∙ behind (k - at.page + j) (omega (arith, at.no_later))))
      where
        at : Place c k
        at = place_of_lem bounds.p_low c k (blank_inside d F.lens c k free)

        bytes : List ℕ
        bytes = page_bytes z t.data_bytes 0

        tag : List ℕ
        tag = 0 ∷ take 15 (t.spare_bytes ++ ff 15)

        length-spoiled : length tag ≡ 16
        length-spoiled = simp (length-take, length-append, length-ff 15) (omega arith)

    -- what a cut that spoils no page leaves of these stores is found: so is what any cut leaves
    pub torn-found : (d : Device) (ss : List Store) → Rising z d ss → ((blanked : ℕ → Bool) → Findable z plain (torn z (unspoiling blanked) d ss)) → (t : Tear) → Findable z plain (torn z t d ss)
    unfolding torn Rising
    torn-found d [] r found t = found t.blanked
    torn-found d (erase c ∷ ss) r found t = found t.blanked
    torn-found d (unit u bytes ∷ ss) r found t = found t.blanked
    torn-found d (program c k bytes tag ∷ ss) r found t = go t.spoils
      where
        go : (b : Bool) → Findable z plain (if b then spoiled_page z t d c k else d)
        go true = spoiled-found d (found t.blanked) c k r.0 r.1 t
        go false = found t.blanked

  -- what rises does so after any first part
  pub rising_at : (d : Device) (ss : List Store) → Rising z d ss → (n : ℕ) → Rising z (apply_all z d (take n ss)) (drop n ss)
  unfolding Rising apply_all
  rising_at d ss r zero = r
  rising_at d [] r (suc n) = tt
  rising_at d (program c k bytes tag ∷ ss) r (suc n) = rising_at (apply z d (program c k bytes tag)) ss r.2 n
  rising_at d (erase c ∷ ss) r (suc n) = rising_at (apply z d (erase c)) ss r n
  rising_at d (unit u bytes ∷ ss) r (suc n) = rising_at (apply z d (unit u bytes)) ss r n
