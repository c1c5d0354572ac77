-- Every kind of store keeps what recovery accepts: lengths, page rules and epochs.
use Prim.Native.Nat.{ℕ, suc, ◌+◌, ◌≤◌, ◌<◌}
use mathlib.Core.Path.{◌≡◌, refl, sym, ap, ◌∙◌, subst}
use mathlib.Core.Logic.{◌⊎◌, inl, inr, ◌≢◌}
use mathlib.Core.Bool.{Bool, true, false, true≢false}
use mathlib.Core.List.{List}
use native.Mathlib.Omega.{arith}
use native.Mathlib.Decide.{ℕ_discrete, dec_lt}
use Rattle.model.specs.declared.Sizes.{Sizes}
use Rattle.model.specs.Sizes.{Device, body}
use Rattle.model.specs.Stores.{program, erase, unit, apply, tag_of}
use Rattle.model.specs.Spare.{blank, spoiled, programmed, write_kind, kind, ordinal, pages, epoch, back, offset, extent}
use Rattle.model.specs.Image.{head_tag, page_fits, bucket_fits, used, epoch_of}
use Rattle.model.proofs.Safe.{Chip}
use Rattle.model.proofs.Tags.{blank-ff, programmed-ff, blank_unprogrammed, programmed_real}
use Rattle.model.proofs.Frames.{Lengths, lengths_of, lengths_test, Fits, lengths_kept, tag-programmed, tag_other_page, tag_erased}
use Rattle.model.proofs.Rules.{Fields, Goes, begins, goes_on_lem, ruled_test, unruled_test, fields_real}
use Rattle.model.proofs.Formed.{Formed, formed_of, formed_test, fits_test, page_ruled, used_before, blank-after, used-some, epoch-used, epoch_unused}
use Rattle.model.proofs.Show.{epoch_by, Same, used-same, epoch_of-same, fits-same, same_program, same_erase, same_unit}
use Rattle.model.proofs.Heads.{Blank, head-blank, head_first, head_later, head_page, head-programmed}

module _ (z : Sizes) where
  -- ---- the three parts

  pub chip-lengths : {d : Device} → Chip z d → Lengths z d
  chip-lengths {d} h = lengths_of z d h.lens

  pub chip_formed : {d : Device} → Chip z d → Formed z d
  chip_formed {d} h = formed_of z d h.formed

  pub chip-epoch : {d : Device} → Chip z d → (c : ℕ) → c < body z → epoch_of z d c < 4294967296
  chip-epoch {d} h c hc = h.epochs c hc

  pub chip_of : (d : Device) → Lengths z d → Formed z d → ((c : ℕ) → c < body z → epoch_of z d c < 4294967296) → Chip z d
  chip_of d lens formed low = record {
    lens = lengths_test z d lens;
    formed = formed_test z d formed;
    epochs = low;
  }

  -- ---- a change of one bucket

  -- what bucket c owes after a store that touched it
  pub record Touched (d e : Device) (c : ℕ) : Type 0 where
    pub fits : bucket_fits z e c ≡ true
    pub differs : used z e c ≡ true → (c' : ℕ) → c' < body z → c' ≢ c → used z d c' ≡ true → epoch_of z d c' ≢ epoch_of z e c
    pub low : epoch_of z e c < 4294967296

  -- a page begins a log of a Write bucket, or goes on with the log of the page before it
  pub data Follows (before tag : List ℕ) : Type 0 where
    starts : ordinal tag ≡ 0 → kind tag ≡ write_kind → Follows before tag
    carries_on : programmed before ≡ true → ordinal tag ≡ ordinal before + 1 → ordinal tag < pages tag → pages tag ≡ pages before → offset tag ≡ offset before → extent tag ≡ extent before → Follows before tag

  -- tag may stand in page k of c: with a new epoch in a first page, else with the head's fields
  pub data Next (d : Device) (c k : ℕ) (tag : List ℕ) : Type 0 where
    first_page : k ≡ 0 → ordinal tag ≡ 0 → epoch tag < 4294967296 → ((c' : ℕ) → c' < body z → c' ≢ c → epoch_of z d c' ≢ epoch tag) → Next d c k tag
    later_page : (j : ℕ) → k ≡ suc j → blank (tag_of z d c j) ≡ false → used z d c ≡ true → kind tag ≡ kind (head_tag z d c) → epoch tag ≡ epoch (head_tag z d c) → back tag ≡ back (head_tag z d c)
        → Follows (tag_of z d c j) tag → Next d c k tag

  module _ (p_pos : 1 ≤ z.p) where
    chip_change : (d e : Device) (c : ℕ) → Chip z d → Lengths z e → ((c' : ℕ) → c' ≢ c → Same z d e c') → (c < body z → Touched d e c) → Chip z e
    chip_change d e c h lens alike touched = chip_of e lens
        (record {
          buckets_fit = λ c' hc. fit c' hc (ℕ_discrete c' c);
          epochs_differ = λ a b ha hb ua ub q. differ a b ha hb ua ub q (ℕ_discrete a c) (ℕ_discrete b c);
        })
        (λ c' hc. bound c' hc (ℕ_discrete c' c))
      where
        formed : Formed z d
        formed = chip_formed h

        still : (c' : ℕ) → c' ≢ c → used z e c' ≡ true → used z d c' ≡ true
        still c' ne u = sym (used-same z p_pos d e c' (alike c' ne)) ∙ u

        age : (c' : ℕ) → c' ≢ c → epoch_of z e c' ≡ epoch_of z d c'
        age c' ne = epoch_of-same z p_pos d e c' (alike c' ne)

        fit : (c' : ℕ) → c' < body z → Dec (c' ≡ c) → bucket_fits z e c' ≡ true
        fit c' hc (yes q) = rw q (touched (rw q at hc)).fits
        fit c' hc (no ne) = fits-same z p_pos d e c' (alike c' ne) ∙ formed.buckets_fit c' hc

        differ : (a b : ℕ) → a < body z → b < body z → used z e a ≡ true → used z e b ≡ true → epoch_of z e a ≡ epoch_of z e b → Dec (a ≡ c) → Dec (b ≡ c) → a ≡ b
        differ a b ha hb ua ub q (yes i) (yes j) = i ∙ sym j
        differ a b ha hb ua ub q (yes i) (no j) =
            absurd ((touched (rw i at ha)).differs (rw i at ua) b hb j (still b j ub) (sym (age b j) ∙ sym q ∙ ap (epoch_of z e) i))
        differ a b ha hb ua ub q (no i) (yes j) =
            absurd ((touched (rw j at hb)).differs (rw j at ub) a ha i (still a i ua) (sym (age a i) ∙ q ∙ ap (epoch_of z e) j))
        differ a b ha hb ua ub q (no i) (no j) = formed.epochs_differ a b ha hb (still a i ua) (still b j ub) (sym (age a i) ∙ q ∙ age b j)

        bound : (c' : ℕ) → c' < body z → Dec (c' ≡ c) → epoch_of z e c' < 4294967296
        bound c' hc (yes q) = rw q (touched (rw q at hc)).low
        bound c' hc (no ne) = rw (age c' ne) (chip-epoch h c' hc)

    -- ---- erase a bucket, write a disk unit

    pub blank-fits : (d : Device) (c : ℕ) → Blank z d c → bucket_fits z d c ≡ true
    blank-fits d c b = fits_test z d c (λ k h q. ap blank (b (suc k) h) ∙ blank-ff) (λ k h. unruled_test z d c k (ap programmed (b k h) ∙ programmed-ff))

    pub erased_unused : (d : Device) → Lengths z d → (c : ℕ) → c < z.c → used z (apply z d (erase c)) c ≡ false
    unfolding used
    erased_unused d lens c hc = rw (head-blank z p_pos (apply z d (erase c)) c (tag_erased z d lens c hc)) programmed-ff

    pub chip_erase : (d : Device) (c : ℕ) → c < z.c → Chip z d → Chip z (apply z d (erase c))
    chip_erase d c hc h = chip_change d (apply z d (erase c)) c h (lengths_kept z d (chip-lengths h) (erase c) hc)
        (λ c' ne. same_erase z d (chip-lengths h) c hc c' ne)
        (λ q. record {
          fits = blank-fits (apply z d (erase c)) c (tag_erased z d (chip-lengths h) c hc);
          differs = λ u. absurd (true≢false (sym u ∙ none));
          low = rw (epoch_unused z (apply z d (erase c)) c none) (omega arith);
        })
      where
        none : used z (apply z d (erase c)) c ≡ false
        none = erased_unused d (chip-lengths h) c hc

    pub chip_unit : (d : Device) (u : ℕ) (bytes : List ℕ) → Fits z (unit u bytes) → Chip z d → Chip z (apply z d (unit u bytes))
    chip_unit d u bytes f h =
        chip_change d (apply z d (unit u bytes)) (body z) h (lengths_kept z d (chip-lengths h) (unit u bytes) f) (λ c' ne. same_unit z d u bytes c')
        (λ q. absurd (omega arith))

    -- ---- program a blank page

    module _ (d : Device) (lens : Lengths z d) (c k : ℕ) (bytes tag : List ℕ) (f : Fits z (program c k bytes tag)) (fit : bucket_fits z d c ≡ true) (free : blank (tag_of z d c k) ≡ true) where
      abbrev after : Device
      after = apply z d (program c k bytes tag)

      other : (j : ℕ) → j ≢ k → tag_of z after c j ≡ tag_of z d c j
      other j ne = tag_other_page z d lens c k bytes tag f j ne

      -- the programmed pages are those before it
      pub page_before : (j : ℕ) → j < z.p → programmed (tag_of z d c j) ≡ true → j < k
      page_before j hj p = go (dec_lt j k)
        where
          go : Dec (j < k) → j < k
          go (yes q) = q
          go (no q) = absurd (true≢false (sym p ∙ blank_unprogrammed (tag_of z d c j) (blank-after z d c fit k j (omega arith) hj free)))

      -- a bucket with a page keeps its head
      pub head_stays : used z d c ≡ true → head_tag z after c ≡ head_tag z d c
      head_stays u =
          let p = head_page z p_pos d c in
          let q : programmed (tag_of z d c p.page) ≡ true = sym (ap programmed p.is) ∙ head-programmed z d c u in
          let b = page_before p.page p.inside q in
          head_later z d after c p.page p.inside (programmed_real (tag_of z d c p.page) q).1 (λ i hi. other i (λ e. omega arith))

      earlier_fits : (j : ℕ) → j < k → page_fits z after c j ≡ true
      earlier_fits j hj = go (programmed (tag_of z d c j)) refl
        where
          hp : j < z.p
          hp = omega (arith, f.1)

          same : (i : ℕ) → i ≤ j → tag_of z after c i ≡ tag_of z d c i
          same i hi = other i (λ q. omega arith)

          goes : Goes z d c j → Goes z after c j
          goes (begins o w) = begins (rw (same j (omega arith)) o) (pick w)
            where
              pick : (kind (tag_of z d c j) ≡ write_kind) ⊎ ((i : ℕ) → i < j → spoiled (tag_of z d c i) ≡ true) → (kind (tag_of z after c j) ≡ write_kind) ⊎ ((i : ℕ) → i < j → spoiled (tag_of z after c i) ≡ true)
              pick (inl q) = inl (rw (same j (omega arith)) q)
              pick (inr q) = inr (λ i hi. ap spoiled (same i (omega arith)) ∙ q i hi)
          goes (goes_on_lem i e p o u n g l) =
              let s = same j (omega arith) in
              let t = same i (omega arith) in
              goes_on_lem i e (rw t p) (rw (s, t) o) (rw s u) (rw (s, t) n) (rw (s, t) g) (rw (s, t) l)

          go : (t : Bool) → programmed (tag_of z d c j) ≡ t → page_fits z after c j ≡ true
          go false p = unruled_test z after c j (ap programmed (same j (omega arith)) ∙ p)
          go true p =
              let r = page_ruled z d c fit j hp p in
              let s = same j (omega arith) in
              let heads = head_stays (used-some z d c fit j hp p) in
              ruled_test z after c j (record {
                fields = subst (Fields z) (sym s) r.fields;
                kind-same = rw (s, heads) r.kind-same;
                epoch-same = rw (s, heads) r.epoch-same;
                back-same = rw (s, heads) r.back-same;
                goes = goes r.goes;
              })

      later_blank : (j : ℕ) → k < j → j < z.p → blank (tag_of z after c j) ≡ true
      later_blank j hj hp = ap blank (other j (λ q. omega arith)) ∙ blank-after z d c fit k j (omega arith) hp free

      -- the bucket, from the page itself and those before it
      pub fits_after : page_fits z after c k ≡ true → blank tag ≡ false → ((j : ℕ) → j < k → blank (tag_of z d c j) ≡ false) → bucket_fits z after c ≡ true
      fits_after here real behind = fits_test z after c (λ j hj b. next j hj b (dec_lt j k) (dec_lt k j)) (λ j hj. pick j hj (dec_lt j k) (dec_lt k j))
        where
          next : (j : ℕ) → suc j < z.p → blank (tag_of z after c j) ≡ true → Dec (j < k) → Dec (k < j) → blank (tag_of z after c (suc j)) ≡ true
          next j hj b (yes q) r = absurd (true≢false (sym b ∙ (ap blank (other j (λ e. omega arith)) ∙ behind j q)))
          next j hj b (no q) (yes r) = later_blank (suc j) (omega arith) hj
          next j hj b (no q) (no r) =
              let e : j ≡ k = omega arith in
              absurd (true≢false (sym b ∙ (ap (λ (i : ℕ). blank (tag_of z after c i)) e ∙ (ap blank (tag-programmed z d lens c k bytes tag f) ∙ real))))

          pick : (j : ℕ) → j < z.p → Dec (j < k) → Dec (k < j) → page_fits z after c j ≡ true
          pick j hj (yes a) b = earlier_fits j a
          pick j hj (no a) (yes b) = unruled_test z after c j (blank_unprogrammed (tag_of z after c j) (later_blank j b hj))
          pick j hj (no a) (no b) = subst (λ (i : ℕ). page_fits z after c i ≡ true) (omega arith) here

    module _ (d : Device) (c k : ℕ) (bytes tag : List ℕ) (f : Fits z (program c k bytes tag)) (hc : c < body z) (h : Chip z d) (free : blank (tag_of z d c k) ≡ true) where
      fit : bucket_fits z d c ≡ true
      fit = (chip_formed h).buckets_fit c hc

      pub head_kept : used z d c ≡ true → head_tag z (apply z d (program c k bytes tag)) c ≡ head_tag z d c
      head_kept u = head_stays d (chip-lengths h) c k bytes tag f fit free u

      -- the whole, from the page itself, those before it, and the bucket's epoch
      pub settle : let e = apply z d (program c k bytes tag) in
          page_fits z e c k ≡ true → blank tag ≡ false → ((j : ℕ) → j < k → blank (tag_of z d c j) ≡ false)
          → (used z e c ≡ true → (c' : ℕ) → c' < body z → c' ≢ c → used z d c' ≡ true → epoch_of z d c' ≢ epoch_of z e c)
          → epoch_of z e c < 4294967296 → Chip z e
      settle here real behind differs low =
          let lens = chip-lengths h in
          chip_change d (apply z d (program c k bytes tag)) c h (lengths_kept z d lens (program c k bytes tag) f) (λ c' ne. same_program z d lens c k bytes tag f c' ne)
          (λ q. record { fits = fits_after d lens c k bytes tag f fit free here real behind; differs = differs; low = low })

    pub chip_program : (d : Device) (c k : ℕ) (bytes tag : List ℕ) → Fits z (program c k bytes tag) → c < body z → Chip z d → blank (tag_of z d c k) ≡ true → Fields z tag
        → Next d c k tag
        → Chip z (apply z d (program c k bytes tag))
    chip_program d c k bytes tag f hc h free fields (first_page k0 o low new) = settle d c k bytes tag f hc h free
        (ruled_test z e c k (record {
          fields = subst (Fields z) (sym here) fields;
          kind-same = ap kind (here ∙ sym heads);
          epoch-same = ap epoch (here ∙ sym heads);
          back-same = ap back (here ∙ sym heads);
          goes = begins (ap ordinal here ∙ o) (inr (λ j q. absurd (omega arith)));
        }))
        real (λ j q. absurd (omega arith))
        (λ u c' hc' ne u' q. new c' hc' ne (q ∙ age u))
        (bound (used z e c) refl)
      where
        e : Device
        e = apply z d (program c k bytes tag)

        here : tag_of z e c k ≡ tag
        here = tag-programmed z d (chip-lengths h) c k bytes tag f

        real : blank tag ≡ false
        real = (programmed_real tag (fields_real z tag fields)).0

        heads : head_tag z e c ≡ tag
        heads =
            let t : tag_of z e c 0 ≡ tag = subst (λ (i : ℕ). tag_of z e c i ≡ tag) k0 here in
            head_first z e c (ap spoiled t ∙ (programmed_real tag (fields_real z tag fields)).1) ∙ t

        age : used z e c ≡ true → epoch_of z e c ≡ epoch tag
        age u = epoch-used z e c u ∙ ap epoch heads

        bound : (t : Bool) → used z e c ≡ t → epoch_of z e c < 4294967296
        bound true u = rw (age u) low
        bound false u = rw (epoch_unused z e c u) (omega arith)
    chip_program d c k bytes tag f hc h free fields (later_page j kj behind u kind_is epoch_is back_is follows) = settle d c k bytes tag f hc h free
        (ruled_test z e c k (record {
          fields = subst (Fields z) (sym here) fields;
          kind-same = rw (here, heads) kind_is;
          epoch-same = rw (here, heads) epoch_is;
          back-same = rw (here, heads) back_is;
          goes = goes follows;
        }))
        (programmed_real tag (fields_real z tag fields)).0
        (λ i q. used_before z d c ((chip_formed h).buckets_fit c hc) i j (omega arith) (omega (arith, f.1)) behind)
        (λ v c' hc' ne u' q. ne ((chip_formed h).epochs_differ c' c hc' hc u' u (q ∙ same_age)))
        (rw same_age (chip-epoch h c hc))
      where
        e : Device
        e = apply z d (program c k bytes tag)

        here : tag_of z e c k ≡ tag
        here = tag-programmed z d (chip-lengths h) c k bytes tag f

        before : tag_of z e c j ≡ tag_of z d c j
        before = tag_other_page z d (chip-lengths h) c k bytes tag f j (λ q. omega arith)

        heads : head_tag z e c ≡ head_tag z d c
        heads = head_kept d c k bytes tag f hc h free u

        same_age : epoch_of z e c ≡ epoch_of z d c
        same_age = epoch_by z d e c heads

        goes : Follows (tag_of z d c j) tag → Goes z e c k
        goes (starts o w) = begins (ap ordinal here ∙ o) (inl (ap kind here ∙ w))
        goes (carries_on p o r n g l) = goes_on_lem j kj (rw before p) (rw (here, before) o) (rw here r) (rw (here, before) n) (rw (here, before) g) (rw (here, before) l)
