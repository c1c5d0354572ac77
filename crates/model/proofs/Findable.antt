-- What recovery finds: an image that it accepts, and of which its erases make a chip that has all that is confirmed.
use Prim.Native.Nat.{ℕ, zero, suc, ◌*◌, ◌≤◌, ◌<◌}
use mathlib.Core.Path.{◌≡◌, refl, sym, ap, ◌∙◌, subst}
use mathlib.Core.Logic.{◌⊎◌, inl, inr, ◌≢◌}
use mathlib.Core.Bool.{Bool, true, false, not, true≢false}
use mathlib.Core.List.{List}
use native.Mathlib.Omega.{arith}
use native.Mathlib.Decide.{ℕ_discrete}
use Rattle.std.specs.Prelude.{if◌then◌else◌}
use Rattle.lists.specs.Lists.{ff}
use Rattle.lists.proofs.Tests.{true_or_false, or_left, or_second, and-true, every_more, every-none}
use Rattle.lists.proofs.Rows.{below_all}
use Rattle.lists.proofs.Distinct.{differ_distinct}
use Rattle.model.specs.declared.Sizes.{Sizes}
use Rattle.model.specs.Sizes.{Device, body}
use Rattle.model.specs.Stores.{tag_of, disk_bytes}
use Rattle.model.specs.Spare.{programmed, kind, epoch, back}
use Rattle.model.specs.Image.{shares, bucket_fits, used, epoch_of}
use Rattle.model.specs.Ledger.{entry_fits, entries_fit, named, first_of, first_tag, loose_fits, found_fits, occupied, first_epoch, recoverable}
use Rattle.model.specs.State.{top_epoch}
use Rattle.model.proofs.Tags.{programmed-ff}
use Rattle.model.proofs.Safe.{Sound}
use Rattle.model.proofs.Frames.{Lengths}
use Rattle.model.proofs.Heads.{Vacant}
use Rattle.model.proofs.Show.{Same, same_refl, same-sym, same_trans, fits-same}
use Rattle.model.proofs.Rules.{Fields, fields_test, shares_test}
use Rattle.model.proofs.Formed.{Formed, page_fields, used-some, kind_shared, epoch_shared, back_shared, epoch-used}
use Rattle.model.proofs.FormedKept.{chip_formed}
use Rattle.model.proofs.BodyAlike.{vacant_same}

module _ (z : Sizes) where
  -- the programmed pages of a bucket fit, and share state, epoch and back-end bucket
  pub record Uniform (d : Device) (c : ℕ) : Type 0 where
    pub fields : (k : ℕ) → k < z.p → programmed (tag_of z d c k) ≡ true → Fields z (tag_of z d c k)
    pub alike : (j k : ℕ) → j < z.p → k < z.p → programmed (tag_of z d c j) ≡ true → programmed (tag_of z d c k) ≡ true
        → (kind (tag_of z d c j) ≡ kind (tag_of z d c k)) × (epoch (tag_of z d c j) ≡ epoch (tag_of z d c k)) × (back (tag_of z d c j) ≡ back (tag_of z d c k))

  -- no two buckets share an epoch
  abbrev pub Ages : Device → Type 0
  Ages d = (a b j k : ℕ) → a < body z → b < body z → j < z.p → k < z.p → programmed (tag_of z d a j) ≡ true → programmed (tag_of z d b k) ≡ true
      → epoch (tag_of z d a j) ≡ epoch (tag_of z d b k) → a ≡ b

  -- recovery's number 4, page by page
  pub record Accepted (d : Device) : Type 0 where
    pub entries : (i : ℕ) → i < 2 * z.p → entry_fits z d i ≡ true
    pub fits : (c : ℕ) → c < body z → named z d c ≡ false → bucket_fits z d c ≡ true
    pub loose : (c : ℕ) → c < body z → named z d c ≡ true → Uniform d c
    pub ages : Ages d

  -- ---- the first programmed page

  module _ (d : Device) (c : ℕ) where
    -- it is a page
    first_page : (n : ℕ) → programmed (first_of z d c n) ≡ true → (k : ℕ) × (k < n) × (first_of z d c n ≡ tag_of z d c k) × (programmed (tag_of z d c k) ≡ true)
    unfolding first_of
    first_page zero h = absurd (true≢false (sym h ∙ programmed-ff))
    first_page (suc n) h = go (programmed (first_of z d c n)) refl h (λ q. first_page n q)
      where
        go : (t : Bool) → programmed (first_of z d c n) ≡ t → programmed (if t then first_of z d c n else tag_of z d c n) ≡ true
            → (programmed (first_of z d c n) ≡ true → (k : ℕ) × (k < n) × (first_of z d c n ≡ tag_of z d c k) × (programmed (tag_of z d c k) ≡ true))
            → (k : ℕ) × (k < suc n) × ((if t then first_of z d c n else tag_of z d c n) ≡ tag_of z d c k) × (programmed (tag_of z d c k) ≡ true)
        go true q r more = let m = more q in (m.0, omega (arith, m.1), m.2, m.3)
        go false q r more = (n, omega arith, refl, r)

    -- where a page is programmed, one is the first
    first_some : (n k : ℕ) → k < n → programmed (tag_of z d c k) ≡ true → programmed (first_of z d c n) ≡ true
    unfolding first_of
    first_some zero k h p = absurd (omega arith)
    first_some (suc n) k h p = go (programmed (first_of z d c n)) refl (ℕ_discrete k n) (λ q. first_some n k q p)
      where
        go : (t : Bool) → programmed (first_of z d c n) ≡ t → Dec (k ≡ n) → (k < n → programmed (first_of z d c n) ≡ true) → programmed (if t then first_of z d c n else tag_of z d c n) ≡ true
        go true q r more = q
        go false q (yes r) more = rw (← r) p
        go false q (no r) more = absurd (true≢false (sym (more (omega arith)) ∙ q))

  -- ---- the test

  module _ (d : Device) (a : Accepted d) where
    loose_page : (c k : ℕ) → c < body z → named z d c ≡ true → k < z.p → loose_fits z d c k ≡ true
    unfolding loose_fits first_tag
    loose_page c k hc n hk = go (true_or_false (programmed (tag_of z d c k)))
      where
        go : (programmed (tag_of z d c k) ≡ true) ⊎ (programmed (tag_of z d c k) ≡ false) → loose_fits z d c k ≡ true
        go (inr q) = or_left (not (programmed (tag_of z d c k))) _ (ap not q)
        go (inl p) =
            let m = first_page d c z.p (first_some d c z.p k hk p) in
            let u = a.loose c hc n in
            let q = u.alike k m.0 hk m.1 p m.3 in
            or_second (not (programmed (tag_of z d c k))) _ (and-true (fields_test z (tag_of z d c k) (u.fields k hk p))
            (subst (λ (x : List ℕ). shares x (tag_of z d c k) ≡ true) (sym m.2) (shares_test _ _ q.0 q.1 q.2)))

    found_at : (c : ℕ) → c < body z → found_fits z d c ≡ true
    unfolding found_fits
    found_at c hc = go (true_or_false (named z d c))
      where
        go : (named z d c ≡ true) ⊎ (named z d c ≡ false) → found_fits z d c ≡ true
        go (inl n) = rw n (below_all z.p (loose_fits z d c) (λ k hk. loose_page c k hc n hk))
        go (inr n) = rw n (a.fits c hc n)

    epochs_apart : (x y : ℕ) → x < body z → y < body z → occupied z d x ≡ true → occupied z d y ≡ true → first_epoch z d x ≡ first_epoch z d y → x ≡ y
    unfolding occupied first_epoch first_tag
    epochs_apart x y hx hy ox oy q =
        let m = first_page d x z.p ox in
        let n = first_page d y z.p oy in
        a.ages x y m.0 n.0 hx hy m.1 n.1 m.3 n.3 (sym (ap epoch m.2) ∙ (q ∙ ap epoch n.2))

    pub accepted_test : recoverable z d ≡ true
    unfolding recoverable entries_fit
    accepted_test = every_more _ _ (below_all (body z) (found_fits z d) found_at)
        (every_more _ _ (differ_distinct (occupied z d) (first_epoch z d) (body z) epochs_apart)
        (every_more _ _ (below_all (2 * z.p) (entry_fits z d) a.entries) every-none))

  -- ---- fewer programmed pages

  -- those of the bucket c in e are d's
  abbrev pub Fewer : (d e : Device) → ℕ → Type 0
  Fewer d e c = (k : ℕ) → k < z.p → programmed (tag_of z e c k) ≡ true → tag_of z e c k ≡ tag_of z d c k

  same_fewer : (d e : Device) (c : ℕ) → Same z e d c → Fewer d e c
  same_fewer d e c s k hk p = sym (s.tags-same k hk)

  blanked_fewer : (d e : Device) (c : ℕ) → ((k : ℕ) → k < z.p → (tag_of z e c k ≡ tag_of z d c k) ⊎ (tag_of z e c k ≡ ff 16)) → Fewer d e c
  blanked_fewer d e c pages k hk p = go (pages k hk)
    where
      go : (tag_of z e c k ≡ tag_of z d c k) ⊎ (tag_of z e c k ≡ ff 16) → tag_of z e c k ≡ tag_of z d c k
      go (inl t) = t
      go (inr t) = absurd (true≢false (sym p ∙ (ap programmed t ∙ programmed-ff)))

  pub uniform_fewer : (d e : Device) (c : ℕ) → Fewer d e c → Uniform d c → Uniform e c
  uniform_fewer d e c was u = record {
    fields = λ k hk p. let t = was k hk p in subst (Fields z) (sym t) (u.fields k hk (sym (ap programmed t) ∙ p));
    alike = λ j k hj hk pj pk. let s = was j hj pj in let t = was k hk pk in let r = u.alike j k hj hk (sym (ap programmed s) ∙ pj) (sym (ap programmed t) ∙ pk) in (
      ap kind s ∙ (r.0 ∙ sym (ap kind t)),
      ap epoch s ∙ (r.1 ∙ sym (ap epoch t)),
      ap back s ∙ (r.2 ∙ sym (ap back t)),
    );
  }

  pub ages_fewer : (d e : Device) → ((c : ℕ) → c < body z → Fewer d e c) → Ages d → Ages e
  ages_fewer d e was ages a b j k ha hb hj hk pa pb q =
      let t = was a ha j hj pa in
      let u = was b hb k hk pb in
      ages a b j k ha hb hj hk (sym (ap programmed t) ∙ pa) (sym (ap programmed u) ∙ pb) (sym (ap epoch t) ∙ (q ∙ ap epoch u))

  -- ---- what recovery makes of the chip

  -- the bucket c of d, and of a chip like the one that recovery's erases make
  pub data Shown (d g : Device) (c : ℕ) : Type 0 where
    kept : named z d c ≡ false → Same z d g c → Shown d g c
    goes : named z d c ≡ true → Vacant z g c → Shown d g c
    empty : Vacant z d c → Vacant z g c → Shown d g c

  pub record Findable (plain : List ℕ) (d : Device) : Type 0 where
    pub lens : Lengths z d
    pub accepted : Accepted d
    pub low : top_epoch z d < 4294967296
    pub swept : Device
    pub sound : Sound z plain swept
    pub shown : (c : ℕ) → c < body z → Shown d swept c
    pub disk_same : (b : ℕ) → disk_bytes z swept b ≡ disk_bytes z d b

  -- ---- a chip where no bucket with a page is named

  -- a programmed page has its bucket's epoch
  pub epoch_own : (d : Device) (c : ℕ) → bucket_fits z d c ≡ true → (k : ℕ) → k < z.p → programmed (tag_of z d c k) ≡ true → epoch (tag_of z d c k) ≡ epoch_of z d c
  epoch_own d c fit k hk p = epoch_shared z d c fit k hk p ∙ sym (epoch-used z d c (used-some z d c fit k hk p))

  formed_ages : (d : Device) → Formed z d → Ages d
  formed_ages d F a b j k ha hb hj hk pa pb q =
      let fa = F.buckets_fit a ha in
      let fb = F.buckets_fit b hb in
      F.epochs_differ a b ha hb (used-some z d a fa j hj pa) (used-some z d b fb k hk pb) (sym (epoch_own d a fa j hj pa) ∙ (q ∙ epoch_own d b fb k hk pb))

  formed_uniform : (d : Device) → Formed z d → (c : ℕ) → c < body z → Uniform d c
  formed_uniform d F c hc =
      let fit = F.buckets_fit c hc in
      record {
        fields = page_fields z d c fit;
        alike = λ j k hj hk pj pk. (
          kind_shared z d c fit j hj pj ∙ sym (kind_shared z d c fit k hk pk),
          epoch_shared z d c fit j hj pj ∙ sym (epoch_shared z d c fit k hk pk),
          back_shared z d c fit j hj pj ∙ sym (back_shared z d c fit k hk pk),
        );
      }

  pub ordinary : (plain : List ℕ) (d : Device) → Lengths z d → Sound z plain d → ((i : ℕ) → i < 2 * z.p → entry_fits z d i ≡ true)
      → ((c : ℕ) → c < body z → used z d c ≡ true → named z d c ≡ false) → top_epoch z d < 4294967296 → Findable plain d
  ordinary plain d L s entries unnamed low = record {
    lens = L;
    accepted = record {
      entries = entries;
      fits = λ c hc n. F.buckets_fit c hc;
      loose = λ c hc n. formed_uniform d F c hc;
      ages = formed_ages d F;
    };
    low = low;
    swept = d;
    sound = s;
    shown = λ c hc. at c hc (true_or_false (named z d c)) (true_or_false (used z d c));
    disk_same = λ b. refl;
  }
    where
      F : Formed z d
      F = chip_formed z s.chip

      at : (c : ℕ) → c < body z → (named z d c ≡ true) ⊎ (named z d c ≡ false) → (used z d c ≡ true) ⊎ (used z d c ≡ false) → Shown d d c
      at c hc (inr n) u = kept n (same_refl z d c)
      at c hc (inl n) (inl u) = absurd (true≢false (sym n ∙ unnamed c hc u))
      at c hc (inl n) (inr u) = let v : Vacant z d c = (F.buckets_fit c hc, u) in empty v v

  module _ (p_pos : 1 ≤ z.p) where
    -- ---- the bucket h, which may go, is named

    pub noted : (plain : List ℕ) (d : Device) → Formed z d → ((c : ℕ) → c < body z → used z d c ≡ true → named z d c ≡ false) → (h : ℕ)
        → (g : Device) → Sound z plain g → ((c : ℕ) → c < body z → c ≢ h → Same z d g c) → Vacant z g h
        → (e : Device) → Lengths z e → ((c : ℕ) → c < body z → Same z e d c) → ((i : ℕ) → i < 2 * z.p → entry_fits z e i ≡ true)
        → named z e h ≡ true → ((c : ℕ) → c < body z → c ≢ h → named z e c ≡ true → named z d c ≡ true) → top_epoch z e < 4294967296
        → ((b : ℕ) → disk_bytes z g b ≡ disk_bytes z e b) → Findable plain e
    noted plain d F unnamed h g s g-same g-vacant e L same entries name old low disk = record {
      lens = L;
      accepted = record {
        entries = entries;
        fits = λ c hc n. fit c hc;
        loose = λ c hc n. uniform_fewer d e c (same_fewer d e c (same c hc)) (formed_uniform d F c hc);
        ages = ages_fewer d e (λ c hc. same_fewer d e c (same c hc)) (formed_ages d F);
      };
      low = low;
      swept = g;
      sound = s;
      shown = λ c hc. at c hc (ℕ_discrete c h) (true_or_false (named z e c)) (true_or_false (used z d c));
      disk_same = disk;
    }
      where
        fit : (c : ℕ) → c < body z → bucket_fits z e c ≡ true
        fit c hc = sym (fits-same z p_pos e d c (same c hc)) ∙ F.buckets_fit c hc

        at : (c : ℕ) → c < body z → Dec (c ≡ h) → (named z e c ≡ true) ⊎ (named z e c ≡ false) → (used z d c ≡ true) ⊎ (used z d c ≡ false) → Shown e g c
        at c hc (yes q) n u = subst (λ (x : ℕ). Shown e g x) (sym q) (goes name g-vacant)
        at c hc (no ne) (inr n) u = kept n (same_trans z (same c hc) (g-same c hc ne))
        at c hc (no ne) (inl n) (inl u) = absurd (true≢false (sym (old c hc ne n) ∙ unnamed c hc u))
        at c hc (no ne) (inl n) (inr u) =
            let v : Vacant z d c = (F.buckets_fit c hc, u) in
            empty (vacant_same z p_pos d e c (same-sym z (same c hc)) v) (vacant_same z p_pos d g c (g-same c hc ne) v)

    -- ---- a cut in an erase

    -- e is d, but some pages of the named bucket x are blank
    pub torn-body : (plain : List ℕ) (d e : Device) (x : ℕ) → Findable plain d → named z d x ≡ true → Lengths z e → ((c : ℕ) → c < body z → c ≢ x → Same z e d c)
        → ((k : ℕ) → k < z.p → (tag_of z e x k ≡ tag_of z d x k) ⊎ (tag_of z e x k ≡ ff 16)) → ((c : ℕ) → c < body z → named z e c ≡ named z d c)
        → ((i : ℕ) → i < 2 * z.p → entry_fits z e i ≡ true) → top_epoch z e < 4294967296 → ((b : ℕ) → disk_bytes z d b ≡ disk_bytes z e b) → Findable plain e
    torn-body plain d e x f nx L same own names entries low disk = record {
      lens = L;
      accepted = record {
        entries = entries;
        fits = λ c hc n. fit c hc n (ℕ_discrete c x);
        loose = λ c hc n. uniform_fewer d e c (was c hc) (f.accepted.loose c hc (sym (names c hc) ∙ n));
        ages = ages_fewer d e was f.accepted.ages;
      };
      low = low;
      swept = f.swept;
      sound = f.sound;
      shown = λ c hc. at c hc (ℕ_discrete c x) (f.shown c hc);
      disk_same = λ b. f.disk_same b ∙ disk b;
    }
      where
        was : (c : ℕ) → c < body z → Fewer d e c
        was c hc = go (ℕ_discrete c x)
          where
            go : Dec (c ≡ x) → Fewer d e c
            go (yes q) = subst (Fewer d e) (sym q) (blanked_fewer d e x own)
            go (no ne) = same_fewer d e c (same c hc ne)

        fit : (c : ℕ) → c < body z → named z e c ≡ false → Dec (c ≡ x) → bucket_fits z e c ≡ true
        fit c hc n (yes q) = absurd (true≢false (sym (names c hc ∙ rw q nx) ∙ n))
        fit c hc n (no ne) = sym (fits-same z p_pos e d c (same c hc ne)) ∙ f.accepted.fits c hc (sym (names c hc) ∙ n)

        at : (c : ℕ) → c < body z → Dec (c ≡ x) → Shown d f.swept c → Shown e f.swept c
        at c hc (yes q) (kept n s) = absurd (true≢false (sym (rw q nx) ∙ n))
        at c hc (yes q) (goes n v) = goes (names c hc ∙ n) v
        at c hc (yes q) (empty v v') = goes (names c hc ∙ rw q nx) v'
        at c hc (no ne) (kept n s) = kept (names c hc ∙ n) (same_trans z (same c hc ne) s)
        at c hc (no ne) (goes n v) = goes (names c hc ∙ n) v
        at c hc (no ne) (empty v v') = empty (vacant_same z p_pos d e c (same-sym z (same c hc ne)) v) v'

    -- e is d with fewer entries: no bucket that they named has a programmed page
    pub torn_ledger : (plain : List ℕ) (d e : Device) → Findable plain d → Lengths z e → ((c : ℕ) → c < body z → Same z e d c) → ((i : ℕ) → i < 2 * z.p → entry_fits z e i ≡ true)
        → ((c : ℕ) → c < body z → named z e c ≡ true → named z d c ≡ true) → ((c : ℕ) → c < body z → named z d c ≡ true → Vacant z d c)
        → top_epoch z e < 4294967296 → ((b : ℕ) → disk_bytes z d b ≡ disk_bytes z e b) → Findable plain e
    torn_ledger plain d e f L same entries fewer vacant low disk = record {
      lens = L;
      accepted = record {
        entries = entries;
        fits = λ c hc n. sym (fits-same z p_pos e d c (same c hc)) ∙ fit c hc (true_or_false (named z d c));
        loose = λ c hc n. uniform_fewer d e c (same_fewer d e c (same c hc)) (f.accepted.loose c hc (fewer c hc n));
        ages = ages_fewer d e (λ c hc. same_fewer d e c (same c hc)) f.accepted.ages;
      };
      low = low;
      swept = f.swept;
      sound = f.sound;
      shown = λ c hc. at c hc (true_or_false (named z e c)) (f.shown c hc);
      disk_same = λ b. f.disk_same b ∙ disk b;
    }
      where
        fit : (c : ℕ) → c < body z → (named z d c ≡ true) ⊎ (named z d c ≡ false) → bucket_fits z d c ≡ true
        fit c hc (inl n) = (vacant c hc n).0
        fit c hc (inr n) = f.accepted.fits c hc n

        still : (c : ℕ) → c < body z → Vacant z d c → Vacant z e c
        still c hc v = vacant_same z p_pos d e c (same-sym z (same c hc)) v

        at : (c : ℕ) → c < body z → (named z e c ≡ true) ⊎ (named z e c ≡ false) → Shown d f.swept c → Shown e f.swept c
        at c hc (inl t) (kept n s) = absurd (true≢false (sym (fewer c hc t) ∙ n))
        at c hc (inr t) (kept n s) = kept t (same_trans z (same c hc) s)
        at c hc q (goes n v) = empty (still c hc (vacant c hc n)) v
        at c hc q (empty v v') = empty (still c hc v) v'
