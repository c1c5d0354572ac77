-- Recovery's erases: the named buckets, then the ledger. A cut in them, however torn, leaves what recovery finds; whole, they leave a sound chip with a blank ledger.
use Prim.Native.Nat.{ℕ, ◌+◌, ◌≤◌, ◌<◌}
use mathlib.Core.Path.{◌≡◌, refl, sym, ap, ◌∙◌, subst}
use mathlib.Core.Logic.{inl, inr}
use mathlib.Core.Bool.{true}
use mathlib.Core.List.{List, [], ◌∷◌, ◌++◌, map}
use native.Mathlib.Omega.{arith}
use native.Mathlib.Decide.{ℕ_discrete, dec_lt}
use Rattle.lists.specs.Lists.{below, keep, times}
use Rattle.lists.proofs.Rows.{map_append}
use Rattle.lists.proofs.Counts.{times_append, times_cons, times_self, times_other}
use Rattle.lists.proofs.Orders.{kept_below, below_kept}
use Rattle.model.specs.declared.Sizes.{Sizes}
use Rattle.model.specs.Sizes.{Device, body}
use Rattle.model.specs.Stores.{erase, apply, apply_all}
use Rattle.model.specs.Image.{epoch_of}
use Rattle.model.specs.Ledger.{named}
use Rattle.model.specs.State.{top_epoch}
use Rattle.model.specs.Recover.{swept}
use Rattle.model.specs.Promise.{torn}
use Rattle.model.proofs.Limits.{Limits, on_chip}
use Rattle.model.proofs.Safe.{Sound, Cuts}
use Rattle.model.proofs.Heads.{Blank, Vacant}
use Rattle.model.proofs.Show.{same-sym, epoch_of-same}
use Rattle.model.proofs.Prefix.{apply_all_append, cuts_append}
use Rattle.model.proofs.Formed.{epoch_top}
use Rattle.model.proofs.Buckets.{blank-epoch}
use Rattle.model.proofs.QueuesErased.{gone, Below, gone_same, gone_blank}
use Rattle.model.proofs.LedgerKept.{Ledger}
use Rattle.model.proofs.BodyAlike.{vacant_same, blank_vacant, Alike, sound_alike}
use Rattle.model.proofs.Findable.{Findable, Shown, kept, goes, empty}
use Rattle.model.proofs.LedgerErase.{Blanked, blanked_erase, blanked_half, named-same, found-body, body_same, fewer, found_ledger}
use Rattle.model.proofs.BlankLedger.{blank_ledger}

module _ (z : Sizes) (B : Limits z) (plain : List ℕ) where
  -- ---- erases one after the other

  -- a property that an erase of any of these buckets keeps, torn or whole
  module _ (I : Device → Type 0) (MayGo : ℕ → Type 0) (found : (d : Device) → I d → Findable z plain d)
      (step : (d e : Device) (g : ℕ) → MayGo g → Blanked z d e g → I d → I e) where
    erases_cut : (gs : List ℕ) → ((g : ℕ) → 1 ≤ times g gs → MayGo g × (g < z.c)) → (d : Device) → I d → Cuts z (Findable z plain) d (map erase gs) × I (gone z d gs)
    unfolding apply_all torn
    erases_cut [] ok d i = (tt, i)
    erases_cut (g ∷ gs) ok d i =
        let o = ok g (omega (arith, times_cons g g gs, times_self g)) in
        let L = (found d i).lens in
        let e : Device = apply z d (erase g) in
        let r = erases_cut gs (λ x t. ok x (omega (arith, times_cons x g gs))) e (step d e g o.0 (blanked_erase z d L g o.1) i) in
        ((λ blanked. found _ (step d _ g o.0 (blanked_half z d L g o.1 blanked z.p (omega arith)) i), r.0), r.1)

  -- no named bucket has a programmed page
  abbrev Gone : Device → Type 0
  Gone d = (c : ℕ) → c < body z → named z d c ≡ true → Vacant z d c

  -- ---- then the chip is the one that recovery's erases are to make

  module _ (d : Device) (f : Findable z plain d) (none : Gone d) where
    -- each bucket is the same, or has no programmed page in either
    alike : (c : ℕ) → c < body z → Alike z f.swept d c
    alike c hc = go (f.shown c hc)
      where
        go : Shown z d f.swept c → Alike z f.swept d c
        go (kept n s) = inl (same-sym z s)
        go (goes n b) = inr (b, none c hc n)
        go (empty b b') = inr (b', b)

    gone_sound : Sound z plain d
    gone_sound = sound_alike z B.p_low f.swept d alike plain f.lens (λ b. sym (f.disk_same b)) f.sound

  -- ---- the whole sweep

  module _ (d : Device) (f : Findable z plain d) where
    abbrev names : List ℕ
    names = keep (named z d) (below (body z))

    abbrev ledgers : List ℕ
    ledgers = body z ∷ (body z + 1) ∷ []

    in_names : (g : ℕ) → 1 ≤ times g names → (named z d g ≡ true) × (g < body z)
    in_names g h = kept_below (named z d) g (body z) h

    in_ledgers : (g : ℕ) → 1 ≤ times g ledgers → (body z ≤ g) × (g < z.c)
    unfolding times
    in_ledgers g h = go (ℕ_discrete g (body z)) (ℕ_discrete g (body z + 1))
      where
        go : Dec (g ≡ body z) → Dec (g ≡ body z + 1) → (body z ≤ g) × (g < z.c)
        go (yes q) r = (omega arith, omega (arith, B.ledger_in))
        go (no q) (yes r) = (omega arith, omega (arith, B.ledger_in))
        go (no q) (no r) = absurd (omega (arith, times_cons g (body z) ((body z + 1) ∷ []), times_other g (body z) q, times_other g (body z + 1) r))

    -- the same buckets are named while they go
    abbrev Naming : Device → Type 0
    Naming e = Findable z plain e × ((c : ℕ) → named z e c ≡ named z d c)

    first : Cuts z (Findable z plain) d (map erase names) × Naming (gone z d names)
    first = erases_cut Naming (λ g. (named z d g ≡ true) × (g < body z)) (λ e i. i.0) step names (λ g t. let r = in_names g t in (r, on_chip z g r.1)) d (f, λ c. refl)
      where
        step : (e e' : Device) (g : ℕ) → (named z d g ≡ true) × (g < body z) → Blanked z e e' g → Naming e → Naming e'
        step e e' g h b i =
            let n : named z e g ≡ true = i.1 g ∙ h.0 in
            (found-body z e e' g b h.1 B.p_low plain i.0 n, λ c. named-same z e e' g b h.1 n c ∙ i.1 c)

    naming_gone : Gone (gone z d names)
    naming_gone c hc n = blank_vacant z B.p_low (gone z d names) c
        (gone_blank z names (λ g t. on_chip z g (in_names g t).1) d f.lens c (omega (arith, below_kept (named z d) c (body z) hc (sym (first.1.1 c) ∙ n))))

    -- no named bucket has a page while the ledger goes
    abbrev Ending : Device → Type 0
    Ending e = Findable z plain e × Gone e

    second : Cuts z (Findable z plain) (gone z d names) (map erase ledgers) × Ending (gone z (gone z d names) ledgers)
    second = erases_cut Ending (λ g. body z ≤ g) (λ e i. i.0) step ledgers in_ledgers (gone z d names) (first.1.0, naming_gone)
      where
        step : (e e' : Device) (g : ℕ) → body z ≤ g → Blanked z e e' g → Ending e → Ending e'
        step e e' g h b i = (
          found_ledger z e e' g b h B.p_low plain i.0 i.1,
          λ c hc n. vacant_same z B.p_low e e' c (same-sym z (body_same z e e' g b h c hc)) (i.1 c hc (fewer z e e' g b h c hc n)),
        )

    -- ---- what is left

    abbrev left : Device
    left = gone z d (swept z d)

    both : map erase (swept z d) ≡ map erase names ++ map erase ledgers
    unfolding swept
    both = map_append erase names ledgers

    pub swept_cuts : Cuts z (Findable z plain) d (map erase (swept z d))
    swept_cuts = rw both (cuts_append z (Findable z plain) d (map erase names) (map erase ledgers) first.0 second.0)

    ending : Ending left
    ending = subst Ending (sym (ap (apply_all z d) both ∙ apply_all_append z d (map erase names) (map erase ledgers))) second.1

    pub swept_sound : Sound z plain left
    swept_sound = gone_sound left ending.0 ending.1

    swept-below : Below z (swept z d)
    unfolding swept
    swept-below g h = go (dec_lt 0 (times g names))
      where
        go : Dec (0 < times g names) → g < z.c
        go (yes t) = on_chip z g (in_names g t).1
        go (no t) = (in_ledgers g (omega (arith, times_append g names ledgers))).1

    left_blank : (g : ℕ) → 1 ≤ times g ledgers → Blank z left g
    unfolding swept
    left_blank g h = gone_blank z (swept z d) swept-below d f.lens g (omega (arith, times_append g names ledgers))

    pub swept_ledger : (next : ℕ) → 1 ≤ next → Ledger z left next
    swept_ledger = blank_ledger z B.p_low left (left_blank (body z) (omega (arith, times_cons (body z) (body z) ((body z + 1) ∷ []), times_self (body z))))
        (left_blank (body z + 1) (omega (arith, times_cons (body z + 1) (body z) ((body z + 1) ∷ []), times_self (body z + 1))))

    -- no epoch is above those that recovery found
    pub swept_epochs : (c : ℕ) → c < body z → epoch_of z left c ≤ top_epoch z d
    swept_epochs c hc = go (dec_lt 0 (times c (swept z d)))
      where
        go : Dec (0 < times c (swept z d)) → epoch_of z left c ≤ top_epoch z d
        go (yes t) = omega (arith, blank-epoch z left c B.p_low (gone_blank z (swept z d) swept-below d f.lens c t))
        go (no t) = rw (epoch_of-same z B.p_low d left c (gone_same z (swept z d) swept-below d f.lens c (omega arith))) (epoch_top z d c hc)
