-- Number 4 of recovery is that of every device with the same spare area.
use Prim.Native.Nat.{ℕ, zero, suc}
use mathlib.Core.Path.{◌≡◌, refl, ap, ◌∙◌, fun_ext}
use mathlib.Core.Bool.{Bool, not, ◌&&◌, ◌||◌}
use mathlib.Core.List.{List, [], ◌∷◌, map}
use Rattle.std.specs.Prelude.{if◌then◌else◌}
use Rattle.lists.specs.Lists.{every, all_below, keep, below, distinct}
use Rattle.model.specs.declared.Sizes.{Sizes}
use Rattle.model.specs.Sizes.{Device, body}
use Rattle.model.specs.Stores.{tag_of}
use Rattle.model.specs.Spare.{programmed, epoch}
use Rattle.model.specs.Image.{shares, fields_fit, bucket_fits}
use Rattle.model.specs.Ledger.{ledger_tag, entry_fits, entries_fit, holds_epoch, names, named, first_of, first_tag, loose_fits, found_fits, occupied, first_epoch, recoverable}
use Rattle.image.specs.Chip.{spare_only}
use Rattle.rules.proofs.SameSpare.{same_bucket_lem}

module _ (z : Sizes) (d : Device) where
  o : Device
  o = spare_only d.spare

  same_first : (c n : ℕ) → first_of z o c n ≡ first_of z d c n
  unfolding o first_of tag_of
  same_first c zero = refl
  same_first c (suc n) = ap (λ (first : List ℕ). if programmed first then first else tag_of z d c n) (same_first c n)

  same_loose : (c k : ℕ) → loose_fits z o c k ≡ loose_fits z d c k
  unfolding o loose_fits first_tag tag_of
  same_loose c k = ap (λ (first : List ℕ). not (programmed (tag_of z d c k)) || (fields_fit z (tag_of z d c k) && shares first (tag_of z d c k))) (same_first c z.p)

  pub same-named : (c : ℕ) → named z (spare_only d.spare) c ≡ named z d c
  unfolding named names holds_epoch ledger_tag tag_of
  same-named c = refl

  same-found : (c : ℕ) → found_fits z o c ≡ found_fits z d c
  unfolding found_fits o
  same-found c = rw (same-named c, same_bucket_lem z d c)
      (ap (λ (t : ℕ → Bool). if named z d c then all_below z.p t else bucket_fits z d c) (fun_ext (same_loose c)))

  same-occupied : (c : ℕ) → occupied z o c ≡ occupied z d c
  unfolding occupied first_tag
  same-occupied c = ap programmed (same_first c z.p)

  same_age : (c : ℕ) → first_epoch z o c ≡ first_epoch z d c
  unfolding first_epoch first_tag
  same_age c = ap epoch (same_first c z.p)

  pub same_entries : entries_fit z (spare_only d.spare) ≡ entries_fit z d
  unfolding entries_fit entry_fits ledger_tag tag_of
  same_entries = refl

  pub same-recoverable : recoverable z (spare_only d.spare) ≡ recoverable z d
  unfolding recoverable o
  same-recoverable =
      let epochs : (ℕ → Bool) → (ℕ → ℕ) → Bool = λ s f. distinct (map f (keep s (below (body z)))) in
      ap (λ (t : ℕ → Bool). every (all_below (body z) t ∷ epochs (occupied z o) (first_epoch z o) ∷ entries_fit z o ∷ [])) (fun_ext same-found)
      ∙ (ap (λ (s : ℕ → Bool). every (all_below (body z) (found_fits z d) ∷ epochs s (first_epoch z o) ∷ entries_fit z o ∷ [])) (fun_ext same-occupied)
      ∙ (ap (λ (f : ℕ → ℕ). every (all_below (body z) (found_fits z d) ∷ epochs (occupied z d) f ∷ entries_fit z o ∷ [])) (fun_ext same_age)
      ∙ ap (λ (t : Bool). every (all_below (body z) (found_fits z d) ∷ epochs (occupied z d) (first_epoch z d) ∷ t ∷ [])) same_entries))
