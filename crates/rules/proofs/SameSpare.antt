-- Number 4 of a running call is that of every device with the same spare area.
use mathlib.Core.Path.{◌≡◌, refl, ap, fun_ext}
use mathlib.Core.Bool.{◌&&◌}
use Prim.Native.Nat.{ℕ, zero, suc, ◌+◌}
use Rattle.lists.specs.Lists.{all_below}
use Rattle.model.specs.declared.Sizes.{Sizes}
use Rattle.model.specs.Sizes.{Device, body}
use Rattle.model.specs.Stores.{tag_of}
use Rattle.model.specs.Image.{page_spoiled, begins_log, continues_log, page_fits, is_packed, packed, bucket_fits, body_fits}
use Rattle.model.specs.Ledger.{ledger_tag, entry_fits, entries_fit, well_formed}
use Rattle.image.specs.Chip.{spare_only}
use Rattle.image.proofs.SameSpare.{same_head, same-used, same-epoch}

module _ (z : Sizes) (d : Device) where
  same-continues : (c k : ℕ) → continues_log z (spare_only d.spare) c k ≡ continues_log z d c k
  unfolding continues_log tag_of
  same-continues c zero = refl
  same-continues c (suc k) = refl

  same_page : (c k : ℕ) → page_fits z (spare_only d.spare) c k ≡ page_fits z d c k
  unfolding page_fits begins_log page_spoiled tag_of
  same_page c k = rw (same_head z d c, same-continues c k)

  same_place : (c k : ℕ) → is_packed z (spare_only d.spare) c k ≡ is_packed z d c k
  unfolding is_packed tag_of
  same_place c zero = refl
  same_place c (suc k) = refl

  same-packed : (c : ℕ) → packed z (spare_only d.spare) c ≡ packed z d c
  unfolding packed
  same-packed c = ap (all_below z.p) (fun_ext (same_place c))

  pub same_bucket_lem : (c : ℕ) → bucket_fits z (spare_only d.spare) c ≡ bucket_fits z d c
  unfolding bucket_fits
  same_bucket_lem c = rw same-packed (ap (λ fits. packed z d c && all_below z.p fits) (fun_ext (same_page c)))

  pub same-body-fits : body_fits z (spare_only d.spare) ≡ body_fits z d
  unfolding body_fits
  same-body-fits = rw (fun_ext same_bucket_lem, fun_ext (same-used z d), fun_ext (same-epoch z d))

  pub same-well_formed : well_formed z (spare_only d.spare) ≡ well_formed z d
  unfolding well_formed entries_fit entry_fits ledger_tag tag_of
  same-well_formed = rw (same-body-fits, same-packed (body z), same-packed (body z + 1))
