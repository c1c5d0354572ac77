-- The units of a back-end bucket, all made or cut short, leave the chip and every other back-end bucket as they were.
use Prim.Native.Nat.{ℕ, zero, suc, ◌+◌, ◌*◌, ◌≤◌, ◌<◌}
use mathlib.Core.Path.{◌≡◌, refl, ◌∙◌}
use mathlib.Core.Logic.{◌≢◌, ⊎_elim}
use mathlib.Core.List.{List, [], ◌∷◌}
use native.Mathlib.Omega.{arith}
use lib.ListN.{length}
use lib.Dec.{eqb}
use Rattle.lists.specs.Lists.{row, part}
use Rattle.lists.proofs.Tests.{true_or_false}
use Rattle.lists.proofs.Parts.{length-part-fits}
use Rattle.model.specs.declared.Sizes.{Sizes}
use Rattle.model.specs.Sizes.{Device, bucket_size}
use Rattle.model.specs.Stores.{unit, apply, disk_bytes, unit_store, unit_stores}
use Rattle.model.proofs.Frames.{Lengths, row_fits_lem, place_fits, lengths_kept, disk_other}
use Rattle.meter.specs.Run.{Run, step, run_all}
use Rattle.meter.proofs.Runs.{run_append}

pub record Kept (z : Sizes) (b : ℕ) (d e : Device) : Type 0 where
  pub lengths : Lengths z e
  pub flash : e.flash ≡ d.flash
  pub spare : e.spare ≡ d.spare
  pub others : (x : ℕ) → x ≢ b → disk_bytes z e x ≡ disk_bytes z d x

module _ (z : Sizes) (b : ℕ) (bytes : List ℕ) (hb : b < z.b) (len : length bytes ≡ bucket_size z) where
  unit_length : (u : ℕ) → u < z.p → length (part bytes (u * z.s) z.s) ≡ z.s
  unfolding bucket_size
  unit_length u hu = length-part-fits bytes (u * z.s) z.s (rw len (row_fits_lem u z.p z.s hu))

  apply_kept : (u : ℕ) → u < z.p → (d e : Device) → Kept z b d e → Kept z b d (apply z e (unit_store z b bytes u))
  unfolding unit_store apply
  apply_kept u hu d e k =
      let piece = part bytes (u * z.s) z.s in
      record {
        lengths = lengths_kept z e k.lengths (unit (b * z.p + u) piece) (place_fits b u z.b z.p hb hu, unit_length u hu);
        flash = k.flash;
        spare = k.spare;
        others = λ x ne. disk_other z e k.lengths b u piece hb hu (unit_length u hu) x ne ∙ k.others x ne;
      }

  step_kept : (u : ℕ) → u < z.p → (d : Device) (r : Run) → Kept z b d r.device → Kept z b d (step z (unit_store z b bytes u) r).device
  unfolding step
  step_kept u hu d r k = ⊎_elim (λ e. rw e k) (λ e. rw e (apply_kept u hu d r.device k)) (true_or_false (eqb r.meter.left 0))

  row_kept : (n : ℕ) → n ≤ z.p → (r : Run) → Lengths z r.device → Kept z b r.device (run_all z (row n (unit_store z b bytes)) r).device
  unfolding row run_all
  row_kept zero h r l = record { lengths = l; flash = refl; spare = refl; others = λ x ne. refl }
  row_kept (suc n) h r l =
      rw (run_append z (row n (unit_store z b bytes)) (unit_store z b bytes n ∷ []) r)
      (step_kept n h r.device (run_all z (row n (unit_store z b bytes)) r) (row_kept n (omega arith) r l))

  pub units_kept : (r : Run) → Lengths z r.device → Kept z b r.device (run_all z (unit_stores z b bytes) r).device
  unfolding unit_stores
  units_kept r l = row_kept z.p (omega arith) r l
