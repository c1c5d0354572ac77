-- Writing the units of several back-end buckets, one after the other.
use Prim.Native.Nat.{ℕ, ◌≤◌, ◌<◌}
use mathlib.Core.Path.{◌≡◌, refl, sym, ap, ◌∙◌, subst}
use mathlib.Core.List.{List, [], ◌∷◌, map}
use native.Mathlib.Omega.{arith}
use native.Mathlib.Decide.{ℕ_discrete, dec_lt}
use lib.ListN.{length}
use Rattle.lists.specs.Lists.{times, concat_map}
use Rattle.lists.proofs.Counts.{times_self, times_other, times_cons}
use Rattle.model.specs.declared.Sizes.{Sizes}
use Rattle.model.specs.Sizes.{Device, bucket_size}
use Rattle.model.specs.Stores.{Store, erase, apply_all, disk_bytes, unit_stores}
use Rattle.model.proofs.Safe.{Safe, Chip, Sound, Along, Ready}
use Rattle.model.proofs.Limits.{Limits}
use Rattle.model.proofs.Prefix.{apply_all_append, along_start, along_append}
use Rattle.model.proofs.Show.{Same, same_refl, same_trans}
use Rattle.model.proofs.Units.{Allowed, fits_at_lem, Written, units_along, units_written}
use Rattle.model.proofs.FindableRuns.{Each, each_append, Harmless, units_harmless}

module _ (z : Sizes) (B : Limits z) (plain : List ℕ) (gs : List ℕ) (gs_in : (x : ℕ) → 1 ≤ times x gs → x < z.c) (bytes : ℕ → List ℕ) where
  abbrev units_of : List ℕ → List Store
  units_of l = concat_map (λ b. unit_stores z b (bytes b)) l

  -- why the units of b may be written where the chip is that of d
  pub record MayWrite (d : Device) (b : ℕ) : Type 0 where
    pub place : b < z.b
    pub size : length (bytes b) ≡ bucket_size z
    pub allowed : (e : Device) → ((c : ℕ) → Same z d e c) → Allowed z B plain gs gs_in b place (bytes b) size e

  -- e, where the units of the list have been written in d
  pub record Ran (l : List ℕ) (d e : Device) : Type 0 where
    pub chip : Chip z e
    pub ready : Ready z plain gs e
    pub still : (c : ℕ) → Same z d e c
    pub disk_is : (b : ℕ) → 1 ≤ times b l → disk_bytes z e b ≡ bytes b
    pub disks_still : (b : ℕ) → times b l ≡ 0 → disk_bytes z e b ≡ disk_bytes z d b

  ran_none : (d : Device) → Chip z d → Ready z plain gs d → Ran [] d d
  unfolding times
  ran_none d chip ready = record { chip = chip; ready = ready; still = same_refl z d; disk_is = λ b t. absurd (omega arith); disks_still = λ b t. refl }

  ran_more : (b : ℕ) (l : List ℕ) (d e f : Device) (hb : b < z.b) (len : length (bytes b) ≡ bucket_size z) → Written z B plain gs gs_in b hb (bytes b) len d e → Ran l e f → Ran (b ∷ l) d f
  ran_more b l d e f hb len w r = record {
    chip = r.chip;
    ready = r.ready;
    still = λ c. same_trans z (w.still c) (r.still c);
    disk_is = λ x t. is x t (dec_lt 0 (times x l)) (ℕ_discrete x b);
    disks_still = λ x t. r.disks_still x (omega (arith, times_cons x b l)) ∙ w.disks_still x (λ q. omega (arith, times_cons x b l, ap (λ (y : ℕ). times x (y ∷ [])) (sym q), times_self x));
  }
    where
      is : (x : ℕ) → 1 ≤ times x (b ∷ l) → Dec (0 < times x l) → Dec (x ≡ b) → disk_bytes z f x ≡ bytes x
      is x t (yes u) v = r.disk_is x u
      is x t (no u) (yes v) = r.disks_still x (omega arith) ∙ rw v w.disk_is
      is x t (no u) (no v) = absurd (omega (arith, times_cons x b l, times_other x b v))

  module _ (d₀ : Device) where
    pub runs_harmless : (l : List ℕ) → ((b : ℕ) → 1 ≤ times b l → MayWrite d₀ b) → (d : Device) → Each (Harmless z d) (units_of l)
    unfolding concat_map
    runs_harmless [] may d = tt
    runs_harmless (b ∷ l) may d =
        let m = may b (omega (arith, times_cons b b l, times_self b)) in
        each_append (Harmless z d) (unit_stores z b (bytes b)) (units_of l) (units_harmless z d b (bytes b) (fits_at_lem z B plain gs gs_in b m.place (bytes b) m.size))
        (runs_harmless l (λ x t. may x (omega (arith, times_cons x b l))) d)

    pub units_run : (l : List ℕ) → ((b : ℕ) → 1 ≤ times b l → MayWrite d₀ b) → (d : Device) → ((c : ℕ) → Same z d₀ d c) → Chip z d → Ready z plain gs d
        → Along z (Sound z plain) d (units_of l) × Ran l d (apply_all z d (units_of l))
    unfolding concat_map apply_all
    units_run [] may d same chip ready = (record { chip = chip; safe = along_start z (Safe z plain) d (map erase gs) ready }, ran_none d chip ready)
    units_run (b ∷ l) may d same chip ready =
        let m = may b (omega (arith, times_cons b b l, times_self b)) in
        let w = units_written z B plain gs gs_in b m.place (bytes b) m.size d chip ready (m.allowed d same) in
        let e : Device = apply_all z d (unit_stores z b (bytes b)) in
        let r = units_run l (λ x t. may x (omega (arith, times_cons x b l))) e (λ c. same_trans z (same c) (w.still c)) w.chip w.ready in (
          along_append z (Sound z plain) d (unit_stores z b (bytes b)) (units_of l) (units_along z B plain gs gs_in b m.place (bytes b) m.size d chip ready (m.allowed d same)) r.0,
          subst (λ (f : Device). Ran (b ∷ l) d f) (sym (apply_all_append z d (unit_stores z b (bytes b)) (units_of l)))
              (ran_more b l d e (apply_all z e (units_of l)) m.place m.size w r.1),
        )
