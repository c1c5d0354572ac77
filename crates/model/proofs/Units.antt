-- Writing the P units of a back-end bucket: with plain bytes, or with any bytes where the newest copy is Dirty.
use Prim.Native.Nat.{ℕ, suc, ◌+◌, ◌*◌, ◌≤◌, ◌<◌}
use mathlib.Core.Path.{◌≡◌, refl, sym, ap, ◌∙◌}
use mathlib.Core.Logic.{◌⊎◌, inl, inr, ◌≢◌}
use mathlib.Core.Bool.{true, true≢false}
use mathlib.Core.List.{List}
use native.Mathlib.Omega.{arith}
use native.Mathlib.Decide.{ℕ_discrete}
use lib.ListN.{length, get_or}
use lib.Seq.{ext_get_or}
use Rattle.lists.specs.Lists.{times, part, splice}
use Rattle.lists.proofs.Tests.{and_left}
use Rattle.lists.proofs.Parts.{At, at, outside, inside, get_d_part, length-part-fits}
use Rattle.model.specs.declared.Sizes.{Sizes}
use Rattle.model.specs.Sizes.{Device, bucket_size}
use Rattle.model.specs.Stores.{Store, erase, unit, apply, apply_all, disk_bytes, unit_store, unit_stores}
use Rattle.model.specs.Image.{used, epoch_of, is_dirty, is_copy, complete}
use Rattle.model.proofs.Views.{Newest, SafeAt, safe_still, safe_any_disk}
use Rattle.model.proofs.Safe.{holds_of, view, plain_at, Safe, Chip, Sound, Along, Ready}
use Rattle.model.proofs.Limits.{Limits}
use Rattle.model.proofs.Frames.{Lengths, Fits, row_fits_lem, place_fits, tag_erased, unit_in_bucket, length_disk, disk_written, disk_other}
use Rattle.model.proofs.Runs.{Stepwise, Run, run_end, run_along}
use Rattle.model.proofs.Show.{Same, same_refl, same_trans, epoch_of-same, is_dirty-same, holds_same, quiet_same, kept_same, same_erase, same_unit}
use Rattle.model.proofs.Buckets.{blank-holds, holds_parts}
use Rattle.model.proofs.FormedKept.{chip-lengths, chip_formed, chip_erase, chip_unit}

-- a copy has a page
holds-used : (z : Sizes) (d : Device) (c b : ℕ) → holds_of z d c b ≡ true → used z d c ≡ true
unfolding complete is_copy
holds-used z d c b h = and_left (used z d c) _ (and_left (is_copy z d c) _ (holds_parts z d c b h).1)

module _ (z : Sizes) (bounds : Limits z) (plain : List ℕ) (gs : List ℕ) (gs_in : (x : ℕ) → 1 ≤ times x gs → x < z.c)
    (b : ℕ) (hb : b < z.b) (bytes : List ℕ) (len : length bytes ≡ bucket_size z) where
  -- why the units of b may be written: the bytes are the plain disk's, or b's newest copy, which stays, is Dirty
  pub data Allowed (d : Device) : Type 0 where
    plain_bytes : ((i : ℕ) → i < bucket_size z → get_or bytes i 0 ≡ plain_at z plain b i) → Allowed d
    dirty_copy : (c : ℕ) → (1 ≤ times c gs → ⊥) → holds_of z d c b ≡ true → is_dirty z d c ≡ true
        → ((c' : ℕ) → holds_of z d c' b ≡ true → epoch_of z d c' ≤ epoch_of z d c) → Allowed d

  abbrev pub bytes_at : ℕ → List ℕ
  bytes_at u = part bytes (u * z.s) z.s

  abbrev pub unit_at : ℕ → Store
  unit_at u = unit (b * z.p + u) (bytes_at u)

  length_unit : (u : ℕ) → u < z.p → length (part bytes (u * z.s) z.s) ≡ z.s
  unfolding bucket_size
  length_unit u hu = length-part-fits bytes (u * z.s) z.s (rw len (row_fits_lem u z.p z.s hu))

  pub fits_at_lem : (u : ℕ) → u < z.p → Fits z (unit_at u)
  fits_at_lem u hu = (place_fits b u z.b z.p hb hu, length_unit u hu)

  -- byte i of b after unit u was written: outside the unit as it was, inside it the written one
  pub data UnitByte (d : Device) (u i : ℕ) : Type 0 where
    left : (i < u * z.s) ⊎ (u * z.s + z.s ≤ i) → get_or (disk_bytes z (apply z d (unit_at u)) b) i 0 ≡ get_or (disk_bytes z d b) i 0 → UnitByte d u i
    written : (u * z.s ≤ i) × (i < u * z.s + z.s) → i < bucket_size z → get_or (disk_bytes z (apply z d (unit_at u)) b) i 0 ≡ get_or bytes i 0 → UnitByte d u i

  pub unit_byte : (d : Device) → Lengths z d → (u : ℕ) → u < z.p → (i : ℕ) → UnitByte d u i
  unfolding bucket_size
  unit_byte d lens u hu i = pick (at (disk_bytes z d b) (u * z.s) (bytes_at u) (unit_in_bucket z d lens b u (bytes_at u) hb hu (length_unit u hu)) i)
    where
      now : get_or (disk_bytes z (apply z d (unit_at u)) b) i 0 ≡ get_or (splice (disk_bytes z d b) (u * z.s) (bytes_at u)) i 0
      now = ap (λ (l : List ℕ). get_or l i 0) (disk_written z d lens b u (bytes_at u) hb hu (length_unit u hu))

      pick : At (disk_bytes z d b) (u * z.s) (bytes_at u) i → UnitByte d u i
      pick (outside (inl a) q) = left (inl a) (now ∙ q)
      pick (outside (inr a) q) = left (inr (omega (arith, length_unit u hu))) (now ∙ q)
      pick (inside k hk e q) =
          let hk' : k < z.s = omega (arith, length_unit u hu) in
          written (omega arith, omega arith) (omega (arith, row_fits_lem u z.p z.s hu)) (now ∙ q ∙ get_d_part bytes (u * z.s) z.s k hk' ∙ ap (λ (x : ℕ). get_or bytes x 0) (sym e))

  -- ---- one unit keeps what is confirmed

  module _ (u : ℕ) (hu : u < z.p) (d : Device) (chip : Chip z d) where
    abbrev pub after : Device
    after = apply z d (unit_at u)

    pub alike : (c : ℕ) → Same z d after c
    alike c = same_unit z d (b * z.p + u) (bytes_at u) c

    pub elsewhere : (b' i : ℕ) → b' ≢ b → get_or (disk_bytes z after b') i 0 ≡ get_or (disk_bytes z d b') i 0
    elsewhere b' i ne = ap (λ (l : List ℕ). get_or l i 0) (disk_other z d (chip-lengths z chip) b u (bytes_at u) hb hu (length_unit u hu) b' ne)

    untouched : (b' : ℕ) → ((i : ℕ) → (get_or (disk_bytes z after b') i 0 ≡ get_or (disk_bytes z d b') i 0) ⊎ (get_or (disk_bytes z after b') i 0 ≡ plain_at z plain b' i))
        → SafeAt (view z d) b' (plain_at z plain b') → SafeAt (view z after) b' (plain_at z plain b')
    untouched b' h s = safe_still (view z d) (view z after) b' (plain_at z plain b')
        (λ c i. quiet_same z bounds.p_low d after c (alike c) b' i) (λ c. kept_same z bounds.p_low d after c (alike c) b') h s

    safe_unit : Allowed d → Safe z plain d → Safe z plain after
    unfolding Safe
    safe_unit a s b' = go (ℕ_discrete b' b) a
      where
        go : Dec (b' ≡ b) → Allowed d → SafeAt (view z after) b' (plain_at z plain b')
        go (no ne) q = untouched b' (λ i. inl (elsewhere b' i ne)) (s b')
        go (yes e) (plain_bytes h) = rw e (untouched b (λ i. pick i (unit_byte d (chip-lengths z chip) u hu i)) (s b))
          where
            pick : (i : ℕ) → UnitByte d u i → (get_or (disk_bytes z after b) i 0 ≡ get_or (disk_bytes z d b) i 0) ⊎ (get_or (disk_bytes z after b) i 0 ≡ plain_at z plain b i)
            pick i (left o q) = inl q
            pick i (written in-unit hi q) = inr (q ∙ h i hi)
        go (yes e) (dirty_copy c out held dirty newest) = rw e (safe_any_disk (view z d) (view z after) b (plain_at z plain b)
            (λ c' i. quiet_same z bounds.p_low d after c' (alike c') b i) (λ c'. kept_same z bounds.p_low d after c' (alike c') b) c held only (s b))
          where
            only : (c' : ℕ) → Newest (view z d) b c' → is_dirty z d c' ≡ true
            only c' n =
                let q : c' ≡ c = (chip_formed z chip).epochs_differ c' c (holds_parts z d c' b n.0).0 (holds_parts z d c b held).0
                (holds-used z d c' b n.0) (holds-used z d c b held)
                (omega (arith, newest c' n.0, n.1 c held)) in
                rw q dirty

    allowed_unit : Allowed d → Allowed after
    allowed_unit (plain_bytes h) = plain_bytes h
    allowed_unit (dirty_copy c out held dirty newest) = dirty_copy c out (holds_same z bounds.p_low d after c (alike c) b ∙ held)
        (is_dirty-same z bounds.p_low d after c (alike c) ∙ dirty)
        (λ c' h. let u = epoch_of-same z bounds.p_low d after c' (alike c') in let v = epoch_of-same z bounds.p_low d after c (alike c) in
        rw (u, v) (newest c' (sym (holds_same z bounds.p_low d after c' (alike c') b) ∙ h)))

  -- the erase of a bucket that may go
  allowed_erase : (x : ℕ) → 1 ≤ times x gs → (d : Device) → Chip z d → Allowed d → Allowed (apply z d (erase x))
  allowed_erase x hx d chip (plain_bytes h) = plain_bytes h
  allowed_erase x hx d chip (dirty_copy c out held dirty newest) =
      dirty_copy c out (holds_same z bounds.p_low d after' c (alike' c stays) b ∙ held) (is_dirty-same z bounds.p_low d after' c (alike' c stays) ∙ dirty)
      (λ c' h. older c' h (ℕ_discrete c' x))
    where
      after' : Device
      after' = apply z d (erase x)

      stays : c ≢ x
      stays q = out (rw q hx)

      alike' : (c' : ℕ) → c' ≢ x → Same z d after' c'
      alike' c' ne = same_erase z d (chip-lengths z chip) x (gs_in x hx) c' ne

      older : (c' : ℕ) → holds_of z after' c' b ≡ true → Dec (c' ≡ x) → epoch_of z after' c' ≤ epoch_of z after' c
      older c' h (yes q) = absurd (true≢false (sym h ∙ ap (λ (y : ℕ). holds_of z after' y b) q
          ∙ blank-holds z after' x bounds.p_low (tag_erased z d (chip-lengths z chip) x (gs_in x hx)) b))
      older c' h (no ne) =
          let u = epoch_of-same z bounds.p_low d after' c' (alike' c' ne) in
          let v = epoch_of-same z bounds.p_low d after' c (alike' c stays) in
          rw (u, v) (newest c' (sym (holds_same z bounds.p_low d after' c' (alike' c' ne) b) ∙ h))

  -- ---- all of them

  -- e, where the units of b in d have been written
  pub record Written (d e : Device) : Type 0 where
    pub chip : Chip z e
    pub ready : Ready z plain gs e
    pub still : (c : ℕ) → Same z d e c
    pub disk_is : disk_bytes z e b ≡ bytes
    pub disks_still : (b' : ℕ) → b' ≢ b → disk_bytes z e b' ≡ disk_bytes z d b'

  -- after o units
  record Done (d₀ : Device) (o : ℕ) (d : Device) : Type 0 where
    still : (c : ℕ) → Same z d₀ d c
    done : (i : ℕ) → i < o * z.s → get_or (disk_bytes z d b) i 0 ≡ get_or bytes i 0
    disks_still : (b' : ℕ) → b' ≢ b → disk_bytes z d b' ≡ disk_bytes z d₀ b'

  next : (d₀ : Device) (o : ℕ) (d : Device) → o < z.p → Chip z d → Done d₀ o d → Done d₀ (suc o) (apply z d (unit_at o))
  next d₀ o d ho chip r = record {
    still = λ c. same_trans z (r.still c) (alike o ho d chip c);
    done = λ i hi. byte i hi (unit_byte d (chip-lengths z chip) o ho i);
    disks_still = λ b' ne. disk_other z d (chip-lengths z chip) b o (bytes_at o) hb ho (length_unit o ho) b' ne ∙ r.disks_still b' ne;
  }
    where
      byte : (i : ℕ) → i < suc o * z.s → UnitByte d o i → get_or (disk_bytes z (apply z d (unit_at o)) b) i 0 ≡ get_or bytes i 0
      byte i hi (written in-unit h q) = q
      byte i hi (left (inl a) q) = q ∙ r.done i a
      byte i hi (left (inr a) q) = absurd (omega arith)

  abbrev On : ℕ → Device → Type 0
  On o d = Chip z d × Allowed d

  steps : (d₀ : Device) → Stepwise z gs unit_at z.p On (Done d₀) (Safe z plain) (Safe z plain)
  steps d₀ = record {
    some = bounds.p_low;
    fits = fits_at_lem;
    lens = λ o d on. chip-lengths z on.0;
    next = λ o d ho on. (chip_unit z bounds.p_low d (b * z.p + o) (bytes_at o) (fits_at_lem o ho) on.0, allowed_unit o ho d on.0 on.1);
    far = λ o d ho on r. next d₀ o d ho on.0 r;
    erased = λ o ho x hx. (gs_in x hx, tt, λ d on. (chip_erase z bounds.p_low d x (gs_in x hx) on.0, allowed_erase x hx d on.0 on.1));
    early = λ o d h on q. safe_unit o (omega arith) d on.0 on.1 q;
    last = λ o d h on q. safe_unit o (omega arith) d on.0 on.1 q;
  }

  module _ (d : Device) (chip : Chip z d) (ready : Ready z plain gs d) (allowed : Allowed d) where
    start : Done d 0 d
    start = record { still = same_refl z d; done = λ i h. absurd (omega arith); disks_still = λ b' ne. refl }

    pub units_along : Along z (Sound z plain) d (unit_stores z b bytes)
    unfolding unit_stores unit_store
    units_along = run_along z gs unit_at z.p On (Done d) (Safe z plain) (Safe z plain) (steps d) d (chip, allowed) start ready (Sound z plain)
        (λ o e on q. record { chip = on.0; safe = q }) (λ o e on q. record { chip = on.0; safe = q })

    end : Run z gs unit_at z.p On (Done d) (Safe z plain) (Safe z plain) z.p (apply_all z d (unit_stores z b bytes))
    unfolding unit_stores unit_store
    end = run_end z gs unit_at z.p On (Done d) (Safe z plain) (Safe z plain) (steps d) d (chip, allowed) start ready

    pub units_written : Written d (apply_all z d (unit_stores z b bytes))
    unfolding bucket_size
    units_written =
        let e : Device = apply_all z d (unit_stores z b bytes) in
        let l = length_disk z e (chip-lengths z end.on.0) b hb in
        record {
          chip = end.on.0;
          ready = end.after refl;
          still = end.afar.still;
          disk_is = ext_get_or 0 (disk_bytes z e b) bytes (l ∙ sym len) (λ i hi. end.afar.done i (omega (arith, l)));
          disks_still = end.afar.disks_still;
        }
