-- Runs of stores that leave the ledger alone: what recovery finds after a cut in them.
use Prim.Native.Nat.{ℕ, zero, suc, ◌+◌, ◌*◌, ◌≤◌, ◌<◌}
use mathlib.Core.Path.{◌≡◌, refl, sym, ◌∙◌, subst}
use mathlib.Core.Bool.{Bool}
use mathlib.Core.List.{List, [], ◌∷◌, ◌++◌}
use native.Mathlib.Omega.{arith}
use native.Mathlib.Nat.{mul-le-mul_right, le_trans}
use lib.ListN.{length, take}
use Rattle.lists.specs.Lists.{row, part}
use Rattle.lists.proofs.Rows.{below_alike}
use Rattle.model.specs.declared.Sizes.{Sizes}
use Rattle.model.specs.Sizes.{Device, body, pages_for, page_index}
use Rattle.model.specs.Stores.{Store, program, erase, unit, apply, apply_all, tag_of, unit_store, unit_stores}
use Rattle.model.specs.Spare.{epoch}
use Rattle.model.specs.Image.{is_packed, packed}
use Rattle.model.specs.Ledger.{ledger_tag, entry_fits, one_in_use}
use Rattle.model.specs.State.{entry_epoch}
use Rattle.model.specs.Steps.{log_store, log_stores}
use Rattle.model.specs.Promise.{torn}
use Rattle.model.proofs.Limits.{Limits}
use Rattle.model.proofs.Safe.{unspoiling, Sound, Along, Cuts}
use Rattle.model.proofs.Frames.{Lengths, Fits, lengths_kept, tag_other_place, tag_unit}
use Rattle.model.proofs.Prefix.{along_take}
use Rattle.model.proofs.Formed.{top_least}
use Rattle.model.proofs.FormedKept.{chip-lengths}
use Rattle.model.proofs.Pages.{Log, epoch_at, fits_at_lem}
use Rattle.model.proofs.LedgerKept.{New, Apart, Ledger, apart_unnamed, apart_program, apart_unit}
use Rattle.model.proofs.Findable.{Findable, ordinary}
use Rattle.model.proofs.LedgerErase.{entry_page}

-- ---- a property of each store of a run

abbrev pub Each : (Store → Type 0) → List Store → Type 0
Each P [] = Unit {0}
Each P (s ∷ ss) = P s × Each P ss

pub each_append : (P : Store → Type 0) (ss ts : List Store) → Each P ss → Each P ts → Each P (ss ++ ts)
each_append P [] ts a b = b
each_append P (s ∷ ss) ts a b = (a.0, each_append P ss ts a.1 b)

each_map : (P Q : Store → Type 0) → ((s : Store) → P s → Q s) → (ss : List Store) → Each P ss → Each Q ss
each_map P Q f [] a = tt
each_map P Q f (s ∷ ss) a = (f s a.0, each_map P Q f ss a.1)

each_row : (P : Store → Type 0) (n : ℕ) (store : ℕ → Store) → ((o : ℕ) → o < n → P (store o)) → Each P (row n store)
unfolding row
each_row P zero store h = tt
each_row P (suc n) store h = each_append P (row n store) (store n ∷ []) (each_row P n store (λ o ho. h o (omega arith))) (h n (omega arith), tt)

module _ (z : Sizes) where
  -- a store that leaves the ledger as it is, and gives no bucket the epoch of an entry for it
  abbrev pub Harmless : Device → Store → Type 0
  Harmless d (program c k bytes tag) = (c < body z) × New z d c (epoch tag) × Fits z (program c k bytes tag)
  Harmless d (erase c) = ⊥
  Harmless d (unit u bytes) = Fits z (unit u bytes)

  -- the same tags in the ledger
  abbrev Still : (d e : Device) → Type 0
  Still d e = (c k : ℕ) → body z ≤ c → tag_of z e c k ≡ tag_of z d c k

  new_still : (d e : Device) → Still d e → (c x : ℕ) → New z d c x → New z e c x
  unfolding ledger_tag
  new_still d e same c x new i hi = rw (same (body z) i (omega arith)) (new i hi)

  harmless_still : (d e : Device) → Still d e → (s : Store) → Harmless d s → Harmless e s
  harmless_still d e same (program c k bytes tag) h = (h.0, new_still d e same c (epoch tag) h.1, h.2)
  harmless_still d e same (erase bucket) h = elim h [ ]
  harmless_still d e same (unit u bytes) h = h

  store_still : (d : Device) → Lengths z d → (s : Store) → Harmless d s → Still d (apply z d s)
  unfolding page_index
  store_still d L (program c k bytes tag) h c' k' hc =
      tag_other_place z d L c k bytes tag h.2 c' k' (λ q. omega (arith, h.2.1, mul-le-mul_right z.p (le_trans h.0 hc)))
  store_still d L (erase bucket) h c' k' hc = elim h [ ]
  store_still d L (unit u bytes) h c' k' hc = tag_unit z d u bytes c' k'

  harmless_fits : (d : Device) (s : Store) → Harmless d s → Fits z s
  harmless_fits d (program c k bytes tag) h = h.2
  harmless_fits d (erase bucket) h = elim h [ ]
  harmless_fits d (unit u bytes) h = h

  rest_harmless : (d : Device) → Lengths z d → (s : Store) → Harmless d s → (ss : List Store) → Each (Harmless d) ss → Each (Harmless (apply z d s)) ss
  rest_harmless d L s h ss a = each_map (Harmless d) (Harmless (apply z d s)) (λ t g. harmless_still d (apply z d s) (store_still d L s h) t g) ss a

  -- ---- what they keep

  -- entries older than m are older than n
  pub ledger_later : (d : Device) (m n : ℕ) → m ≤ n → Ledger z d m → Ledger z d n
  ledger_later d m n h l = record {
    entries = l.entries;
    lower_packed = l.lower_packed;
    upper_packed = l.upper_packed;
    one = l.one;
    below_next = λ i hi. omega (arith, l.below_next i hi);
    apart = l.apart;
  }

  ledger_as : (d e : Device) (n : ℕ) → Still d e → Apart z e → Ledger z d n → Ledger z e n
  unfolding entry_fits ledger_tag is_packed packed one_in_use entry_epoch
  ledger_as d e n same a l = record {
    entries = λ i hi. rw (same (body z) i (omega arith)) (l.entries i hi);
    lower_packed = packed_as (body z) (omega arith) ∙ l.lower_packed;
    upper_packed = packed_as (body z + 1) (omega arith) ∙ l.upper_packed;
    one = rw (same (body z) 0 (omega arith), same (body z + 1) 0 (omega arith)) l.one;
    below_next = λ i hi. rw (same (body z) i (omega arith)) (l.below_next i hi);
    apart = a;
  }
    where
      page : (x : ℕ) → body z ≤ x → (k : ℕ) → is_packed z e x k ≡ is_packed z d x k
      page x hx zero = refl
      page x hx (suc k) = rw (same x k hx, same x (suc k) hx)

      packed_as : (x : ℕ) → body z ≤ x → packed z e x ≡ packed z d x
      packed_as x hx = below_alike z.p (is_packed z e x) (is_packed z d x) (λ k hk. page x hx k)

  module _ (p_pos : 1 ≤ z.p) where
    apart_store : (d : Device) → Lengths z d → (s : Store) → Harmless d s → Apart z d → Apart z (apply z d s)
    apart_store d L (program c k bytes tag) h a = apart_program z d L c k bytes tag h.2 h.0 h.1 a
    apart_store d L (erase bucket) h a = elim h [ ]
    apart_store d L (unit u bytes) h a = apart_unit z d u bytes a

    ledger_store : (d : Device) → Lengths z d → (n : ℕ) → (s : Store) → Harmless d s → Ledger z d n → Ledger z (apply z d s) n
    ledger_store d L n s h l = ledger_as d (apply z d s) n (store_still d L s h) (apart_store d L s h l.apart) l

    pub ledger_runs : (ss : List Store) (d : Device) (n : ℕ) → Lengths z d → Each (Harmless d) ss → Ledger z d n → Ledger z (apply_all z d ss) n
    unfolding apply_all
    ledger_runs [] d n L a l = l
    ledger_runs (s ∷ ss) d n L a l =
        ledger_runs ss (apply z d s) n (lengths_kept z d L s (harmless_fits d s a.0)) (rest_harmless d L s a.0 ss a.1) (ledger_store d L n s a.0 l)

    -- ---- cuts

    -- where no bucket with a page is named
    pub sound_found : (plain : List ℕ) (d : Device) (n : ℕ) → n ≤ 4294967296 → Ledger z d n → Sound z plain d → Findable z plain d
    sound_found plain d n high l s =
        let top = top_least z d 4294967295 (λ c hc. omega (arith, s.chip.epochs c hc)) (λ i hi. omega (arith, l.below_next i hi)) in
        ordinary z plain d (chip-lengths z s.chip) s l.entries (λ c hc u. apart_unnamed z p_pos d l.apart c u) (omega (arith, top))

    -- such a store is not torn
    cut_found : (plain : List ℕ) (d : Device) (s : Store) (ss : List Store) → Harmless d s → Findable z plain d → (blanked : ℕ → Bool) → Findable z plain (torn z (unspoiling blanked) d (s ∷ ss))
    unfolding torn
    cut_found plain d (program c k bytes tag) ss h f blanked = f
    cut_found plain d (erase bucket) ss h f blanked = elim h [ ]
    cut_found plain d (unit u bytes) ss h f blanked = f

    pub findable_cuts : (plain : List ℕ) (ss : List Store) (d : Device) (n : ℕ) → n ≤ 4294967296 → Each (Harmless d) ss → Ledger z d n
        → ((m : ℕ) → m < length ss → Sound z plain (apply_all z d (take m ss))) → Cuts z (Findable z plain) d ss
    unfolding apply_all
    findable_cuts plain [] d n high a l sound = tt
    findable_cuts plain (s ∷ ss) d n high a l sound =
        let now : Sound z plain d = sound 0 (omega arith) in
        let L = chip-lengths z now.chip in (
          cut_found plain d s ss a.0 (sound_found plain d n high l now),
          findable_cuts plain ss (apply z d s) n high (rest_harmless d L s a.0 ss a.1) (ledger_store d L n s a.0 l) (λ m h. sound (suc m) (omega arith)),
        )

    pub along_cuts : (plain : List ℕ) (ss : List Store) (d : Device) (n : ℕ) → n ≤ 4294967296 → Each (Harmless d) ss → Ledger z d n → Along z (Sound z plain) d ss → Cuts z (Findable z plain) d ss
    along_cuts plain ss d n high a l run = findable_cuts plain ss d n high a l (λ m h. along_take z (Sound z plain) d ss run m)

  -- ---- the stores of logs and of units

  -- entries are older than the next epoch
  pub next_new : (d : Device) (n : ℕ) → Ledger z d n → (c : ℕ) → New z d c n
  unfolding entry_epoch
  next_new d n l c i hi kd b q =
      let h = l.below_next i hi in
      omega (arith, q, rw (entry_page (ledger_tag z d i) kd) at h)

  pub log_harmless : (B : Limits z) (c first k e b off : ℕ) (bytes : List ℕ) → Log z c first k e b off bytes → (d : Device) → New z d c e → Each (Harmless d) (log_stores z c first k e b off bytes)
  unfolding log_stores log_store
  log_harmless B c first k e b off bytes log d new = each_row (Harmless d) (pages_for z (length bytes)) (log_store z c first k e b off bytes)
      (λ o ho. (log.bucket_in, subst (λ (x : ℕ). New z d c x) (sym (epoch_at B log o)) new, fits_at_lem B log o ho))

  pub units_harmless : (d : Device) (b : ℕ) (bytes : List ℕ) → ((u : ℕ) → u < z.p → Fits z (unit (b * z.p + u) (part bytes (u * z.s) z.s))) → Each (Harmless d) (unit_stores z b bytes)
  unfolding unit_stores unit_store
  units_harmless d b bytes fits = each_row (Harmless d) z.p (unit_store z b bytes) fits
