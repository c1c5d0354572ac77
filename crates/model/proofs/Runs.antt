-- A row of stores under the erases that the GC queue may still bring: one property holds up to the last store, another after it.
use Prim.Native.Nat.{ℕ, suc, ◌≤◌, ◌<◌}
use mathlib.Core.Path.{◌≡◌}
use mathlib.Core.List.{List, map, Memᴰ}
use native.Mathlib.Omega.{arith}
use native.Mathlib.Decide.{dec_lt}
use lib.ListN.{take}
use Rattle.lists.specs.Lists.{row, times}
use Rattle.lists.proofs.Rows.{take_row}
use Rattle.lists.proofs.Counts.{mem_times}
use Rattle.model.specs.declared.Sizes.{Sizes}
use Rattle.model.specs.Sizes.{Device}
use Rattle.model.specs.Stores.{Store, erase, apply, apply_all}
use Rattle.model.proofs.Safe.{Along}
use Rattle.model.proofs.Frames.{Lengths, Fits}
use Rattle.model.proofs.Prefix.{Aside, through, along_start, row_end, row_along}

-- On o: what holds after o stores, and stays under the erases; Far o: what they need not keep; Before and After: what counts
module _ (z : Sizes) (gs : List ℕ) (store : ℕ → Store) (n : ℕ) (On Far : ℕ → Device → Type 0) (Before After : Device → Type 0) where
  -- what each store owes
  pub record Stepwise : Type 0 where
    pub some : 1 ≤ n
    pub fits : (o : ℕ) → o < n → Fits z (store o)
    pub lens : (o : ℕ) (d : Device) → On o d → Lengths z d
    pub next : (o : ℕ) (d : Device) → o < n → On o d → On (suc o) (apply z d (store o))
    pub far : (o : ℕ) (d : Device) → o < n → On o d → Far o d → Far (suc o) (apply z d (store o))
    pub erased : (o : ℕ) → o < n → (g : ℕ) → 1 ≤ times g gs → (g < z.c) × Aside z g (store o) × ((d : Device) → On o d → On o (apply z d (erase g)))
    pub early : (o : ℕ) (d : Device) → suc o < n → On o d → Before d → Before (apply z d (store o))
    pub last : (o : ℕ) (d : Device) → suc o ≡ n → On o d → Before d → After (apply z d (store o))

  pub record Run (o : ℕ) (d : Device) : Type 0 where
    pub on : On o d
    pub afar : Far o d
    pub before : o < n → Along z Before d (map erase gs)
    pub after : o ≡ n → Along z After d (map erase gs)

  module _ (s : Stepwise) where
    run_next : (o : ℕ) (d : Device) → o < n → Run o d → Run (suc o) (apply z d (store o))
    run_next o d ho r = record {
      on = s.next o d ho r.on;
      afar = s.far o d ho r.on r.afar;
      before = λ h. through z Before Before (On o) (store o) (s.fits o ho) (s.lens o) (λ d' i q. s.early o d' h i q) gs keeps d r.on (r.before ho);
      after = λ h. through z Before After (On o) (store o) (s.fits o ho) (s.lens o) (λ d' i q. s.last o d' h i q) gs keeps d r.on (r.before ho);
    }
      where
        keeps : (g : ℕ) → Memᴰ g gs → (g < z.c) × Aside z g (store o) × ((d : Device) → On o d → On o (apply z d (erase g)))
        keeps g m = s.erased o ho g (mem_times g gs m)

    module _ (d : Device) (on : On 0 d) (afar : Far 0 d) (before : Along z Before d (map erase gs)) where
      start : Run 0 d
      start = record { on = on; afar = afar; before = λ h. before; after = λ h. absurd (omega (arith, s.some)) }

      pub run_end : Run n (apply_all z d (row n store))
      run_end = row_end z Run store n run_next d start

      pub run_cut : (m : ℕ) → m ≤ n → Run m (apply_all z d (take m (row n store)))
      run_cut m h = rw (take_row n store m h) (row_end z Run store m (λ o e ho r. run_next o e (omega arith) r) d start)

      -- a property of every stage
      pub run_along : (R : Device → Type 0) → ((o : ℕ) (e : Device) → On o e → Before e → R e) → ((o : ℕ) (e : Device) → On o e → After e → R e)
          → Along z R d (row n store)
      run_along R early last = row_along z Run store R n run_next (λ o e h r. pick o e h r (dec_lt o n)) d start
        where
          pick : (o : ℕ) (e : Device) → o ≤ n → Run o e → Dec (o < n) → R e
          pick o e h r (yes u) = early o e r.on (along_start z Before e (map erase gs) (r.before u))
          pick o e h r (no u) = last o e r.on (along_start z After e (map erase gs) (r.after (omega arith)))
