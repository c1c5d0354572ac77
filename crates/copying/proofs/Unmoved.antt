-- The bytes of a back-end bucket are the same on every chip and disk that show its own alike; and stores in the ledger, or that erase another bucket, leave them so.
use Prim.Native.Nat.{ℕ, zero, suc, ◌≤◌, ◌<◌}
use mathlib.Core.Path.{◌≡◌, refl, sym, ◌∙◌}
use mathlib.Core.Bool.{true, false, true≢false}
use mathlib.Core.Logic.{◌⊎◌, inl, inr, ◌≢◌}
use mathlib.Core.List.{List, [], ◌∷◌}
use native.Mathlib.Omega.{arith}
use native.Mathlib.Decide.{ℕ_discrete}
use lib.Dec.{eqb}
use Rattle.std.specs.Prelude.{Option, Some, None, IfSome}
use Rattle.lists.specs.Lists.{times}
use Rattle.lists.proofs.Tests.{true_or_false}
use Rattle.lists.proofs.Counts.{times_self, times_cons}
use Rattle.model.specs.declared.Sizes.{Sizes}
use Rattle.model.specs.declared.Entry.{Entry}
use Rattle.model.specs.Sizes.{Device, body}
use Rattle.model.specs.Stores.{Store, program, erase, unit, apply, disk_bytes}
use Rattle.model.specs.Image.{bucket_fits, used, body_fits, merge_to, merge}
use Rattle.model.specs.Recover.{merge_all}
use Rattle.model.proofs.Tags.{programmed-ff}
use Rattle.model.proofs.Limits.{on_chip}
use Rattle.model.proofs.Heads.{Blank, head-blank}
use Rattle.model.proofs.Frames.{Lengths, Fits, lengths_kept, disk_programmed, tag_erased, disk_erased}
use Rattle.model.proofs.Formed.{Formed, formed_of, formed_test}
use Rattle.model.proofs.FormedKept.{blank-fits}
use Rattle.model.proofs.Show.{Same, same_refl, same_trans, same_program, same_erase, used-same, epoch_of-same, fits-same, ends_log-same, log_bytes-same}
use Rattle.meter.specs.Run.{Run, step, run_all}
use Rattle.copying.specs.Laid.{under_bytes, listed_bytes}

module _ (z : Sizes) (p_low : 1 ≤ z.p) where
  module _ (d e : Device) where
    merge_to-same : (c : ℕ) → Same z d e c → (base : List ℕ) (n : ℕ) → n ≤ z.p → merge_to z e c base n ≡ merge_to z d c base n
    unfolding merge_to
    merge_to-same c s base zero h = refl
    merge_to-same c s base (suc k) h =
        let tag = s.tags-same k h in
        rw (ends_log-same z p_low d e c s k h, log_bytes-same z p_low d e c s k h, tag, merge_to-same c s base k (omega arith))

    pub merge-same : (c : ℕ) → Same z d e c → (base : List ℕ) → merge z e c base ≡ merge z d c base
    unfolding merge
    merge-same c s base = merge_to-same c s base z.p (omega arith)

    merge-all-same : (l : List ℕ) → ((c : ℕ) → 1 ≤ times c l → Same z d e c) → (base : List ℕ) → merge_all z e l base ≡ merge_all z d l base
    unfolding merge_all
    merge-all-same [] h base = refl
    merge-all-same (c ∷ l) h base =
        rw (merge-same c (h c (omega (arith, times_cons c c l, times_self c))) base)
        (merge-all-same l (λ x t. h x (omega (arith, times_cons x c l))) (merge z d c base))

    module _ (base : Option Entry) (b : ℕ) (read : IfSome base (λ copy. Same z d e copy.cache)) (disk : disk_bytes z e b ≡ disk_bytes z d b) where
      under_same : under_bytes z e base b ≡ under_bytes z d base b
      unfolding under_bytes
      under_same = go base read
        where
          go : (o : Option Entry) → IfSome o (λ copy. Same z d e copy.cache) → under_bytes z e o b ≡ under_bytes z d o b
          go (Some copy) same = same.bytes_same
          go None same = disk

      pub listed_same : (list : List ℕ) → ((c : ℕ) → 1 ≤ times c list → Same z d e c) → listed_bytes z e list base b ≡ listed_bytes z d list base b
      listed_same list write = rw under_same (merge-all-same list write (under_bytes z d base b))

  -- ---- another bucket erased, and the ledger written to

  -- e shows the buckets outside the ledger as d does, but for c, which may be blank
  pub record Unmoved (c : ℕ) (d e : Device) : Type 0 where
    pub others : (x : ℕ) → x < body z → x ≢ c → Same z d e x
    pub own : Same z d e c ⊎ Blank z e c
    pub disk : (b : ℕ) → disk_bytes z e b ≡ disk_bytes z d b

  as_it_was : (c : ℕ) (d : Device) → Unmoved c d d
  as_it_was c d = record { others = λ x h ne. same_refl z d x; own = inl (same_refl z d c); disk = λ b. refl }

  unmoved_then : (c : ℕ) (d e f : Device) → Unmoved c d e → Unmoved c e f → Unmoved c d f
  unmoved_then c d e f u v = record {
    others = λ x h ne. same_trans z (u.others x h ne) (v.others x h ne);
    own = go u.own v.own;
    disk = λ b. v.disk b ∙ u.disk b;
  }
    where
      go : Same z d e c ⊎ Blank z e c → Same z e f c ⊎ Blank z f c → Same z d f c ⊎ Blank z f c
      go s (inr w) = inr w
      go (inl s) (inl t) = inl (same_trans z s t)
      go (inr w) (inl t) = inr (λ k hk. t.tags-same k hk ∙ w k hk)

  module _ {c : ℕ} {d e : Device} (u : Unmoved c d e) where
    -- a bucket that is still used is as it was
    still : (x : ℕ) → x < body z → used z e x ≡ true → Same z d e x
    unfolding used
    still x hx h = go (ℕ_discrete x c) u.own
      where
        go : Dec (x ≡ c) → Same z d e c ⊎ Blank z e c → Same z d e x
        go (no ne) o = u.others x hx ne
        go (yes q) (inl s) = rw q s
        go (yes q) (inr w) = absurd (true≢false (sym (rw q at h) ∙ rw (head-blank z p_low e c w, programmed-ff)))

    still_fits : (x : ℕ) → x < body z → bucket_fits z d x ≡ true → bucket_fits z e x ≡ true
    still_fits x hx h = go (ℕ_discrete x c) u.own
      where
        go : Dec (x ≡ c) → Same z d e c ⊎ Blank z e c → bucket_fits z e x ≡ true
        go (no ne) o = fits-same z p_low d e x (u.others x hx ne) ∙ h
        go (yes q) (inl s) = fits-same z p_low d e x (rw q s) ∙ h
        go (yes q) (inr w) = rw q (blank-fits z p_low e c w)

    -- the page rules hold as before
    pub formed : body_fits z d ≡ true → body_fits z e ≡ true
    formed h = formed_test z e (record {
      buckets_fit = λ x hx. still_fits x hx (f.buckets_fit x hx);
      epochs_differ = λ x y hx hy ux uy same. f.epochs_differ x y hx hy (before x hx ux) (before y hy uy)
          (sym (epoch_of-same z p_low d e x (still x hx ux)) ∙ same ∙ epoch_of-same z p_low d e y (still y hy uy));
    })
      where
        f : Formed z d
        f = formed_of z d h

        before : (x : ℕ) → x < body z → used z e x ≡ true → used z d x ≡ true
        before x hx ux = sym (used-same z p_low d e x (still x hx ux)) ∙ ux

  -- ---- the stores that leave the buckets so

  -- in the ledger, or the erase of c
  abbrev pub Beside : ℕ → Store → Type 0
  Beside c (program l k bytes tag) = body z ≤ l
  Beside c (erase l) = (l ≡ c) ⊎ (body z ≤ l)
  Beside c (unit u bytes) = ⊥

  abbrev pub AllBeside : ℕ → List Store → Type 0
  AllBeside c [] = Unit {0}
  AllBeside c (s ∷ ss) = Fits z s × Beside c s × AllBeside c ss

  module _ (c : ℕ) (hc : c < body z) where
    store_unmoved : (d : Device) → Lengths z d → (s : Store) → Fits z s → Beside c s → Unmoved c d (apply z d s)
    store_unmoved d lens (program l k bytes tag) f b = record {
      others = λ x h ne. same_program z d lens l k bytes tag f x (λ q. omega arith);
      own = inl (same_program z d lens l k bytes tag f c (λ q. omega arith));
      disk = disk_programmed z d lens l k bytes tag f;
    }
    store_unmoved d lens (erase l) f (inl q) = rw q (record {
      others = λ x h ne. same_erase z d lens c (on_chip z c hc) x ne;
      own = inr (tag_erased z d lens c (on_chip z c hc));
      disk = disk_erased z d lens c (on_chip z c hc);
    })
    store_unmoved d lens (erase l) f (inr b) = record {
      others = λ x h ne. same_erase z d lens l f x (λ q. omega arith);
      own = inl (same_erase z d lens l f c (λ q. omega arith));
      disk = disk_erased z d lens l f;
    }
    store_unmoved d lens (unit u bytes) f b = absurd b

    -- made or cut
    step_unmoved : (s : Store) (r : Run) → Lengths z r.device → Fits z s → Beside c s → Unmoved c r.device (step z s r).device × Lengths z (step z s r).device
    unfolding step
    step_unmoved s r lens f b = go (true_or_false (eqb r.meter.left 0))
      where
        go : (eqb r.meter.left 0 ≡ true) ⊎ (eqb r.meter.left 0 ≡ false) → Unmoved c r.device (step z s r).device × Lengths z (step z s r).device
        go (inl none) = rw none (as_it_was c r.device, lens)
        go (inr some) = rw some (store_unmoved r.device lens s f b, lengths_kept z r.device lens s f)

    pub run_unmoved : (ss : List Store) (r : Run) → Lengths z r.device → AllBeside c ss → Unmoved c r.device (run_all z ss r).device
    unfolding run_all
    run_unmoved [] r lens h = as_it_was c r.device
    run_unmoved (s ∷ ss) r lens h =
        let first = step_unmoved s r lens h.0 h.1 in
        unmoved_then c r.device (step z s r).device _ first.0 (run_unmoved ss (step z s r) first.1 h.2)
