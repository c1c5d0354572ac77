-- Kept counts of blank pages: what leaves them true.
use Prim.Native.Nat.{ℕ, ◌≤◌, ◌<◌}
use mathlib.Core.Path.{◌≡◌, refl, sym, ap, ◌∙◌}
use mathlib.Core.Logic.{◌⊎◌, inl, inr, ◌≢◌}
use mathlib.Core.Bool.{Bool, true, false}
use mathlib.Core.List.{List, [], ◌∷◌, map}
use native.Mathlib.Omega.{arith}
use native.Mathlib.Decide.{ℕ_discrete}
use lib.Dec.{leb}
use borrow.Author.Tests.{eq-eqb, ne_eqb}
use Rattle.std.specs.Prelude.{if◌then◌else◌}
use Rattle.lists.specs.Lists.{all, times}
use Rattle.lists.proofs.Tests.{true_or_false, and_left, and_right, and-true}
use Rattle.lists.proofs.Rows.{count_alike}
use Rattle.lists.proofs.Counts.{times_self, times_cons}
use Rattle.model.specs.declared.Sizes.{Sizes}
use Rattle.model.specs.declared.Entry.{Entry}
use Rattle.model.specs.Sizes.{Device}
use Rattle.model.specs.Stores.{tag_of}
use Rattle.model.specs.Spare.{blank}
use Rattle.model.specs.Image.{page_blank, blanks}
use Rattle.model.specs.State.{State, moved, entry, with_priority, with_mark, is_of, holds, remarked, cache_bucket, caches, count_agrees}
use Rattle.model.specs.Operations.{halved, prioritised, recorded, counted, accept}
use Rattle.model.proofs.Queues.{absent, maps_here, holds_there}
use Rattle.model.proofs.QueuesGrown.{all_map}

module _ (z : Sizes) where
  pub blanks-same : (d e : Device) (c : ℕ) → ((k : ℕ) → k < z.p → tag_of z e c k ≡ tag_of z d c k) → blanks z e c ≡ blanks z d c
  unfolding blanks page_blank
  blanks-same d e c same = count_alike z.p (page_blank z e c) (page_blank z d c) (λ k hk. ap blank (same k hk))

  pub count_same : (d e : Device) (x : Entry) → ((k : ℕ) → k < z.p → tag_of z e x.cache k ≡ tag_of z d x.cache k) → count_agrees z d x ≡ true → count_agrees z e x ≡ true
  unfolding count_agrees
  count_same d e x same h = rw (blanks-same d e x.cache same) h

  -- the queued buckets have the same tags
  pub counts_stay : (d e : Device) (l : List Entry) → ((c : ℕ) → 1 ≤ times c (caches l) → (k : ℕ) → k < z.p → tag_of z e c k ≡ tag_of z d c k)
      → all (count_agrees z d) l ≡ true → all (count_agrees z e) l ≡ true
  unfolding all caches cache_bucket
  counts_stay d e [] same h = refl
  counts_stay d e (x ∷ l) same h =
      and-true (count_same d e x (same x.cache (omega (arith, times_cons x.cache x.cache (caches l), times_self x.cache))) (and_left (count_agrees z d x) (all (count_agrees z d) l) h))
      (counts_stay d e l (λ c t. same c (omega (arith, times_cons c x.cache (caches l)))) (and_right (count_agrees z d x) (all (count_agrees z d) l) h))

  module _ (d : Device) where
    pub counts_remarked : (b : ℕ) (t : Bool) (l : List Entry) → all (count_agrees z d) l ≡ true → all (count_agrees z d) (map (remarked b t) l) ≡ true
    unfolding count_agrees remarked with_mark
    counts_remarked b t l h = all_map (count_agrees z d) (count_agrees z d) (remarked b t) (λ e q. go e (true_or_false (is_of b e)) q) l h
      where
        go : (e : Entry) → (is_of b e ≡ true) ⊎ (is_of b e ≡ false) → count_agrees z d e ≡ true → count_agrees z d (remarked b t e) ≡ true
        go e (inl q) h' = rw q h'
        go e (inr q) h' = rw q h'

    counts_halved : (e : Entry) → count_agrees z d e ≡ true → count_agrees z d (halved e) ≡ true
    unfolding count_agrees halved with_priority
    counts_halved e h = h

    -- b's record after a log that leaves it n blank pages, and any other as it was
    abbrev pub agrees_after : (b n : ℕ) → Entry → Bool
    agrees_after b n e = count_agrees z d (prioritised b n e)

    -- a new record of b
    pub agrees-set : (b c n : ℕ) → blanks z d c ≡ n → (e : Entry) → e.back ≡ b → e.cache ≡ c → agrees_after b n e ≡ true
    unfolding count_agrees prioritised entry is_of
    agrees-set b c n h e q r = rw (eq-eqb e.back b q) (eq-eqb n _ (sym h ∙ ap (blanks z d) (sym r)))

    pub agrees_other : (b n : ℕ) (e : Entry) → e.back ≢ b → count_agrees z d e ≡ true → agrees_after b n e ≡ true
    unfolding prioritised is_of
    agrees_other b n e ne h = rw (ne_eqb e.back b ne) h

    pub counts_absent : (b n : ℕ) (l : List Entry) → holds b l ≡ false → all (count_agrees z d) l ≡ true → all (agrees_after b n) l ≡ true
    unfolding all
    counts_absent b n [] h q = refl
    counts_absent b n (e ∷ l) h q = go (ℕ_discrete e.back b) (λ h'. counts_absent b n l h' (and_right (count_agrees z d e) (all (count_agrees z d) l) q))
      where
        go : Dec (e.back ≡ b) → (holds b l ≡ false → all (agrees_after b n) l ≡ true) → all (agrees_after b n) (e ∷ l) ≡ true
        go (yes u) r = absurd (absent h (maps_here e l b u))
        go (no ne) r = and-true (agrees_other b n e ne (and_left (count_agrees z d e) (all (count_agrees z d) l) q)) (r (sym (holds_there e l b ne) ∙ h))

    pub counts_accepted : (b n : ℕ) (s : State) → all (agrees_after b n) s.writes ≡ true → all (count_agrees z d) (accept b n s).writes ≡ true
    unfolding accept counted recorded moved
    counts_accepted b n s h = go (leb 15 s.accepted)
      where
        set : all (count_agrees z d) (map (prioritised b n) s.writes) ≡ true
        set = all_map (agrees_after b n) (count_agrees z d) (prioritised b n) (λ e q. q) s.writes h

        go : (t : Bool) → all (count_agrees z d) (if t then map halved (map (prioritised b n) s.writes) else map (prioritised b n) s.writes) ≡ true
        go true = all_map (count_agrees z d) (count_agrees z d) halved counts_halved (map (prioritised b n) s.writes) set
        go false = set
