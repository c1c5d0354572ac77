-- Queues of back-end buckets: what a queue maps, how often it has a cache bucket, and the queue without one back-end bucket.
use Prim.Native.Nat.{ℕ, ◌+◌, ◌≤◌}
use mathlib.Core.Path.{◌≡◌, refl, sym, ap, ◌∙◌}
use mathlib.Core.Logic.{◌⊎◌, inl, inr, ◌≢◌}
use mathlib.Core.Bool.{true, false, true≢false}
use mathlib.Core.List.{List, [], ◌∷◌}
use native.Mathlib.Omega.{arith}
use native.Mathlib.Decide.{ℕ_discrete}
use lib.ListN.{length}
use borrow.Author.Tests.{ne_eqb, eq-eqb}
use Rattle.lists.specs.Lists.{keep, times, distinct}
use Rattle.lists.proofs.Tests.{true_or_false}
use Rattle.lists.proofs.Counts.{times_self, times_other, times_cons, distinct-times, times-distinct}
use Rattle.model.specs.declared.Entry.{Entry}
use Rattle.model.specs.State.{is_of, is_other, holds, cache_of, caches_of, without, cache_bucket, back_bucket, caches, backs, record_of}

-- the back-end bucket b has the cache bucket c in the queue
pub record Maps (l : List Entry) (b c : ℕ) : Type 0 where
  pub held : holds b l ≡ true
  pub is : cache_of b l ≡ c

pub absent : {l : List Entry} {b c : ℕ} → holds b l ≡ false → Maps l b c → ⊥
absent n m = true≢false (sym m.held ∙ n)

-- ---- the first entry

module _ (e : Entry) (l : List Entry) (b : ℕ) where
  pub record_here : e.back ≡ b → record_of b (e ∷ l) ≡ e
  unfolding record_of is_of
  record_here q = rw (eq-eqb e.back b q)

  pub record_there : e.back ≢ b → record_of b (e ∷ l) ≡ record_of b l
  unfolding record_of is_of
  record_there ne = rw (ne_eqb e.back b ne)

  pub maps_here : e.back ≡ b → Maps (e ∷ l) b e.cache
  unfolding holds cache_of cache_bucket is_of
  maps_here q = record { held = rw (eq-eqb e.back b q); is = ap cache_bucket (record_here q) }

  pub holds_there : e.back ≢ b → holds b (e ∷ l) ≡ holds b l
  unfolding holds is_of
  holds_there ne = rw (ne_eqb e.back b ne)

  pub cache_of_there : e.back ≢ b → cache_of b (e ∷ l) ≡ cache_of b l
  unfolding cache_of cache_bucket
  cache_of_there ne = ap cache_bucket (record_there ne)

  pub maps_there : (c : ℕ) → e.back ≢ b → Maps l b c → Maps (e ∷ l) b c
  maps_there c ne m = record { held = holds_there ne ∙ m.held; is = cache_of_there ne ∙ m.is }

  pub maps_first : (c : ℕ) → Maps (e ∷ l) b c → ((e.back ≡ b) × (e.cache ≡ c)) ⊎ ((e.back ≢ b) × Maps l b c)
  maps_first c m = go (ℕ_discrete e.back b)
    where
      go : Dec (e.back ≡ b) → ((e.back ≡ b) × (e.cache ≡ c)) ⊎ ((e.back ≢ b) × Maps l b c)
      go (yes q) = inl (q, sym (maps_here q).is ∙ m.is)
      go (no ne) = inr (ne, record { held = sym (holds_there ne) ∙ m.held; is = sym (cache_of_there ne) ∙ m.is })

  pub without_here : e.back ≡ b → without b (e ∷ l) ≡ without b l
  unfolding without keep is_other is_of
  without_here q = rw (eq-eqb e.back b q)

  pub without_there : e.back ≢ b → without b (e ∷ l) ≡ e ∷ without b l
  unfolding without keep is_other is_of
  without_there ne = rw (ne_eqb e.back b ne)

  pub caches_of_here : e.back ≡ b → caches_of b (e ∷ l) ≡ e.cache ∷ []
  unfolding caches_of
  caches_of_here q = rw ((maps_here q).held, (maps_here q).is)

  pub caches_of_there : e.back ≢ b → caches_of b (e ∷ l) ≡ caches_of b l
  unfolding caches_of
  caches_of_there ne = rw (holds_there ne, cache_of_there ne)

pub caches_of-none : (l : List Entry) (b : ℕ) → holds b l ≡ false → caches_of b l ≡ []
unfolding caches_of
caches_of-none l b h = rw h

pub caches_of_one : (l : List Entry) (b c : ℕ) → Maps l b c → caches_of b l ≡ c ∷ []
unfolding caches_of
caches_of_one l b c m = rw (m.held, m.is)

-- ---- counts

pub maps_times : (l : List Entry) (b c : ℕ) → Maps l b c → 1 ≤ times c (caches l)
unfolding holds caches cache_bucket
maps_times [] b c m = absurd (true≢false (sym m.held))
maps_times (e ∷ l) b c m = go (maps_first e l b c m) (λ q. maps_times l b c q)
  where
    go : ((e.back ≡ b) × (e.cache ≡ c)) ⊎ ((e.back ≢ b) × Maps l b c) → (Maps l b c → 1 ≤ times c (caches l)) → 1 ≤ times c (e.cache ∷ caches l)
    go (inl h) r = omega (arith, times_cons c e.cache (caches l), ap (λ (x : ℕ). times c (x ∷ [])) h.1, times_self c)
    go (inr h) r = omega (arith, times_cons c e.cache (caches l), r h.1)

pub absent_times : (l : List Entry) (b : ℕ) → holds b l ≡ false → times b (backs l) ≡ 0
unfolding holds backs back_bucket times
absent_times [] b h = refl
absent_times (e ∷ l) b h = go (ℕ_discrete e.back b) (λ q. absent_times l b q)
  where
    go : Dec (e.back ≡ b) → (holds b l ≡ false → times b (backs l) ≡ 0) → times b (e.back ∷ backs l) ≡ 0
    go (yes q) r = absurd (absent h (maps_here e l b q))
    go (no ne) r = omega (arith, times_cons b e.back (backs l), times_other b e.back (λ q. ne (sym q)), r (sym (holds_there e l b ne) ∙ h))

pub held_times : (l : List Entry) (b : ℕ) → holds b l ≡ true → 1 ≤ times b (backs l)
unfolding holds backs back_bucket
held_times [] b h = absurd (true≢false (sym h))
held_times (e ∷ l) b h = go (ℕ_discrete e.back b) (λ q. held_times l b q)
  where
    go : Dec (e.back ≡ b) → (holds b l ≡ true → 1 ≤ times b (backs l)) → 1 ≤ times b (e.back ∷ backs l)
    go (yes q) r = omega (arith, times_cons b e.back (backs l), ap (λ (x : ℕ). times b (x ∷ [])) q, times_self b)
    go (no ne) r = omega (arith, times_cons b e.back (backs l), r (sym (holds_there e l b ne) ∙ h))

-- the entries behind the first are of other back-end buckets
pub distinct-rest : (e : Entry) (l : List Entry) → distinct (backs (e ∷ l)) ≡ true → (distinct (backs l) ≡ true) × (holds e.back l ≡ false)
unfolding backs back_bucket
distinct-rest e l h = (times-distinct (backs l) (λ x. omega (arith, distinct-times (e.back ∷ backs l) h x, times_cons x e.back (backs l))), go (true_or_false (holds e.back l)))
  where
    go : (holds e.back l ≡ true) ⊎ (holds e.back l ≡ false) → holds e.back l ≡ false
    go (inr n) = n
    go (inl m) = absurd (omega (arith, distinct-times (e.back ∷ backs l) h e.back, times_cons e.back e.back (backs l), times_self e.back, held_times l e.back m))

-- a cache bucket of the queue has a back-end bucket
pub times_maps : (l : List Entry) → distinct (backs l) ≡ true → (c : ℕ) → 1 ≤ times c (caches l) → (b : ℕ) × Maps l b c
unfolding caches cache_bucket times
times_maps [] ds c t = absurd (omega arith)
times_maps (e ∷ l) ds c t = go (ℕ_discrete c e.cache) (λ t'. times_maps l (distinct-rest e l ds).0 c t')
  where
    go : Dec (c ≡ e.cache) → (1 ≤ times c (caches l) → (b : ℕ) × Maps l b c) → (b : ℕ) × Maps (e ∷ l) b c
    go (yes q) r = (e.back, rw q (maps_here e l e.back refl))
    go (no ne) r = more (r (omega (arith, times_cons c e.cache (caches l), times_other c e.cache ne)))
      where
        more : (b : ℕ) × Maps l b c → (b : ℕ) × Maps (e ∷ l) b c
        more x = (x.0, maps_there e l x.0 c (λ q. absent (distinct-rest e l ds).1 (rw (← q) at x.1)) x.1)

-- ---- without b

pub absent_without : (l : List Entry) (b : ℕ) → holds b (without b l) ≡ false
unfolding without keep holds
absent_without [] b = refl
absent_without (e ∷ l) b = go (ℕ_discrete e.back b) (absent_without l b)
  where
    go : Dec (e.back ≡ b) → holds b (without b l) ≡ false → holds b (without b (e ∷ l)) ≡ false
    go (yes q) r = rw (without_here e l b q) r
    go (no ne) r = rw (without_there e l b ne) (holds_there e (without b l) b ne ∙ r)

pub without_maps : (l : List Entry) (b b' c : ℕ) → b ≢ b' → Maps l b' c → Maps (without b l) b' c
unfolding without keep
without_maps [] b b' c ne m = m
without_maps (e ∷ l) b b' c ne m = go (ℕ_discrete e.back b) (maps_first e l b' c m) (λ q. without_maps l b b' c ne q)
  where
    go : Dec (e.back ≡ b) → ((e.back ≡ b') × (e.cache ≡ c)) ⊎ ((e.back ≢ b') × Maps l b' c) → (Maps l b' c → Maps (without b l) b' c) → Maps (without b (e ∷ l)) b' c
    go (yes q) (inl h) r = absurd (ne (sym q ∙ h.0))
    go (yes q) (inr h) r = rw (without_here e l b q) (r h.1)
    go (no n) (inl h) r = rw (without_there e l b n, ← h.1) (maps_here e (without b l) b' h.0)
    go (no n) (inr h) r = rw (without_there e l b n) (maps_there e (without b l) b' c h.0 (r h.1))

maps_without_rest : (l : List Entry) (b b' c : ℕ) → Maps (without b l) b' c → Maps l b' c
unfolding without keep
maps_without_rest [] b b' c m = m
maps_without_rest (e ∷ l) b b' c m = go (ℕ_discrete e.back b) (λ q. maps_without_rest l b b' c q)
  where
    go : Dec (e.back ≡ b) → (Maps (without b l) b' c → Maps l b' c) → Maps (e ∷ l) b' c
    go (yes q) r =
        let m' : Maps (without b l) b' c = rw (without_here e l b q) at m in
        maps_there e l b' c (λ h. absent (absent_without l b) (rw (sym h ∙ q) at m')) (r m')
    go (no n) r = pick (maps_first e (without b l) b' c (rw (without_there e l b n) at m))
      where
        pick : ((e.back ≡ b') × (e.cache ≡ c)) ⊎ ((e.back ≢ b') × Maps (without b l) b' c) → Maps (e ∷ l) b' c
        pick (inl h) = rw (← h.1) (maps_here e l b' h.0)
        pick (inr h) = maps_there e l b' c h.0 (r h.1)

pub maps_without : (l : List Entry) (b b' c : ℕ) → Maps (without b l) b' c → (b ≢ b') × Maps l b' c
maps_without l b b' c m = ((λ q. absent (absent_without l b) (rw (← q) at m)), maps_without_rest l b b' c m)

-- one that was absent still is
pub still_absent : (l : List Entry) (v b : ℕ) → holds b l ≡ false → holds b (without v l) ≡ false
still_absent l v b n = go (true_or_false (holds b (without v l)))
  where
    go : (holds b (without v l) ≡ true) ⊎ (holds b (without v l) ≡ false) → holds b (without v l) ≡ false
    go (inr q) = q
    go (inl q) = absurd (absent n (maps_without l v b _ (record { held = q; is = refl })).1)

pub without_absent : (l : List Entry) (b : ℕ) → holds b l ≡ false → without b l ≡ l
unfolding without keep
without_absent [] b h = refl
without_absent (e ∷ l) b h = go (ℕ_discrete e.back b) (λ q. without_absent l b q)
  where
    go : Dec (e.back ≡ b) → (holds b l ≡ false → without b l ≡ l) → without b (e ∷ l) ≡ e ∷ l
    go (yes q) r = absurd (absent h (maps_here e l b q))
    go (no ne) r = without_there e l b ne ∙ ap (λ (x : List Entry). e ∷ x) (r (sym (holds_there e l b ne) ∙ h))

pub times-without : (l : List Entry) (b : ℕ) → distinct (backs l) ≡ true → (c : ℕ) → times c (caches l) ≡ times c (caches (without b l)) + times c (caches_of b l)
unfolding caches cache_bucket holds without keep times
times-without [] b ds c = rw (caches_of-none [] b refl)
times-without (e ∷ l) b ds c = go (ℕ_discrete e.back b) (times-without l b (distinct-rest e l ds).0 c)
  where
    go : Dec (e.back ≡ b) → times c (caches l) ≡ times c (caches (without b l)) + times c (caches_of b l)
        → times c (e.cache ∷ caches l) ≡ times c (caches (without b (e ∷ l))) + times c (caches_of b (e ∷ l))
    go (yes q) r =
        let n : holds b l ≡ false = rw (← q) (distinct-rest e l ds).1 in
        rw (without_here e l b q, caches_of_here e l b q, without_absent l b n) (omega (arith, times_cons c e.cache (caches l)))
    go (no ne) r =
        rw (without_there e l b ne, caches_of_there e l b ne)
        (omega (arith, times_cons c e.cache (caches l), times_cons c e.cache (caches (without b l)), r))

-- the same of any queue: its entries of b leave, and the first of them is counted
pub times_left : (l : List Entry) (b c : ℕ) → times c (caches (without b l)) + times c (caches_of b l) ≤ times c (caches l)
unfolding caches cache_bucket holds without keep times
times_left [] b c = rw (caches_of-none [] b refl) (omega arith)
times_left (e ∷ l) b c = go (ℕ_discrete e.back b) (times_left l b c)
  where
    go : Dec (e.back ≡ b) → times c (caches (without b l)) + times c (caches_of b l) ≤ times c (caches l)
        → times c (caches (without b (e ∷ l))) + times c (caches_of b (e ∷ l)) ≤ times c (e.cache ∷ caches l)
    go (yes q) r = rw (without_here e l b q, caches_of_here e l b q) (omega (arith, times_cons c e.cache (caches l)))
    go (no ne) r =
        rw (without_there e l b ne, caches_of_there e l b ne)
        (omega (arith, times_cons c e.cache (caches l), times_cons c e.cache (caches (without b l)), r))

times-backs-without : (l : List Entry) (b x : ℕ) → times x (backs (without b l)) ≤ times x (backs l)
unfolding backs back_bucket without keep
times-backs-without [] b x = omega arith
times-backs-without (e ∷ l) b x = go (ℕ_discrete e.back b) (times-backs-without l b x)
  where
    go : Dec (e.back ≡ b) → times x (backs (without b l)) ≤ times x (backs l) → times x (backs (without b (e ∷ l))) ≤ times x (e.back ∷ backs l)
    go (yes q) r = rw (without_here e l b q) (omega (arith, times_cons x e.back (backs l)))
    go (no ne) r = rw (without_there e l b ne) (omega (arith, times_cons x e.back (backs l), times_cons x e.back (backs (without b l))))

pub distinct_without : (l : List Entry) (b : ℕ) → distinct (backs l) ≡ true → distinct (backs (without b l)) ≡ true
distinct_without l b ds = times-distinct (backs (without b l)) (λ x. omega (arith, distinct-times (backs l) ds x, times-backs-without l b x))

pub length_without : (l : List Entry) (b : ℕ) → length (without b l) + length (caches_of b l) ≤ length l
unfolding without keep holds
length_without [] b = rw (caches_of-none [] b refl) (omega arith)
length_without (e ∷ l) b = go (ℕ_discrete e.back b) (length_without l b)
  where
    go : Dec (e.back ≡ b) → length (without b l) + length (caches_of b l) ≤ length l → length (without b (e ∷ l)) + length (caches_of b (e ∷ l)) ≤ length (e ∷ l)
    go (yes q) r = rw (without_here e l b q, caches_of_here e l b q) (omega arith)
    go (no ne) r = rw (without_there e l b ne, caches_of_there e l b ne) (omega arith)

-- b has one entry at the most
pub length-distinct : (l : List Entry) (b : ℕ) → distinct (backs l) ≡ true → length l ≤ length (without b l) + 1
unfolding without keep
length-distinct [] b ds = omega arith
length-distinct (e ∷ l) b ds = go (ℕ_discrete e.back b) (length-distinct l b (distinct-rest e l ds).0)
  where
    go : Dec (e.back ≡ b) → length l ≤ length (without b l) + 1 → length (e ∷ l) ≤ length (without b (e ∷ l)) + 1
    go (yes q) r = rw (without_here e l b q, without_absent l b (rw (← q) (distinct-rest e l ds).1)) (omega arith)
    go (no ne) r = rw (without_there e l b ne) (omega arith)
