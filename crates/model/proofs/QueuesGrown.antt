-- A queue with an entry more at its end, a queue with other priorities, and tests of all entries.
use Prim.Native.Nat.{ℕ, ◌+◌, ◌≤◌}
use mathlib.Core.Path.{◌≡◌, refl, sym, ap, ap₂, ◌∙◌}
use mathlib.Core.Logic.{◌⊎◌, inl, inr, ◌≢◌}
use mathlib.Core.Bool.{Bool, true, false, true≢false}
use mathlib.Core.List.{List, [], ◌∷◌, ◌++◌, map}
use native.Mathlib.Omega.{arith}
use native.Mathlib.Decide.{ℕ_discrete}
use lib.Dec.{eqb}
use Rattle.std.specs.Prelude.{if◌then◌else◌}
use Rattle.lists.specs.Lists.{all, keep, times, distinct}
use Rattle.lists.proofs.Tests.{and_left, and_right, and-true}
use Rattle.lists.proofs.Rows.{map_append}
use Rattle.lists.proofs.Counts.{times_other, times_one, times_append, distinct-times, times-distinct}
use Rattle.model.specs.declared.Entry.{Entry}
use Rattle.model.specs.State.{is_of, holds, cache_of, without, cache_bucket, back_bucket, caches, backs, record_of}
use Rattle.model.proofs.Queues.{Maps, absent, maps_here, maps_there, maps_first, holds_there, distinct-rest, absent_times, without_here, without_there, cache_of_there}

-- ---- an entry more

module _ (e : Entry) where
  pub times_grown : (l : List Entry) (c : ℕ) → times c (caches (l ++ (e ∷ []))) ≡ times c (caches l) + times c (e.cache ∷ [])
  unfolding caches cache_bucket
  times_grown l c = ap (times c) (map_append cache_bucket l (e ∷ [])) ∙ times_append c (caches l) (e.cache ∷ [])

  pub maps_older : (l : List Entry) (b c : ℕ) → Maps l b c → Maps (l ++ (e ∷ [])) b c
  unfolding holds
  maps_older [] b c m = absurd (true≢false (sym m.held))
  maps_older (x ∷ l) b c m = go (maps_first x l b c m) (λ q. maps_older l b c q)
    where
      go : ((x.back ≡ b) × (x.cache ≡ c)) ⊎ ((x.back ≢ b) × Maps l b c) → (Maps l b c → Maps (l ++ (e ∷ [])) b c) → Maps (x ∷ (l ++ (e ∷ []))) b c
      go (inl h) r = rw (← h.1) (maps_here x (l ++ (e ∷ [])) b h.0)
      go (inr h) r = maps_there x (l ++ (e ∷ [])) b c h.0 (r h.1)

  pub maps_newest : (l : List Entry) → holds e.back l ≡ false → Maps (l ++ (e ∷ [])) e.back e.cache
  maps_newest [] h = maps_here e [] e.back refl
  maps_newest (x ∷ l) h = go (ℕ_discrete x.back e.back) (λ q. maps_newest l q)
    where
      go : Dec (x.back ≡ e.back) → (holds e.back l ≡ false → Maps (l ++ (e ∷ [])) e.back e.cache) → Maps (x ∷ (l ++ (e ∷ []))) e.back e.cache
      go (yes q) r = absurd (absent h (maps_here x l e.back q))
      go (no ne) r = maps_there x (l ++ (e ∷ [])) e.back e.cache ne (r (sym (holds_there x l e.back ne) ∙ h))

  -- what the longer queue maps: what it did, or the new entry
  pub maps_grown : (l : List Entry) (b c : ℕ) → Maps (l ++ (e ∷ [])) b c → Maps l b c ⊎ ((e.back ≡ b) × (e.cache ≡ c))
  unfolding holds
  maps_grown [] b c m = go (maps_first e [] b c m)
    where
      go : ((e.back ≡ b) × (e.cache ≡ c)) ⊎ ((e.back ≢ b) × Maps [] b c) → Maps [] b c ⊎ ((e.back ≡ b) × (e.cache ≡ c))
      go (inl h) = inr h
      go (inr h) = inl h.1
  maps_grown (x ∷ l) b c m = go (maps_first x (l ++ (e ∷ [])) b c m) (λ q. maps_grown l b c q)
    where
      go : ((x.back ≡ b) × (x.cache ≡ c)) ⊎ ((x.back ≢ b) × Maps (l ++ (e ∷ [])) b c) → (Maps (l ++ (e ∷ [])) b c → Maps l b c ⊎ ((e.back ≡ b) × (e.cache ≡ c)))
          → Maps (x ∷ l) b c ⊎ ((e.back ≡ b) × (e.cache ≡ c))
      go (inl h) r = inl (rw (← h.1) (maps_here x l b h.0))
      go (inr h) r = pick (r h.1)
        where
          pick : Maps l b c ⊎ ((e.back ≡ b) × (e.cache ≡ c)) → Maps (x ∷ l) b c ⊎ ((e.back ≡ b) × (e.cache ≡ c))
          pick (inl q) = inl (maps_there x l b c h.0 q)
          pick (inr q) = inr q

  pub distinct_grown : (l : List Entry) → holds e.back l ≡ false → distinct (backs l) ≡ true → distinct (backs (l ++ (e ∷ []))) ≡ true
  unfolding backs back_bucket
  distinct_grown l h ds = rw (map_append back_bucket l (e ∷ [])) (times-distinct (backs l ++ (e.back ∷ [])) (λ x. count x (ℕ_discrete x e.back)))
    where
      count : (x : ℕ) → Dec (x ≡ e.back) → times x (backs l ++ (e.back ∷ [])) ≤ 1
      count x (yes q) = omega (arith, times_append x (backs l) (e.back ∷ []), times_one x e.back, ap (λ (y : ℕ). times y (backs l)) q, absent_times l e.back h)
      count x (no ne) = omega (arith, times_append x (backs l) (e.back ∷ []), times_other x e.back ne, distinct-times (backs l) ds x)

-- ---- other priorities

-- back-end and cache bucket of each entry stay
abbrev pub Keeps : (Entry → Entry) → Type 0
Keeps f = (e : Entry) → ((f e).back ≡ e.back) × ((f e).cache ≡ e.cache)

module _ (f : Entry → Entry) (k : Keeps f) where
  pub caches-map : (l : List Entry) → caches (map f l) ≡ caches l
  unfolding caches cache_bucket
  caches-map [] = refl
  caches-map (e ∷ l) = ap₂ (λ (x : ℕ) (r : List ℕ). x ∷ r) (k e).1 (caches-map l)

  pub backs-map : (l : List Entry) → backs (map f l) ≡ backs l
  unfolding backs back_bucket
  backs-map [] = refl
  backs-map (e ∷ l) = ap₂ (λ (x : ℕ) (r : List ℕ). x ∷ r) (k e).0 (backs-map l)

  pub holds-map : (l : List Entry) (b : ℕ) → holds b (map f l) ≡ holds b l
  unfolding holds is_of
  holds-map [] b = refl
  holds-map (e ∷ l) b = rw (k e).0 (ap (λ (t : Bool). if eqb e.back b then true else t) (holds-map l b))

  pub cache_of-map : (l : List Entry) (b : ℕ) → cache_of b (map f l) ≡ cache_of b l
  unfolding cache_of record_of
  cache_of-map [] b = refl
  cache_of-map (e ∷ l) b = go (ℕ_discrete e.back b) (cache_of-map l b)
    where
      go : Dec (e.back ≡ b) → cache_of b (map f l) ≡ cache_of b l → cache_of b (map f (e ∷ l)) ≡ cache_of b (e ∷ l)
      go (yes q) r = (maps_here (f e) (map f l) b ((k e).0 ∙ q)).is ∙ ((k e).1 ∙ sym (maps_here e l b q).is)
      go (no ne) r = cache_of_there (f e) (map f l) b (λ q. ne (sym (k e).0 ∙ q)) ∙ (r ∙ sym (cache_of_there e l b ne))

  pub maps_map : (l : List Entry) (b c : ℕ) → Maps (map f l) b c → Maps l b c
  maps_map l b c m = record { held = sym (holds-map l b) ∙ m.held; is = sym (cache_of-map l b) ∙ m.is }

-- ---- tests of all entries

module _ (t : Entry → Bool) where
  pub all_without : (l : List Entry) (b : ℕ) → all t l ≡ true → all t (without b l) ≡ true
  unfolding all without keep
  all_without [] b h = refl
  all_without (e ∷ l) b h = go (ℕ_discrete e.back b) (all_without l b (and_right (t e) (all t l) h))
    where
      go : Dec (e.back ≡ b) → all t (without b l) ≡ true → all t (without b (e ∷ l)) ≡ true
      go (yes q) r = rw (without_here e l b q) r
      go (no ne) r = rw (without_there e l b ne) (and-true (and_left (t e) (all t l) h) r)

  pub all_grown : (l : List Entry) (e : Entry) → all t l ≡ true → t e ≡ true → all t (l ++ (e ∷ [])) ≡ true
  unfolding all
  all_grown [] e h q = and-true q refl
  all_grown (x ∷ l) e h q = and-true (and_left (t x) (all t l) h) (all_grown l e (and_right (t x) (all t l) h) q)

  pub all_map : (u : Entry → Bool) (f : Entry → Entry) → ((e : Entry) → t e ≡ true → u (f e) ≡ true) → (l : List Entry) → all t l ≡ true → all u (map f l) ≡ true
  unfolding all
  all_map u f k [] h = refl
  all_map u f k (e ∷ l) h = and-true (k e (and_left (t e) (all t l) h)) (all_map u f k l (and_right (t e) (all t l) h))

  -- a test of what the queue maps is a test of its entries
  pub maps_all : (l : List Entry) → distinct (backs l) ≡ true → all t l ≡ true → (b c : ℕ) → Maps l b c → (e : Entry) × (e.back ≡ b) × (e.cache ≡ c) × (t e ≡ true)
  unfolding all holds
  maps_all [] ds h b c m = absurd (true≢false (sym m.held))
  maps_all (e ∷ l) ds h b c m = go (maps_first e l b c m) (λ q. maps_all l (distinct-rest e l ds).0 (and_right (t e) (all t l) h) b c q)
    where
      go : ((e.back ≡ b) × (e.cache ≡ c)) ⊎ ((e.back ≢ b) × Maps l b c) → (Maps l b c → (e : Entry) × (e.back ≡ b) × (e.cache ≡ c) × (t e ≡ true))
          → (e : Entry) × (e.back ≡ b) × (e.cache ≡ c) × (t e ≡ true)
      go (inl q) r = (e, q.0, q.1, and_left (t e) (all t l) h)
      go (inr q) r = r q.1

  -- the record of b is one of a queue that holds b
  pub held_record : (l : List Entry) (b : ℕ) → all t l ≡ true → holds b l ≡ true → t (record_of b l) ≡ true
  unfolding all holds record_of
  held_record [] b a h = absurd (true≢false (sym h))
  held_record (e ∷ l) b a h = go (is_of b e) h (held_record l b (and_right (t e) (all t l) a))
    where
      go : (q : Bool) → (if q then true else holds b l) ≡ true → (holds b l ≡ true → t (record_of b l) ≡ true) → t (if q then e else record_of b l) ≡ true
      go true g later = and_left (t e) (all t l) a
      go false g later = later g

-- a test by back-end and cache bucket, and one of the entries
pub all_maps : (t u : Entry → Bool) (l : List Entry) → distinct (backs l) ≡ true → all u l ≡ true
    → ((e : Entry) → Maps l e.back e.cache → u e ≡ true → t e ≡ true) → all t l ≡ true
unfolding all
all_maps t u [] ds h k = refl
all_maps t u (e ∷ l) ds h k = and-true (k e (maps_here e l e.back refl) (and_left (u e) (all u l) h))
    (all_maps t u l (distinct-rest e l ds).0 (and_right (u e) (all u l) h)
    (λ x m q. k x (maps_there e l x.back x.cache (λ p. absent (distinct-rest e l ds).1 (rw (← p) at m)) m) q))
