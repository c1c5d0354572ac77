-- A queue with the entries of some back-end buckets alone: what it maps, and how often it has a cache bucket.
use Prim.Native.Nat.{ℕ, suc, ◌+◌, ◌≤◌}
use mathlib.Core.Path.{◌≡◌, refl, sym, ap, ◌∙◌}
use mathlib.Core.Logic.{◌⊎◌, inl, inr, ◌≢◌}
use mathlib.Core.Bool.{Bool, true, false, not, true≢false}
use mathlib.Core.List.{List, [], ◌∷◌}
use native.Mathlib.Omega.{arith}
use lib.ListN.{length}
use Rattle.std.specs.Prelude.{if◌then◌else◌}
use Rattle.lists.specs.Lists.{keep, times, distinct}
use Rattle.lists.proofs.Counts.{times_cons, distinct-times, times-distinct}
use Rattle.model.specs.declared.Sizes.{Sizes}
use Rattle.model.specs.declared.Entry.{Entry}
use Rattle.model.specs.Sizes.{Device}
use Rattle.model.specs.State.{holds, cache_bucket, back_bucket, caches, backs}
use Rattle.model.proofs.Queues.{Maps, maps_here, maps_there, maps_first, absent, distinct-rest}
use Rattle.model.proofs.QueuesShown.{Reads}

module _ (t : ℕ → Bool) where
  abbrev pub selected : List Entry → List Entry
  selected l = keep (λ e. t e.back) l

  pub maps_selected : (l : List Entry) → distinct (backs l) ≡ true → (b c : ℕ) → Maps (selected l) b c → Maps l b c × (t b ≡ true)
  unfolding keep holds
  maps_selected [] ds b c m = absurd (true≢false (sym m.held))
  maps_selected (e ∷ l) ds b c m = go (t e.back) refl m (λ q. maps_selected l (distinct-rest e l ds).0 b c q)
    where
      later : Maps l b c × (t b ≡ true) → Maps (e ∷ l) b c × (t b ≡ true)
      later r = (maps_there e l b c (λ q. absent (distinct-rest e l ds).1 (rw (← q) at r.0)) r.0, r.1)

      go : (s : Bool) → t e.back ≡ s → Maps (if s then e ∷ selected l else selected l) b c → (Maps (selected l) b c → Maps l b c × (t b ≡ true)) → Maps (e ∷ l) b c × (t b ≡ true)
      go false q m' r = later (r m')
      go true q m' r = pick (maps_first e (selected l) b c m')
        where
          pick : ((e.back ≡ b) × (e.cache ≡ c)) ⊎ ((e.back ≢ b) × Maps (selected l) b c) → Maps (e ∷ l) b c × (t b ≡ true)
          pick (inl h) = (rw (← h.1) (maps_here e l b h.0), rw h.0 at q)
          pick (inr h) = later (r h.1)

  pub selected_maps : (l : List Entry) (b c : ℕ) → Maps l b c → t b ≡ true → Maps (selected l) b c
  unfolding keep holds
  selected_maps [] b c m h = absurd (true≢false (sym m.held))
  selected_maps (e ∷ l) b c m h = go (t e.back) refl (maps_first e l b c m) (λ q. selected_maps l b c q h)
    where
      go : (s : Bool) → t e.back ≡ s → ((e.back ≡ b) × (e.cache ≡ c)) ⊎ ((e.back ≢ b) × Maps l b c) → (Maps l b c → Maps (selected l) b c) → Maps (if s then e ∷ selected l else selected l) b c
      go true q (inl k) r = rw (← k.1) (maps_here e (selected l) b k.0)
      go true q (inr k) r = maps_there e (selected l) b c k.0 (r k.1)
      go false q (inl k) r = absurd (true≢false (sym h ∙ ap t (sym k.0) ∙ q))
      go false q (inr k) r = r k.1

  pub times_selected : (l : List Entry) (c : ℕ) → times c (caches l) ≡ times c (caches (selected l)) + times c (caches (keep (λ e. not (t e.back)) l))
  unfolding keep caches cache_bucket times
  times_selected [] c = refl
  times_selected (e ∷ l) c = go (t e.back) (times_selected l c)
    where
      others : List Entry
      others = keep (λ x. not (t x.back)) l

      go : (s : Bool) → times c (caches l) ≡ times c (caches (selected l)) + times c (caches others)
          → times c (e.cache ∷ caches l) ≡ times c (caches (if s then e ∷ selected l else selected l)) + times c (caches (if not s then e ∷ others else others))
      go true r = omega (arith, times_cons c e.cache (caches l), times_cons c e.cache (caches (selected l)), r)
      go false r = omega (arith, times_cons c e.cache (caches l), times_cons c e.cache (caches others), r)

  times-backs_selected : (l : List Entry) (b : ℕ) → times b (backs (selected l)) ≤ times b (backs l)
  unfolding keep backs back_bucket
  times-backs_selected [] b = omega arith
  times-backs_selected (e ∷ l) b = go (t e.back) (times-backs_selected l b)
    where
      go : (s : Bool) → times b (backs (selected l)) ≤ times b (backs l) → times b (backs (if s then e ∷ selected l else selected l)) ≤ times b (e.back ∷ backs l)
      go true r = omega (arith, times_cons b e.back (backs l), times_cons b e.back (backs (selected l)))
      go false r = omega (arith, times_cons b e.back (backs l))

  pub length_selected : (l : List Entry) → length (selected l) ≤ length l
  unfolding keep
  length_selected [] = omega arith
  length_selected (e ∷ l) = go (t e.back) (length_selected l)
    where
      go : (s : Bool) → length (selected l) ≤ length l → length (if s then e ∷ selected l else selected l) ≤ suc (length l)
      go true r = omega arith
      go false r = omega arith

  pub reads_selected : (z : Sizes) (d : Device) (l : List Entry) → Reads z d l → Reads z d (selected l)
  reads_selected z d l r = record {
    read_once = times-distinct (backs (selected l)) (λ x. omega (arith, distinct-times (backs l) r.read_once x, times-backs_selected l x));
    copies = λ b c m. r.copies b c (maps_selected l r.read_once b c m).0;
    newest-copy = λ b c m. r.newest-copy b c (maps_selected l r.read_once b c m).0;
  }
