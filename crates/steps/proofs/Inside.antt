-- Queues whose cache buckets are all on a chip of so many.
use Prim.Native.Nat.{ℕ, ◌<◌}
use mathlib.Core.Path.{◌≡◌, refl, ◌∙◌}
use mathlib.Core.Bool.{Bool, true, false, not}
use mathlib.Core.List.{List, [], ◌∷◌, ◌++◌}
use lib.ListN.{drop}
use borrow.Author.Tests.{ltb-true, lt-ltb}
use Rattle.std.specs.Prelude.{if◌then◌else◌}
use Rattle.lists.specs.Lists.{all, keep}
use Rattle.lists.proofs.Tests.{and_left, and_right, and-true}
use Rattle.lists.proofs.Arrays.{all_append}
use Rattle.lists.proofs.Rows.{map_append}
use Rattle.model.specs.declared.Entry.{Entry}
use Rattle.model.specs.State.{is_of, is_other, holds, cache_of, caches_of, without, cache_bucket, caches, is_below, record_of, entry}

module _ (c : ℕ) where
  pub both_inside : (l m : List ℕ) → all (is_below c) l ≡ true → all (is_below c) m ≡ true → all (is_below c) (l ++ m) ≡ true
  both_inside l m h k = all_append (is_below c) l m ∙ and-true h k

  pub rest_inside : (l : List ℕ) → all (is_below c) l ≡ true → all (is_below c) (drop 1 l) ≡ true
  unfolding all
  rest_inside [] h = h
  rest_inside (x ∷ l) h = and_right (is_below c x) (all (is_below c) l) h

  pub one_inside : (x : ℕ) → x < c → all (is_below c) (x ∷ []) ≡ true
  unfolding all is_below
  one_inside x h = rw (lt-ltb x c h)

  pub joined_inside : (l : List Entry) (e : Entry) → all (is_below c) (caches l) ≡ true → e.cache < c → all (is_below c) (caches (l ++ (e ∷ []))) ≡ true
  unfolding caches cache_bucket
  joined_inside l e h k = rw (map_append cache_bucket l (e ∷ [])) (both_inside (caches l) (e.cache ∷ []) h (one_inside e.cache k))

  module _ (b : ℕ) where
    pub cache_inside : (l : List Entry) → all (is_below c) (caches l) ≡ true → 0 < c → cache_of b l < c
    unfolding all caches cache_bucket cache_of record_of entry is_below
    cache_inside [] h some = some
    cache_inside (e ∷ l) h some = at (is_of b e) (cache_inside l (and_right (is_below c e.cache) (all (is_below c) (caches l)) h) some)
      where
        at : (t : Bool) → cache_of b l < c → (if t then e else record_of b l).cache < c
        at true k = ltb-true e.cache c (and_left (is_below c e.cache) (all (is_below c) (caches l)) h)
        at false k = k

    -- its cache bucket, as a list of none or of one
    pub listed_inside : (l : List Entry) → cache_of b l < c → all (is_below c) (caches_of b l) ≡ true
    unfolding caches_of all
    listed_inside l h = at (holds b l)
      where
        at : (t : Bool) → all (is_below c) (if t then cache_of b l ∷ [] else []) ≡ true
        at true = one_inside (cache_of b l) h
        at false = refl

    pub caches_inside : (l : List Entry) → all (is_below c) (caches l) ≡ true → 0 < c → all (is_below c) (caches_of b l) ≡ true
    caches_inside l h some = listed_inside l (cache_inside l h some)

    pub others_inside : (l : List Entry) → all (is_below c) (caches l) ≡ true → all (is_below c) (caches (without b l)) ≡ true
    unfolding all caches cache_bucket without keep is_other
    others_inside [] h = h
    others_inside (e ∷ l) h = at (is_of b e) (others_inside l (and_right (is_below c e.cache) (all (is_below c) (caches l)) h))
      where
        at : (t : Bool) → all (is_below c) (caches (without b l)) ≡ true → all (is_below c) (caches (if not t then e ∷ without b l else without b l)) ≡ true
        at true k = k
        at false k = and-true (and_left (is_below c e.cache) (all (is_below c) (caches l)) h) k
