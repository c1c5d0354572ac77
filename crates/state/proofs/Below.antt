-- Queues that hold none but buckets that may stand there.
use Prim.Native.Nat.{ℕ, ◌≤◌, ◌<◌}
use mathlib.Core.Path.{◌≡◌, sym, ◌∙◌}
use mathlib.Core.Bool.{Bool, true}
use mathlib.Core.List.{List, ◌++◌}
use lib.ListN.{length, take, get_or, length-map, get_or-map}
use lib.Seq.{get_or-take, length-take-le}
use borrow.Author.Tests.{ltb-true}
use Rattle.lists.specs.Lists.{all}
use Rattle.lists.proofs.Tests.{and_left, and_right}
use Rattle.lists.proofs.Arrays.{all_append, all_at}
use Rattle.model.specs.declared.Entry.{Entry}
use Rattle.model.specs.Sizes.{body}
use Rattle.model.specs.State.{State, cache_bucket, caches, queued, is_below}
use Rattle.queue.specs.View.{no_entry}

pub record Below (s : State) : Type 0 where
  pub reads : all (is_below (body s.sizes)) (caches s.reads) ≡ true
  pub writes : all (is_below (body s.sizes)) (caches s.writes) ≡ true
  pub gc : all (is_below (body s.sizes)) s.gc ≡ true
  pub free : all (is_below (body s.sizes)) s.free ≡ true

module _ (t : ℕ → Bool) (l m : List ℕ) (h : all t (l ++ m) ≡ true) where
  front : all t l ≡ true
  front = and_left (all t l) (all t m) (sym (all_append t l m) ∙ h)

  behind : all t m ≡ true
  behind = and_right (all t l) (all t m) (sym (all_append t l m) ∙ h)

pub queues_below : (s : State) → all (is_below (body s.sizes)) (queued s) ≡ true → Below s
unfolding queued
queues_below s h =
    let t = is_below (body s.sizes) in
    let w = behind t (caches s.reads) (caches s.writes ++ (s.gc ++ s.free)) h in
    let g = behind t (caches s.writes) (s.gc ++ s.free) w in
    record {
      reads = front t (caches s.reads) (caches s.writes ++ (s.gc ++ s.free)) h;
      writes = front t (caches s.writes) (s.gc ++ s.free) w;
      gc = front t s.gc s.free g;
      free = behind t s.gc s.free g;
    }

-- of the first n places of an array
pub bucket_below : (c n : ℕ) (l : List ℕ) (i : ℕ) → all (is_below c) (take n l) ≡ true → i < n → n ≤ length l → get_or l i 0 < c
unfolding is_below
bucket_below c n l i h k m =
    ltb-true (get_or l i 0) c (rw (get_or-take n l i 0 k) at (all_at (is_below c) (take n l) h i 0 (rw (length-take-le n l m) k)))

pub cache_below : (c n : ℕ) (l : List Entry) (i : ℕ) → all (is_below c) (caches (take n l)) ≡ true → i < n → n ≤ length l → (get_or l i no_entry).cache < c
unfolding is_below caches cache_bucket
cache_below c n l i h k m =
    let e : i < length (caches (take n l)) = rw (length-map (take n l) cache_bucket, length-take-le n l m) k in
    ltb-true (get_or l i no_entry).cache c
    (rw (get_or-map cache_bucket (take n l) i no_entry, get_or-take n l i no_entry k) at (all_at (is_below c) (caches (take n l)) h i 0 e))
