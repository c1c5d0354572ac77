-- An accepted write: its priority, the count and the halving keep the invariant. And plans whose last store moves the plain disk on.
use Prim.Native.Nat.{ℕ, ◌+◌, ◌/◌, ◌≤◌}
use mathlib.Core.Path.{◌≡◌, refl, sym, ap, ◌∙◌, subst}
use mathlib.Core.Logic.{◌⊎◌, inl, inr}
use mathlib.Core.Bool.{Bool, true, false, true≢false}
use mathlib.Core.List.{List, ◌++◌, map}
use native.Mathlib.Omega.{arith}
use lib.ListN.{length, length-map}
use lib.Dec.{leb}
use borrow.Author.Tests.{leb-true, leb-false, le-leb, eqb-true}
use Rattle.std.specs.Prelude.{if◌then◌else◌}
use Rattle.lists.specs.Lists.{times}
use Rattle.lists.proofs.Tests.{true_or_false}
use Rattle.model.specs.declared.Sizes.{Sizes}
use Rattle.model.specs.declared.Entry.{Entry}
use Rattle.model.specs.Sizes.{Device}
use Rattle.model.specs.Stores.{apply_all}
use Rattle.model.specs.State.{State, entry, is_of, caches, moved, is_marked, remarked, with_priority}
use Rattle.model.specs.Steps.{Plan, Step, ◌then◌}
use Rattle.model.specs.Operations.{halved, prioritised, accept, counted, recorded}
use Rattle.model.proofs.Safe.{Cuts}
use Rattle.model.proofs.Prefix.{apply_all_append, cuts_append}
use Rattle.model.proofs.QueuesGrown.{Keeps, caches-map}
use Rattle.model.proofs.QueuesShown.{priority_fits, Writes, writes_map}
use Rattle.model.proofs.Findable.{Findable}
use Rattle.model.proofs.Inside.{Inside}
use Rattle.model.proofs.Steps.{Good}
use Rattle.model.proofs.Marks.{marked_map, prioritised-remarked, marks_fewer}

-- ---- a plan that moves the plain disk on

pub record Moves (z : Sizes) (plain plain' : List ℕ) (p : Plan) (d : Device) : Type 0 where
  pub cuts : Cuts z (Findable z plain) d p.stores
  pub whole : Inside z plain' p.state (apply_all z d p.stores)

pub then_moves : (z : Sizes) (plain plain' : List ℕ) (f g : Step) (s : State) (d : Device) → s.sizes ≡ z → Good z plain (f s d) d
    → Moves z plain plain' (g (f s d).state (apply_all z d (f s d).stores)) (apply_all z d (f s d).stores) → Moves z plain plain' ((f then g) s d) d
unfolding ◌then◌
then_moves z plain plain' f g s d e a m =
    subst (λ (y : Sizes). Moves z plain plain' (record { stores = (f s d).stores ++ (g (f s d).state (apply_all y d (f s d).stores)).stores; state = (g (f s d).state (apply_all y d (f s d).stores)).state }) d) (sym e) (record {
      cuts = cuts_append z (Findable z plain) d (f s d).stores (g (f s d).state (apply_all z d (f s d).stores)).stores a.0 m.cuts;
      whole = subst (λ (x : Device). Inside z plain' (g (f s d).state (apply_all z d (f s d).stores)).state x)
          (sym (apply_all_append z d (f s d).stores (g (f s d).state (apply_all z d (f s d).stores)).stores)) m.whole;
    })

-- ---- priorities

keeps_halved : Keeps halved
unfolding halved with_priority
keeps_halved e = (refl, refl)

keeps_prioritised : (b p : ℕ) → Keeps (prioritised b p)
unfolding prioritised entry is_of
keeps_prioritised b p e = go (true_or_false (is_of b e))
  where
    go : (is_of b e ≡ true) ⊎ (is_of b e ≡ false) → ((prioritised b p e).back ≡ e.back) × ((prioritised b p e).cache ≡ e.cache)
    go (inl h) = rw h (sym (eqb-true e.back b h), refl)
    go (inr h) = rw h (refl, refl)

marks_halved : (e : Entry) → (halved e).marked ≡ true → e.marked ≡ true
unfolding halved with_priority
marks_halved e h = h

marks_prioritised : (b p : ℕ) (e : Entry) → (prioritised b p e).marked ≡ true → e.marked ≡ true
unfolding prioritised entry
marks_prioritised b p e h = go (true_or_false (is_of b e))
  where
    go : (is_of b e ≡ true) ⊎ (is_of b e ≡ false) → e.marked ≡ true
    go (inl q) = absurd (true≢false (sym (rw q at h)))
    go (inr q) = rw q at h

-- a log clears the mark of its record anyway
pub accept_cleared : (b p : ℕ) (s : State) → accept b p (moved s s.reads (map (remarked b false) s.writes) s.gc s.free) ≡ accept b p s
unfolding accept recorded moved
accept_cleared b p s = rw (prioritised-remarked b p s.writes)

module _ (z : Sizes) where
  fits-halved : (e : Entry) → priority_fits z e ≡ true → priority_fits z (halved e) ≡ true
  unfolding priority_fits halved with_priority
  fits-halved e h = le-leb (e.priority / 2) z.p (omega (arith, leb-true e.priority z.p h))

  fits-prioritised : (b p : ℕ) → p ≤ z.p → (e : Entry) → priority_fits z e ≡ true → priority_fits z (prioritised b p e) ≡ true
  unfolding priority_fits prioritised entry
  fits-prioritised b p hp e h = go (true_or_false (is_of b e))
    where
      go : (is_of b e ≡ true) ⊎ (is_of b e ≡ false) → priority_fits z (prioritised b p e) ≡ true
      go (inl q) = rw q (le-leb p z.p hp)
      go (inr q) = rw q h

  -- ---- the count and the queue

  -- queues alike but for priorities
  record Like (l m : List Entry) : Type 0 where
    same-caches : caches m ≡ caches l
    same_length : length m ≡ length l
    same_writes : (d : Device) → Writes z d l → Writes z d m
    marked_less : (b : ℕ) → is_marked b m ≡ true → is_marked b l ≡ true

  like_map : (f : Entry → Entry) → Keeps f → ((e : Entry) → priority_fits z e ≡ true → priority_fits z (f e) ≡ true) → ((e : Entry) → (f e).marked ≡ true → e.marked ≡ true) → (l : List Entry) → Like l (map f l)
  like_map f k t u l = record { same-caches = caches-map f k l; same_length = length-map l f; same_writes = λ d w. writes_map z d l f k t w; marked_less = λ b h. marked_map f k b (λ e q m. u e m) l h }

  like_after : {l m n : List Entry} → Like l m → Like m n → Like l n
  like_after a b = record {
    same-caches = b.same-caches ∙ a.same-caches;
    same_length = b.same_length ∙ a.same_length;
    same_writes = λ d w. b.same_writes d (a.same_writes d w);
    marked_less = λ x h. a.marked_less x (b.marked_less x h);
  }

  pub accept_inside : (plain : List ℕ) (b p : ℕ) → p ≤ z.p → (s : State) (d : Device) → Inside z plain s d → Inside z plain (accept b p s) d
  unfolding accept counted recorded moved
  accept_inside plain b p hp s d j = record {
    sizes_are = j.sizes_are;
    plain-length = j.plain-length;
    chip = j.chip;
    ledger = j.ledger;
    ready = j.ready;
    once = λ c. ap (λ (l : List ℕ). times c (caches s.reads) + times c l + times c s.gc + times c s.free) like.same-caches ∙ j.once c;
    reads = j.reads;
    writes = like.same_writes d j.writes;
    marks = marks_fewer z plain d s.reads s.writes (accept b p s).writes like.marked_less j.marks;
    few_reads = j.few_reads;
    few_writes = rw like.same_length j.few_writes;
    free_blank = j.free_blank;
    accepted_low = low (true_or_false (leb 15 s.accepted));
    next_above = j.next_above;
    next_low = j.next_low;
    next_high = j.next_high;
  }
    where
      set : Like s.writes (map (prioritised b p) s.writes)
      set = like_map (prioritised b p) (keeps_prioritised b p) (fits-prioritised b p hp) (marks_prioritised b p) s.writes

      like : Like s.writes (accept b p s).writes
      like = go (leb 15 s.accepted)
        where
          go : (t : Bool) → Like s.writes (if t then map halved (map (prioritised b p) s.writes) else map (prioritised b p) s.writes)
          go true = like_after set (like_map halved keeps_halved fits-halved marks_halved (map (prioritised b p) s.writes))
          go false = set

      low : (leb 15 s.accepted ≡ true) ⊎ (leb 15 s.accepted ≡ false) → (if leb 15 s.accepted then 0 else s.accepted + 1) ≤ 15
      low (inl h) = rw h (omega arith)
      low (inr h) = rw h (omega (arith, leb-false 15 s.accepted h))
