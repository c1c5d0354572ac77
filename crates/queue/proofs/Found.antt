-- What is known of a back-end bucket by the record that a search of its queue gives.
use Prim.Native.Nat.{ℕ, ◌≤◌}
use mathlib.Core.Path.{◌≡◌, refl, sym, ap, ◌∙◌}
use mathlib.Core.Bool.{Bool, true, false}
use mathlib.Core.List.{List, [], ◌∷◌}
use native.Mathlib.Omega.{arith}
use lib.Dec.{eqb}
use Rattle.std.specs.Prelude.{Option, Some, None, cond, is_some, IsSome, IfSome, if◌then◌else◌}
use Rattle.model.specs.declared.Entry.{Entry}
use Rattle.model.specs.State.{is_of, entry, holds, record_of, cache_of, caches_of, blank_of, is_marked}
use Rattle.queue.specs.View.{no_entry, found}

record_found : (b : ℕ) (l : List Entry) → found b l ≡ (if holds b l then Some (record_of b l) else None)
unfolding holds record_of is_of
record_found b [] = refl
record_found b (x ∷ l) = at (eqb x.back b) (record_found b l)
  where
    at : (t : Bool) → found b l ≡ (if holds b l then Some (record_of b l) else None)
        → cond t (Some x) (found b l) ≡ (if (if t then true else holds b l) then Some (if t then x else record_of b l) else None)
    at true h = refl
    at false h = h

-- a record that is found is b's
pub record Held (b : ℕ) (l : List Entry) (e : Entry) : Type 0 where
  pub held : holds b l ≡ true
  pub is : record_of b l ≡ e
  pub cache : cache_of b l ≡ e.cache
  pub caches : caches_of b l ≡ e.cache ∷ []
  pub blank : blank_of b l ≡ e.blank
  pub marked : is_marked b l ≡ e.marked

-- with no record b is not in the queue, and all that is kept of it is 0
pub record Absent (b : ℕ) (l : List Entry) : Type 0 where
  pub held : holds b l ≡ false
  pub is : record_of b l ≡ no_entry
  pub cache : cache_of b l ≡ 0
  pub caches : caches_of b l ≡ []
  pub blank : blank_of b l ≡ 0
  pub marked : is_marked b l ≡ false

held_by : (b : ℕ) (l : List Entry) (e : Entry) → holds b l ≡ true → record_of b l ≡ e → Held b l e
unfolding cache_of caches_of blank_of is_marked
held_by b l e h r = record {
  held = h;
  is = r;
  cache = ap (λ (x : Entry). x.cache) r;
  caches = rw h (ap (λ (x : Entry). x.cache ∷ []) r);
  blank = ap (λ (x : Entry). x.blank) r;
  marked = ap (λ (x : Entry). x.marked) r;
}

absent_by : (b : ℕ) (l : List Entry) → holds b l ≡ false → record_of b l ≡ no_entry → Absent b l
unfolding cache_of caches_of blank_of is_marked
absent_by b l h r = record {
  held = h;
  is = r;
  cache = ap (λ (x : Entry). x.cache) r;
  caches = rw h;
  blank = ap (λ (x : Entry). x.blank) r;
  marked = ap (λ (x : Entry). x.marked) r;
}

record_absent : (b : ℕ) (l : List Entry) → holds b l ≡ false → record_of b l ≡ no_entry
unfolding holds record_of entry
record_absent b [] h = refl
record_absent b (x ∷ l) h = at (is_of b x) (record_absent b l) h
  where
    at : (t : Bool) → (holds b l ≡ false → record_of b l ≡ no_entry) → (if t then true else holds b l) ≡ false → (if t then x else record_of b l) ≡ no_entry
    at true r h = absurd cc
    at false r h = r h

pub is_some-found : (b : ℕ) (l : List Entry) → is_some (found b l) ≡ holds b l
is_some-found b l = rw record_found (at (holds b l))
  where
    at : (t : Bool) → is_some (if t then Some (record_of b l) else None) ≡ t
    at true = refl
    at false = refl

pub found_some : (b : ℕ) (l : List Entry) (e : Entry) → found b l ≡ Some e → Held b l e
found_some b l e s = go (holds b l) refl (sym (record_found b l) ∙ s)
  where
    go : (t : Bool) → holds b l ≡ t → (if t then Some (record_of b l) else None) ≡ Some e → Held b l e
    go true h k = held_by b l e h cc
    go false h k = absurd cc

pub found_none : (b : ℕ) (l : List Entry) → found b l ≡ None → Absent b l
found_none b l s = go (holds b l) refl (sym (record_found b l) ∙ s)
  where
    go : (t : Bool) → holds b l ≡ t → (if t then Some (record_of b l) else None) ≡ None → Absent b l
    go true h k = absurd cc
    go false h k = absent_by b l h (record_absent b l h)

-- what holds of b's record, if it has one
pub found_each : (b : ℕ) (l : List Entry) (P : Entry → Type 0) → ((e : Entry) → Held b l e → P e) → IfSome (found b l) P
found_each b l P h = go (found b l) refl
  where
    go : (o : Option Entry) → found b l ≡ o → IfSome o P
    go (Some e) k = h e (found_some b l e k)
    go None k = tt

-- a bucket of which blank pages are kept has a record
pub blank-held : (b : ℕ) (l : List Entry) → 1 ≤ blank_of b l → IsSome (found b l)
blank-held b l some = go (found b l) refl
  where
    go : (o : Option Entry) → found b l ≡ o → IsSome o
    go (Some e) k = refl
    go None k = absurd (omega (arith, (found_none b l k).blank))
