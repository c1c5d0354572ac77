-- Marks of the write queue: which records have them, and that the logs of a marked record stay in its read bucket.
use Prim.Native.Nat.{ℕ, ◌≤◌}
use mathlib.Core.Path.{◌≡◌, refl, sym, ap, ap₂, ◌∙◌}
use mathlib.Core.Logic.{◌⊎◌, inl, inr, ◌≢◌}
use mathlib.Core.Bool.{Bool, true, false, not, ◌||◌, true≢false}
use mathlib.Core.List.{List, [], ◌∷◌, ◌++◌, map}
use native.Mathlib.Decide.{ℕ_discrete}
use lib.ListN.{get_or}
use lib.Dec.{leb}
use borrow.Author.Tests.{eq-eqb, ne_eqb, not-true}
use Rattle.lists.specs.Lists.{keep, all, distinct}
use Rattle.lists.proofs.Tests.{true_or_false, and_left, and_right, and-true}
use Rattle.model.specs.declared.Sizes.{Sizes}
use Rattle.model.specs.declared.Entry.{Entry}
use Rattle.model.specs.Sizes.{Device}
use Rattle.model.specs.State.{with_mark, is_of, holds, is_marked, remarked, without, backs, mark_fits, entry, record_of}
use Rattle.model.specs.Operations.{prioritised}
use Rattle.model.proofs.Safe.{Marks}
use Rattle.model.proofs.Show.{Same, is_dirty-same}
use Rattle.model.proofs.Queues.{Maps, maps_here, holds_there, without_here, without_there, absent_without, distinct-rest, record_here, record_there}
use Rattle.model.proofs.QueuesGrown.{Keeps}
use Rattle.model.proofs.QueuesShown.{priority_fits, Writes, writes_map}

unfoldable pub is_unmarked : Entry → Bool
is_unmarked e = not e.marked

-- ---- the first record

module _ (e : Entry) (l : List Entry) (b : ℕ) where
  marked_here : e.back ≡ b → is_marked b (e ∷ l) ≡ e.marked
  unfolding is_marked
  marked_here q = ap (λ (x : Entry). x.marked) (record_here e l b q)

  marked_there : e.back ≢ b → is_marked b (e ∷ l) ≡ is_marked b l
  unfolding is_marked
  marked_there ne = ap (λ (x : Entry). x.marked) (record_there e l b ne)

pub marked_held : (l : List Entry) (b : ℕ) → is_marked b l ≡ true → holds b l ≡ true
unfolding is_marked record_of entry holds
marked_held [] b h = h
marked_held (e ∷ l) b h = go (ℕ_discrete e.back b) (λ q. marked_held l b q)
  where
    go : Dec (e.back ≡ b) → (is_marked b l ≡ true → holds b l ≡ true) → holds b (e ∷ l) ≡ true
    go (yes q) r = (maps_here e l b q).held
    go (no ne) r = holds_there e l b ne ∙ r (sym (marked_there e l b ne) ∙ h)

-- ---- other queues

pub marked_without : (l : List Entry) (b b' : ℕ) → is_marked b' (without b l) ≡ true → is_marked b' l ≡ true
unfolding is_marked record_of entry without keep
marked_without [] b b' h = h
marked_without (e ∷ l) b b' h = go (ℕ_discrete e.back b) (ℕ_discrete e.back b') (λ q. marked_without l b b' q)
  where
    go : Dec (e.back ≡ b) → Dec (e.back ≡ b') → (is_marked b' (without b l) ≡ true → is_marked b' l ≡ true) → is_marked b' (e ∷ l) ≡ true
    go (yes q) (no ne) r = marked_there e l b' ne ∙ r (rw (without_here e l b q) at h)
    go (yes q) (yes q') r = absurd (true≢false (sym (marked_held (without b l) b' (rw (without_here e l b q) at h)) ∙ rw (sym q' ∙ q) (absent_without l b)))
    go (no n) (yes q) r = marked_here e l b' q ∙ sym (marked_here e (without b l) b' q) ∙ rw (without_there e l b n) at h
    go (no n) (no ne) r = marked_there e l b' ne ∙ r (sym (marked_there e (without b l) b' ne) ∙ rw (without_there e l b n) at h)

pub marked_grown : (l : List Entry) (e : Entry) → e.marked ≡ false → (b : ℕ) → is_marked b (l ++ (e ∷ [])) ≡ true → is_marked b l ≡ true
unfolding is_marked record_of entry
marked_grown [] e n b h = go (ℕ_discrete e.back b)
  where
    go : Dec (e.back ≡ b) → is_marked b [] ≡ true
    go (yes q) = absurd (true≢false (sym h ∙ marked_here e [] b q ∙ n))
    go (no ne) = sym (marked_there e [] b ne) ∙ h
marked_grown (x ∷ l) e n b h = go (ℕ_discrete x.back b) (λ q. marked_grown l e n b q)
  where
    go : Dec (x.back ≡ b) → (is_marked b (l ++ (e ∷ [])) ≡ true → is_marked b l ≡ true) → is_marked b (x ∷ l) ≡ true
    go (yes q) r = marked_here x l b q ∙ sym (marked_here x (l ++ (e ∷ [])) b q) ∙ h
    go (no ne) r = marked_there x l b ne ∙ r (sym (marked_there x (l ++ (e ∷ [])) b ne) ∙ h)

-- records changed one by one, none of b marked anew
pub marked_map : (f : Entry → Entry) → Keeps f → (b : ℕ) → ((e : Entry) → e.back ≡ b → (f e).marked ≡ true → e.marked ≡ true) → (l : List Entry) → is_marked b (map f l) ≡ true → is_marked b l ≡ true
unfolding is_marked record_of entry
marked_map f k b t [] h = h
marked_map f k b t (e ∷ l) h = go (ℕ_discrete e.back b) (λ q. marked_map f k b t l q)
  where
    go : Dec (e.back ≡ b) → (is_marked b (map f l) ≡ true → is_marked b l ≡ true) → is_marked b (e ∷ l) ≡ true
    go (yes q) r = marked_here e l b q ∙ t e q (sym (marked_here (f e) (map f l) b ((k e).0 ∙ q)) ∙ h)
    go (no ne) r = marked_there e l b ne ∙ r (sym (marked_there (f e) (map f l) b (λ q. ne (sym (k e).0 ∙ q))) ∙ h)

-- ---- a mark set or cleared

pub keeps_remarked : (b : ℕ) (t : Bool) → Keeps (remarked b t)
unfolding remarked with_mark
keeps_remarked b t e = go (true_or_false (is_of b e))
  where
    go : (is_of b e ≡ true) ⊎ (is_of b e ≡ false) → ((remarked b t e).back ≡ e.back) × ((remarked b t e).cache ≡ e.cache)
    go (inl q) = rw q (refl, refl)
    go (inr q) = rw q (refl, refl)

remarked_own : (b : ℕ) (t : Bool) (e : Entry) → e.back ≡ b → remarked b t e ≡ with_mark t e
unfolding remarked is_of
remarked_own b t e q = rw (eq-eqb e.back b q)

remarked_off : (b : ℕ) (t : Bool) (e : Entry) → e.back ≢ b → remarked b t e ≡ e
unfolding remarked is_of
remarked_off b t e ne = rw (ne_eqb e.back b ne)

-- the mark of another record stays
pub remarked_other : (b : ℕ) (t : Bool) (l : List Entry) (b' : ℕ) → b' ≢ b → is_marked b' (map (remarked b t) l) ≡ true → is_marked b' l ≡ true
remarked_other b t l b' ne h = marked_map (remarked b t) (keeps_remarked b t) b' (λ e q m. ap (λ (x : Entry). x.marked) (sym (remarked_off b t e (λ u. ne (sym q ∙ u)))) ∙ m) l h

remarked_clear : (b : ℕ) (l : List Entry) → is_marked b (map (remarked b false) l) ≡ false
unfolding is_marked record_of entry with_mark
remarked_clear b [] = refl
remarked_clear b (e ∷ l) = go (ℕ_discrete e.back b) (remarked_clear b l)
  where
    go : Dec (e.back ≡ b) → is_marked b (map (remarked b false) l) ≡ false → is_marked b (remarked b false e ∷ map (remarked b false) l) ≡ false
    go (yes q) r = marked_here (remarked b false e) (map (remarked b false) l) b ((keeps_remarked b false e).0 ∙ q) ∙ ap (λ (x : Entry). x.marked) (remarked_own b false e q)
    go (no n) r = marked_there (remarked b false e) (map (remarked b false) l) b (λ u. n (sym (keeps_remarked b false e).0 ∙ u)) ∙ r

-- a mark that is set after b's was cleared is another's
pub marked_cleared : (b : ℕ) (l : List Entry) (b' : ℕ) → is_marked b' (map (remarked b false) l) ≡ true → (b' ≢ b) × (is_marked b' l ≡ true)
marked_cleared b l b' h = go (ℕ_discrete b' b)
  where
    go : Dec (b' ≡ b) → (b' ≢ b) × (is_marked b' l ≡ true)
    go (yes q) = absurd (true≢false (sym h ∙ ap (λ (x : ℕ). is_marked x (map (remarked b false) l)) q ∙ remarked_clear b l))
    go (no ne) = (ne, remarked_other b false l b' ne h)

-- a log clears its record's mark anyway
pub prioritised-remarked : (b p : ℕ) (l : List Entry) → map (prioritised b p) (map (remarked b false) l) ≡ map (prioritised b p) l
unfolding prioritised with_mark is_of
prioritised-remarked b p [] = refl
prioritised-remarked b p (e ∷ l) = ap₂ (λ (x : Entry) (r : List Entry). x ∷ r) (go (ℕ_discrete e.back b)) (prioritised-remarked b p l)
  where
    go : Dec (e.back ≡ b) → prioritised b p (remarked b false e) ≡ prioritised b p e
    go (yes q) = rw (remarked_own b false e q, eq-eqb e.back b q)
    go (no ne) = rw (remarked_off b false e ne)

pub writes_remarked : (z : Sizes) (d : Device) (l : List Entry) (b : ℕ) (t : Bool) → Writes z d l → Writes z d (map (remarked b t) l)
unfolding priority_fits with_mark
writes_remarked z d l b t w = writes_map z d l (remarked b t) (keeps_remarked b t) (λ e h. go e (ℕ_discrete e.back b) h) w
  where
    go : (e : Entry) → Dec (e.back ≡ b) → leb e.priority z.p ≡ true → leb (remarked b t e).priority z.p ≡ true
    go e (yes q) h = rw (remarked_own b t e q) h
    go e (no ne) h = rw (remarked_off b t e ne) h

-- a queue without marks
pub marked_none : (l : List Entry) → all is_unmarked l ≡ true → (b : ℕ) → is_marked b l ≡ true → ⊥
unfolding is_marked record_of entry all is_unmarked
marked_none [] n b h = true≢false (sym h)
marked_none (e ∷ l) n b h = go (ℕ_discrete e.back b) (λ q. marked_none l (and_right (is_unmarked e) (all is_unmarked l) n) b q)
  where
    go : Dec (e.back ≡ b) → (is_marked b l ≡ true → ⊥) → ⊥
    go (yes q) r = true≢false (sym (sym (marked_here e l b q) ∙ h) ∙ not-true e.marked (and_left (is_unmarked e) (all is_unmarked l) n))
    go (no ne) r = r (sym (marked_there e l b ne) ∙ h)

-- ---- what the marks say

module _ (z : Sizes) (plain : List ℕ) where
  pub marks_fewer : (d : Device) (reads l m : List Entry) → ((b : ℕ) → is_marked b m ≡ true → is_marked b l ≡ true) → Marks z plain d reads l → Marks z plain d reads m
  marks_fewer d reads l m h k b q = k b (h b q)

  -- the read buckets of marked records stay
  pub marks_kept : 1 ≤ z.p → (d e : Device) (reads reads' l : List Entry) → ((b c : ℕ) → is_marked b l ≡ true → Maps reads b c → Maps reads' b c × Same z d e c)
      → Marks z plain d reads l → Marks z plain e reads' l
  marks_kept p_pos d e reads reads' l still k b q =
      let a = k b q in
      let s = still b a.cache q a.maps in
      record {
        cache = a.cache;
        maps = s.0;
        dirty = is_dirty-same z p_pos d e a.cache s.1 ∙ a.dirty;
        content = λ i. ap (λ (x : List ℕ). get_or x i 0) s.1.bytes_same ∙ a.content i;
      }

  -- number 5's part of it
  pub marks_test : (d : Device) (reads l : List Entry) → distinct (backs l) ≡ true → Marks z plain d reads l → all (mark_fits reads) l ≡ true
  unfolding mark_fits all
  marks_test d reads [] ds k = refl
  marks_test d reads (e ∷ l) ds k = and-true (here (true_or_false e.marked)) (marks_test d reads l (distinct-rest e l ds).0 (λ b h. k b (marked_there e l b (λ q. absent_here b q h) ∙ h)))
    where
      here : (e.marked ≡ true) ⊎ (e.marked ≡ false) → not e.marked || holds e.back reads ≡ true
      here (inl q) = rw q (k e.back (marked_here e l e.back refl ∙ q)).maps.held
      here (inr q) = rw q

      absent_here : (b : ℕ) → e.back ≡ b → is_marked b l ≡ true → ⊥
      absent_here b q h = true≢false (sym (marked_held l b h) ∙ rw (← q) (distinct-rest e l ds).1)
