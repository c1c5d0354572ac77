-- Whether a back-end bucket stands twice in a queue.
use Prim.Native.Nat.{ℕ, ◌+◌, ◌<◌}
use mathlib.Core.Path.{◌≡◌, refl, sym, ap, ◌∙◌}
use mathlib.Core.Bool.{Bool, true, false, not, ◌&&◌, ◌||◌}
use mathlib.Core.List.{List, [], ◌∷◌, map}
use lib.ListN.{drop, length, get_or}
use lib.Dec.{eqb}
use lib.Seq.{drop-cons}
use native.Mathlib.Numerals.{add-one}
use borrow.Author.Tests.{eqb-true, eqb-false, eq-eqb, ne_eqb}
use native.Mathlib.Nat.{le_refl}
use Rattle.std.specs.Prelude.{Option, is_some, if◌then◌else◌}
use Rattle.std.specs.List.{between}
use Rattle.std.proofs.lemmas.Slice.{between_to_end}
use Rattle.lists.specs.Lists.{any, member, distinct}
use Rattle.model.specs.declared.Entry.{Entry}
use Rattle.model.specs.State.{is_of, holds, back_bucket, backs}
use Rattle.queue.specs.View.{no_entry, found}
use Rattle.queue.proofs.Found.{is_some-found}

eqb-sym : (m n : ℕ) (t : Bool) → eqb m n ≡ t → eqb n m ≡ t
eqb-sym m n true e = eq-eqb n m (sym (eqb-true m n e))
eqb-sym m n false e = ne_eqb n m (λ h. eqb-false m n e (sym h))

pub member-holds : (b : ℕ) (l : List Entry) → member b (backs l) ≡ holds b l
unfolding member any backs back_bucket holds is_of
member-holds b [] = refl
member-holds b (e ∷ l) = at (eqb e.back b) refl (member-holds b l)
  where
    at : (t : Bool) → eqb e.back b ≡ t → any (eqb b) (map back_bucket l) ≡ holds b l
        → (eqb b (back_bucket e) || any (eqb b) (map back_bucket l)) ≡ (if t then true else holds b l)
    at true q h = rw (eqb-sym e.back b true q)
    at false q h = rw (eqb-sym e.back b false q) h

-- a search of what stands from i on
pub searched : (b i : ℕ) (l : List Entry) {o : Option Entry} → o ≡ found b (between i (length l) l) → is_some o ≡ holds b (drop i l)
searched b i l e = ap is_some (e ∙ ap (found b) (between_to_end l i (length l) (le_refl (length l)))) ∙ is_some-found b (drop i l)

-- a loop that looks for each among those behind it
pub distinct-step : (i : ℕ) (l : List Entry) → i < length l → (t : Bool) → holds (get_or l i no_entry).back (drop (i + 1) l) ≡ t
    → distinct (backs (drop i l)) ≡ (not t && distinct (backs (drop (i + 1) l)))
unfolding distinct backs back_bucket
distinct-step i l h t e = rw (rw (← add-one i) at (drop-cons l i no_entry h), member-holds (get_or l i no_entry).back (drop (i + 1) l), e)
