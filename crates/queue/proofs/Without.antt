-- A queue without b.
use Prim.Native.Nat.{ℕ, suc, ◌+◌, ◌≤◌}
use mathlib.Core.Path.{◌≡◌, refl, ap}
use mathlib.Core.Bool.{Bool, true, false, not, true≢false}
use mathlib.Core.List.{List, [], ◌∷◌}
use native.Mathlib.Omega.{arith}
use lib.ListN.{length}
use Rattle.std.specs.Prelude.{if◌then◌else◌}
use Rattle.lists.specs.Lists.{keep}
use Rattle.lists.proofs.Arrays.{keep-length}
use Rattle.model.specs.declared.Entry.{Entry}
use Rattle.model.specs.State.{is_of, holds, cache_of, caches_of, is_other, without}

pub without_absent : (b : ℕ) (l : List Entry) → holds b l ≡ false → without b l ≡ l
unfolding holds without keep is_other
without_absent b [] h = refl
without_absent b (e ∷ l) h = at (is_of b e) (without_absent b l) h
  where
    at : (t : Bool) → (holds b l ≡ false → without b l ≡ l) → (if t then true else holds b l) ≡ false → (if not t then e ∷ keep (is_other b) l else keep (is_other b) l) ≡ e ∷ l
    at true i h = absurd (true≢false h)
    at false i h = ap (λ r. e ∷ r) (i h)

one : (t : Bool) (c : ℕ) → length (if t then c ∷ [] else []) ≡ (if t then 1 else 0)
one true c = refl
one false c = refl

-- b's cache bucket is no longer in it
pub without-length : (b : ℕ) (l : List Entry) → length (without b l) + length (caches_of b l) ≤ length l
unfolding holds without keep is_other caches_of
without-length b [] = omega arith
without-length b (e ∷ l) = at (is_of b e) (keep-length (is_other b) l) (without-length b l)
  where
    at : (t : Bool) → length (without b l) ≤ length l → length (without b l) + length (caches_of b l) ≤ length l
        → length (if not t then e ∷ without b l else without b l) + length (if (if t then true else holds b l) then cache_of b (e ∷ l) ∷ [] else []) ≤ suc (length l)
    at true h k = omega arith
    at false h k = omega (arith, one (holds b l) (cache_of b l), one (holds b l) (cache_of b (e ∷ l)))
