-- One turn of the loops over columns.
use Prim.Native.Nat.{ℕ, zero, suc, ◌+◌, ◌≤◌, ◌<◌}
use mathlib.Core.Path.{◌≡◌, refl, sym, ap, ◌∙◌}
use mathlib.Core.Bool.{Bool, true, false, ◌&&◌}
use mathlib.Core.List.{List, [], ◌∷◌, ◌++◌, map, append-nil}
use native.Mathlib.Numerals.{add-one}
use native.Mathlib.Omega.{arith}
use native.Mathlib.Decide.{ℕ_discrete}
use lib.ListN.{length, take, drop, get_or, set, length-map, drop_of_length-le}
use lib.Seq.{drop-cons, take_all, length-take-le, get_or_at, append_snoc}
use lib.Dec.{ltb, eqb}
use borrow.Author.Tests.{eq-eqb, ne_eqb, not-true}
use Rattle.std.specs.Prelude.{if◌then◌else◌}
use Rattle.lists.specs.Lists.{keep, member, times}
use Rattle.lists.proofs.Arrays.{done_more}
use Rattle.lists.proofs.Lent.{copy_more}
use Rattle.lists.proofs.Counts.{times-member}
use Rattle.lists.proofs.Orders.{in_any}
use Rattle.lists.proofs.Filters.{mapped_at}
use Rattle.classes.specs.Columns.{nowhere, occurring, last_of_each, is_named, all_but}

-- ---- one back-end bucket

module _ (n : ℕ) (l : List ℕ) (b : ℕ) where
  pub occurring-nowhere : b ≡ nowhere → nowhere ≡ occurring n l b
  occurring-nowhere e = rw e (go (eqb (times nowhere l) n))
    where
      go : (u : Bool) → nowhere ≡ (if u then nowhere else nowhere)
      go true = refl
      go false = refl

  pub occurring_so : times b l ≡ n → b ≡ occurring n l b
  occurring_so e = rw (eq-eqb (times b l) n e)

  pub occurring-not : (times b l ≡ n → ⊥) → nowhere ≡ occurring n l b
  occurring-not ne = rw (ne_eqb (times b l) n ne)

pub occurring-none : (l : List ℕ) (b : ℕ) → occurring 0 l b ≡ (if member b l then nowhere else b)
unfolding member
occurring-none l b = go (ℕ_discrete (times b l) 0)
  where
    go : Dec (times b l ≡ 0) → occurring 0 l b ≡ (if member b l then nowhere else b)
    go (yes e) = rw (eq-eqb (times b l) 0 e, not-true (member b l) (times-member b l e))
    go (no ne) = rw (ne_eqb (times b l) 0 ne, in_any (eqb b) l b (omega arith) (eq-eqb b b refl))

-- ---- columns

pub last_length : (l : List ℕ) → length (last_of_each l) ≡ length l
unfolding last_of_each
last_length [] = refl
last_length (x ∷ l) = ap suc (last_length l)

pub last_at : (l : List ℕ) (i : ℕ) → i < length l → get_or (last_of_each l) i 0 ≡ occurring 0 (drop (i + 1) l) (get_or l i 0)
unfolding last_of_each
last_at [] i h = absurd (omega arith)
last_at (x ∷ l) zero h = refl
last_at (x ∷ l) (suc i) h = rw (add-one (suc i)) (rw (add-one i) at (last_at l i (omega arith)))

pub but_length : (n : ℕ) (m l : List ℕ) → length m ≡ length l → length (all_but n m l) ≡ length m
unfolding all_but
but_length n [] l e = refl
but_length n (y ∷ m) [] e = absurd (omega arith)
but_length n (y ∷ m) (x ∷ l) e = ap suc (but_length n m l (omega arith))

but_at : (n : ℕ) (m l : List ℕ) (i : ℕ) → length m ≡ length l → i < length m
    → get_or (all_but n m l) i 0 ≡ (if is_named (get_or m i 0) && ltb (length (keep is_named (drop (i + 1) m))) n then nowhere else get_or l i 0)
unfolding all_but
but_at n [] l i e h = absurd (omega arith)
but_at n (y ∷ m) [] i e h = absurd (omega arith)
but_at n (y ∷ m) (x ∷ l) zero e h = refl
but_at n (y ∷ m) (x ∷ l) (suc i) e h = rw (add-one (suc i)) (rw (add-one i) at (but_at n m l i (omega arith) (omega arith)))

-- what all_but writes at an index, by its test
pub but_value : (n : ℕ) (m l : List ℕ) (i : ℕ) {y newer : ℕ} → length m ≡ length l → i < length m → y ≡ get_or m i 0 → newer ≡ length (keep is_named (drop (i + 1) m))
    → (u : Bool) → (is_named y && ltb newer n) ≡ u → (if u then nowhere else get_or l i 0) ≡ get_or (all_but n m l) i 0
but_value n m l i e h y k u t =
    let same : (is_named (get_or m i 0) && ltb (length (keep is_named (drop (i + 1) m))) n) ≡ u = rw (← y, ← k) t in
    sym (but_at n m l i e h ∙ ap (λ (v : Bool). if v then nowhere else get_or l i 0) same)

back_more : (source area : List ℕ) (i : ℕ) → i < length source → i < length area
    → set (take (i + 1) area ++ drop (i + 1) source) i (get_or source i 0) ≡ take i area ++ drop i source
back_more [] area i h k = absurd (omega arith)
back_more (x ∷ source) [] i h k = absurd (omega arith)
back_more (x ∷ source) (y ∷ area) zero h k = refl
back_more (x ∷ source) (y ∷ area) (suc i) h k = rw (add-one (suc i)) (ap (λ (l : List ℕ). y ∷ l) (rw (add-one i) at (back_more source area i (omega arith) (omega arith))))

-- how many of those behind an index are named
pub named_more : (l : List ℕ) (i : ℕ) → i < length l → (u : Bool) → is_named (get_or l i 0) ≡ u
    → length (keep is_named (drop i l)) ≡ (if u then length (keep is_named (drop (i + 1) l)) + 1 else length (keep is_named (drop (i + 1) l)))
unfolding keep
named_more l i h true e = rw (drop-cons l i 0 h, e, add-one i) (omega arith)
named_more l i h false e = rw (drop-cons l i 0 h, e, add-one i)

-- a column that is filled with the source from its start on
module _ (source area : List ℕ) (same : length area ≡ length source) {out : List ℕ} (i : ℕ) (filled : out ≡ take i source ++ drop i area) where
  pub fill_more : {x : ℕ} → i < length source → x ≡ get_or source i 0 → set out i x ≡ take (i + 1) source ++ drop (i + 1) area
  fill_more h e = rw (filled, e) (copy_more source area i h (omega arith))

  pub fill_end : length source ≤ i → out ≡ source
  fill_end h = filled ∙ rw (take_all i source h, drop_of_length-le area {i = i} (omega arith)) (append-nil source)

  -- what stands from its index on is as it was
  pub here : i < length area → get_or out i 0 ≡ get_or area i 0
  here h = rw (filled, drop-cons area i 0 h) (get_or_at (take i source) (get_or area i 0) (drop (suc i) area) 0 i (length-take-le i source (omega arith)))

  pub later : i < length area → drop (i + 1) out ≡ drop (i + 1) area
  later h = rw (filled, drop-cons area i 0 h, add-one i) (skip (take i source) (get_or area i 0) (drop (suc i) area) (length-take-le i source (omega arith)))
    where
      past : (p : List ℕ) (y : ℕ) (ys : List ℕ) → drop (suc (length p)) (p ++ (y ∷ ys)) ≡ ys
      past [] y ys = refl
      past (x ∷ p) y ys = past p y ys

      skip : (p : List ℕ) (y : ℕ) (ys : List ℕ) → length p ≡ i → drop (suc i) (p ++ (y ∷ ys)) ≡ ys
      skip p y ys e = rw (← e) (past p y ys)

-- a column that is filled with what a function makes of the order
module _ (f : ℕ → ℕ) (order area : List ℕ) (same : length area ≡ length order) {out : List ℕ} (i : ℕ) (filled : out ≡ take i (map f order) ++ drop i area) where
  as_long : length area ≡ length (map f order)
  as_long = same ∙ sym (length-map order f)

  pub made_more : {x : ℕ} → i < length order → x ≡ f (get_or order i 0) → set out i x ≡ take (i + 1) (map f order) ++ drop (i + 1) area
  made_more h e = fill_more (map f order) area as_long i filled (omega (arith, as_long)) (e ∙ sym (mapped_at f order i 0 h))

  pub made_end : length order ≤ i → out ≡ map f order
  made_end h = fill_end (map f order) area as_long i filled (omega (arith, as_long))

-- a column that is filled from its end on
module _ (source area : List ℕ) (same : length area ≡ length source) {out : List ℕ} (i : ℕ) (filled : out ≡ take (i + 1) area ++ drop (i + 1) source) (h : i < length area) where
  pub earlier : get_or out i 0 ≡ get_or area i 0
  earlier = rw (filled, done_more i area 0 h, append_snoc (take i area) (get_or area i 0) (drop (i + 1) source)) (get_or_at (take i area) (get_or area i 0) (drop (i + 1) source) 0 i (length-take-le i area (omega arith)))

  pub back : {x : ℕ} → x ≡ get_or source i 0 → set out i x ≡ take i area ++ drop i source
  back e = rw (filled, e) (back_more source area i (omega arith) h)
