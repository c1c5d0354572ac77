-- Selections: one after another, of a sorted list, and of what comes behind an element in it.
use Prim.Native.Nat.{ℕ, zero, suc, ◌+◌, ◌≤◌, ◌<◌}
use mathlib.Core.Path.{◌≡◌, refl, sym, ap, ap₂, fun_ext, ◌∙◌}
use mathlib.Core.Logic.{◌≢◌}
use mathlib.Core.Bool.{Bool, true, false, ◌&&◌, ◌||◌, true≢false}
use mathlib.Core.List.{List, [], ◌∷◌, ◌++◌, map, append-nil}
use native.Mathlib.Omega.{arith}
use lib.ListN.{length, take, get_or, length-append}
use lib.Dec.{ltb, eqb}
use borrow.Author.Tests.{ltb-true, lt-ltb, le-ltb, eq-eqb}
use Rattle.std.specs.Prelude.{if◌then◌else◌}
use Rattle.lists.specs.Lists.{row, any, keep, below, count_below, member, times, insert_by, sort_into, sort_by}
use Rattle.lists.proofs.Tests.{same_truth}
use Rattle.lists.proofs.Rows.{below_more}
use Rattle.lists.proofs.Turns.{keep_append}
use Rattle.lists.proofs.Arrays.{done_more}
use Rattle.lists.proofs.Counts.{times_self, times_cons, times-only, times_append}
use Rattle.lists.proofs.Orders.{kept_in, kept_below, below_kept, member_in, any_in, in_any, times_sort, pairwise_cut, Rising, rising_insert}

module _ {A : Type 0} where
  pub keep_both : (s t : A → Bool) (l : List A) → keep (λ x. s x && t x) l ≡ keep t (keep s l)
  unfolding keep
  keep_both s t [] = refl
  keep_both s t (x ∷ l) = go (s x) (keep_both s t l)
    where
      go : (u : Bool) → keep (λ y. s y && t y) l ≡ keep t (keep s l)
          → (if u && t x then x ∷ keep (λ y. s y && t y) l else keep (λ y. s y && t y) l) ≡ keep t (if u then x ∷ keep s l else keep s l)
      go true h = ap (λ r. if t x then x ∷ r else r) h
      go false h = h

  -- a test that passes none but those of another
  pub keep-within : (s t : A → Bool) (l : List A) → ((x : A) → t x ≡ true → s x ≡ true) → keep t l ≡ keep t (keep s l)
  keep-within s t l h = ap (λ u. keep u l) (fun_ext (λ x. go x (t x) refl)) ∙ keep_both s t l
    where
      go : (x : A) (u : Bool) → t x ≡ u → t x ≡ (s x && t x)
      go x true e = rw (h x e)
      go x false e = rw e (sym (no (s x)))
        where
          no : (v : Bool) → (v && false) ≡ false
          no true = refl
          no false = refl

  pub keep_swap : (s t : A → Bool) (l : List A) → keep s (keep t l) ≡ keep t (keep s l)
  keep_swap s t l = sym (keep_both t s l) ∙ ap (λ u. keep u l) (fun_ext (λ x. turned (t x) (s x))) ∙ keep_both s t l
    where
      turned : (u v : Bool) → (u && v) ≡ (v && u)
      turned true true = refl
      turned true false = refl
      turned false true = refl
      turned false false = refl

  pub any-keep : (s t : A → Bool) (l : List A) → any t (keep s l) ≡ any (λ x. s x && t x) l
  unfolding keep any
  any-keep s t [] = refl
  any-keep s t (x ∷ l) = go (s x) (any-keep s t l)
    where
      go : (u : Bool) → any t (keep s l) ≡ any (λ y. s y && t y) l → any t (if u then x ∷ keep s l else keep s l) ≡ (u && t x) || any (λ y. s y && t y) l
      go true h = ap (λ r. t x || r) h
      go false h = h

-- ---- on the members of a list

module _ {A : Type 0} (f g : ℕ → A) where
  pub map_agree : (l : List ℕ) → ((x : ℕ) → 1 ≤ times x l → f x ≡ g x) → map f l ≡ map g l
  map_agree [] h = refl
  map_agree (x ∷ l) h = ap₂ (λ y r. y ∷ r) (h x (omega (arith, times_cons x x l, times_self x))) (map_agree l (λ y q. h y (omega (arith, times_cons y x l))))

pub keep_agree : (s t : ℕ → Bool) (l : List ℕ) → ((x : ℕ) → 1 ≤ times x l → s x ≡ t x) → keep s l ≡ keep t l
unfolding keep
keep_agree s t [] h = refl
keep_agree s t (x ∷ l) h = rw (h x (omega (arith, times_cons x x l, times_self x)), keep_agree s t l (λ y q. h y (omega (arith, times_cons y x l))))

pub times_at : (l : List ℕ) (i d : ℕ) → i < length l → 1 ≤ times (get_or l i d) l
times_at [] i d h = absurd (omega arith)
times_at (x ∷ l) zero d h = omega (arith, times_cons x x l, times_self x)
times_at (x ∷ l) (suc i) d h = omega (arith, times_cons (get_or l i d) x l, times_at l i d (omega arith))

pub mapped_at : (f : ℕ → ℕ) (l : List ℕ) (i d : ℕ) → i < length l → get_or (map f l) i d ≡ f (get_or l i d)
mapped_at f [] i d h = absurd (omega arith)
mapped_at f (x ∷ l) zero d h = refl
mapped_at f (x ∷ l) (suc i) d h = mapped_at f l i d (omega arith)

-- a number below the bound, among those that pass
pub member_kept : (t : ℕ → Bool) (x n : ℕ) → x < n → member x (keep t (below n)) ≡ t x
unfolding member
member_kept t x n h = go (t x) refl (member x (keep t (below n))) refl
  where
    go : (u : Bool) → t x ≡ u → (v : Bool) → member x (keep t (below n)) ≡ v → any (eqb x) (keep t (below n)) ≡ t x
    go true e v q = in_any (eqb x) (keep t (below n)) x (omega (arith, below_kept t x n h e)) (eq-eqb x x refl) ∙ sym e
    go false e true q = absurd (true≢false (sym (kept_below t x n (member_in x (keep t (below n)) q)).0 ∙ e))
    go false e false q = q ∙ sym e

pub length_kept : (t : ℕ → Bool) (n : ℕ) → length (keep t (below n)) ≡ count_below n t
unfolding below row keep count_below
length_kept t zero = refl
length_kept t (suc n) = ap length (keep_append t (below n) (n ∷ [])) ∙ (length-append (keep t (below n)) (keep t (n ∷ [])) ∙ go (t n) (length_kept t n))
  where
    go : (b : Bool) → length (keep t (below n)) ≡ count_below n t
        → length (keep t (below n)) + length (if b then n ∷ [] else []) ≡ (if b then count_below n t + 1 else count_below n t)
    go true h = omega arith
    go false h = omega arith

-- a list with one member, that stands in it once
pub length_sole : (x : ℕ) (l : List ℕ) → times x l ≡ 1 → ((y : ℕ) → 1 ≤ times y l → y ≡ x) → length l ≡ 1
unfolding times
length_sole x [] e h = absurd (omega arith)
length_sole x (y ∷ []) e h = refl
length_sole x (y ∷ v ∷ l) e h =
    let one : y ≡ x = h y (omega (arith, times_cons y y (v ∷ l), times_self y)) in
    let two : v ≡ x = h v (omega (arith, times_cons v y (v ∷ l), times_cons v v l, times_self v)) in
    absurd (omega (arith, e, times_cons x y (v ∷ l), times_cons x v l, ap (λ (u : ℕ). times x (u ∷ [])) one, ap (λ (u : ℕ). times x (u ∷ [])) two, times_self x))

-- a list of one place has one member
pub sole_member : (x y : ℕ) (l : List ℕ) → length l ≡ 1 → 1 ≤ times x l → 1 ≤ times y l → x ≡ y
unfolding times
sole_member x y [] e h k = absurd (omega arith)
sole_member x y (v ∷ []) e h k = times-only x v h ∙ sym (times-only y v k)
sole_member x y (v ∷ u ∷ l) e h k = absurd (omega arith)

module _ (t : ℕ → Bool) where
  pub keep_all : (l : List ℕ) → ((x : ℕ) → 1 ≤ times x l → t x ≡ true) → keep t l ≡ l
  unfolding keep
  keep_all [] h = refl
  keep_all (x ∷ l) h = rw (h x (omega (arith, times_cons x x l, times_self x))) (ap (λ r. x ∷ r) (keep_all l (λ y q. h y (omega (arith, times_cons y x l)))))

  pub keep-none : (l : List ℕ) → ((x : ℕ) → 1 ≤ times x l → t x ≡ false) → keep t l ≡ []
  unfolding keep
  keep-none [] h = refl
  keep-none (x ∷ l) h = rw (h x (omega (arith, times_cons x x l, times_self x))) (keep-none l (λ y q. h y (omega (arith, times_cons y x l))))

-- ---- by a key

module _ (key : ℕ → ℕ) where
  insert_first : (x : ℕ) (l : List ℕ) → ((y : ℕ) → 1 ≤ times y l → key x < key y) → insert_by key x l ≡ x ∷ l
  unfolding insert_by
  insert_first x [] h = refl
  insert_first x (y ∷ l) h = rw (lt-ltb (key x) (key y) (h y (omega (arith, times_cons y y l, times_self y))))

  module _ (t : ℕ → Bool) where
    keep_insert : (x : ℕ) (l : List ℕ) → Rising key l → keep t (insert_by key x l) ≡ (if t x then insert_by key x (keep t l) else keep t l)
    unfolding keep insert_by
    keep_insert x [] p = refl
    keep_insert x (v ∷ l) p = go (ltb (key x) (key v)) refl (t x) refl (t v) refl (keep_insert x l p.1)
      where
        behind : key x < key v → (y : ℕ) → 1 ≤ times y l → key x < key y
        behind h y q = omega (arith, p.0 y q)

        first : key x < key v → insert_by key x (keep t l) ≡ x ∷ keep t l
        first h = insert_first x (keep t l) (λ y q. behind h y (kept_in t y l q).1)

        go : (s : Bool) → ltb (key x) (key v) ≡ s → (u : Bool) → t x ≡ u → (w : Bool) → t v ≡ w → keep t (insert_by key x l) ≡ (if t x then insert_by key x (keep t l) else keep t l)
            → keep t (if s then x ∷ v ∷ l else v ∷ insert_by key x l) ≡ (if t x then insert_by key x (if t v then v ∷ keep t l else keep t l) else (if t v then v ∷ keep t l else keep t l))
        go true e true a true b r = rw (a, b, e)
        go true e true a false b r = rw (a, b) (sym (first (ltb-true (key x) (key v) e)))
        go true e false a w b r = rw a
        go false e true a true b r = rw (a, b, e) (ap (λ m. v ∷ m) (rw a at r))
        go false e true a false b r = rw (a, b) (rw a at r)
        go false e false a true b r = rw (a, b) (ap (λ m. v ∷ m) (rw a at r))
        go false e false a false b r = rw (a, b) (rw a at r)

    keep_into : (sorted l : List ℕ) → Rising key sorted → keep t (sort_into key sorted l) ≡ sort_into key (keep t sorted) (keep t l)
    unfolding keep sort_into
    keep_into sorted [] p = refl
    keep_into sorted (x ∷ l) p = keep_into (insert_by key x sorted) l (rising_insert key x sorted p) ∙ go (t x) (keep_insert x sorted p)
      where
        go : (u : Bool) → keep t (insert_by key x sorted) ≡ (if u then insert_by key x (keep t sorted) else keep t sorted)
            → sort_into key (keep t (insert_by key x sorted)) (keep t l) ≡ sort_into key (keep t sorted) (if u then x ∷ keep t l else keep t l)
        go true h = rw h
        go false h = rw h

    pub keep_sort : (l : List ℕ) → keep t (sort_by key l) ≡ sort_by key (keep t l)
    unfolding sort_by keep
    keep_sort l = keep_into [] l tt

    pub any_sort : (l : List ℕ) → any t (sort_by key l) ≡ any t l
    any_sort l = same_truth _ _
        (λ h. let w = any_in t (sort_by key l) h in in_any t l w.0 (omega (arith, w.1, times_sort key w.0 l)) w.2)
        (λ h. let w = any_in t l h in in_any t (sort_by key l) w.0 (omega (arith, w.1, times_sort key w.0 l)) w.2)

  -- those with a higher key than an element of a list in order are those behind it
  pub keep-behind : (before : List ℕ) (x : ℕ) (behind : List ℕ) → Rising key (before ++ (x ∷ behind)) → ((y : ℕ) → 1 ≤ times y behind → key x ≢ key y)
      → keep (λ y. ltb (key x) (key y)) (before ++ (x ∷ behind)) ≡ behind
  unfolding keep
  keep-behind before x behind p differ =
      keep_append (λ y. ltb (key x) (key y)) before (x ∷ behind)
      ∙ rw (keep-none (λ y. ltb (key x) (key y)) before (λ y q. le-ltb (key x) (key y) (pairwise_cut (λ u v. key u ≤ key v) before (x ∷ behind) p y x q (omega (arith, times_cons x x behind, times_self x)))), le-ltb (key x) (key x) (omega arith))
      (keep_all (λ y. ltb (key x) (key y)) behind (λ y q. lt-ltb (key x) (key y) (higher y q)))
    where
      tail : (l : List ℕ) → Rising key (l ++ (x ∷ behind)) → Rising key (x ∷ behind)
      tail [] r = r
      tail (y ∷ l) r = tail l r.1

      higher : (y : ℕ) → 1 ≤ times y behind → key x < key y
      higher y q = strict y ((tail before p).0 y q) (differ y q)
        where
          strict : (y : ℕ) → key x ≤ key y → key x ≢ key y → key x < key y
          strict y h ne = omega arith

-- ---- one turn of a loop

pub times_more : (x i : ℕ) (l : List ℕ) → i < length l → times x (take (i + 1) l) ≡ times x (take i l) + times x (get_or l i 0 ∷ [])
times_more x i l h = ap (times x) (done_more i l 0 h) ∙ times_append x (take i l) (get_or l i 0 ∷ [])

pub take_more : (t : ℕ → Bool) (k : ℕ) → t k ≡ true → keep t (below (k + 1)) ≡ keep t (below k) ++ (k ∷ [])
unfolding keep
take_more t k h = ap (keep t) (below_more k) ∙ (keep_append t (below k) (k ∷ []) ∙ rw h)

pub pass_more : (t : ℕ → Bool) (k : ℕ) → t k ≡ false → keep t (below (k + 1)) ≡ keep t (below k)
unfolding keep
pass_more t k h = ap (keep t) (below_more k) ∙ (keep_append t (below k) (k ∷ []) ∙ rw (h, append-nil))
