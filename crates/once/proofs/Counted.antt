-- Counts of cache buckets: how often each number stands in a list, added to what was counted before.
use Prim.Native.Nat.{ℕ, suc, ◌+◌, ◌≤◌, ◌<◌}
use mathlib.Core.Path.{◌≡◌, refl, sym, ap, ◌∙◌}
use mathlib.Core.Bool.{Bool, true, false, ◌&&◌}
use mathlib.Core.List.{List, [], ◌∷◌, ◌++◌}
use native.Mathlib.Omega.{arith}
use native.Mathlib.Nat.{add-zero}
use native.Mathlib.Decide.{ℕ_discrete}
use lib.Dec.{ltb}
use lib.ListN.{length, get_or, set, replicate, length-set, get_or-replicate}
use lib.Seq.{get_or-set_same, get_or-set_other}
use borrow.Author.Tests.{eqb-true, eq-eqb, ltb-true}
use Rattle.std.specs.Prelude.{if◌then◌else◌}
use Rattle.lists.specs.Lists.{every, times, all, all_below, keep}
use Rattle.lists.proofs.Arrays.{keep-length}
use Rattle.lists.proofs.Counts.{times_self, times_other, times_one, times_cons, times_append, length_once}
use Rattle.lists.proofs.Orders.{times-keep}
use Rattle.lists.proofs.Rows.{all-below}
use Rattle.model.specs.State.{is_below, once_in, each_once}
use Rattle.once.specs.Tally.{Few, Tallied}

times_few : (x : ℕ) (l : List ℕ) → times x l ≤ length l
unfolding times
times_few x [] = omega arith
times_few x (y ∷ l) = omega (arith, times_cons x y l, times_one x y, times_few x l)

pub tally_none : (before : List ℕ) → length before ≡ 256 → Tallied before [] before
unfolding times
tally_none before n = (n, λ x h. sym (add-zero (get_or before x 0)))

-- no count is higher by more than one
pub low_more : (counts : List ℕ) (y n : ℕ) → y < 256 → length counts ≡ 256 → ((x : ℕ) → x < 256 → get_or counts x 0 ≤ n)
    → (x : ℕ) → x < 256 → get_or (set counts y (get_or counts y 0 + 1)) x 0 ≤ n + 1
low_more counts y n h places low x k = go (ℕ_discrete x y)
  where
    go : Dec (x ≡ y) → get_or (set counts y (get_or counts y 0 + 1)) x 0 ≤ n + 1
    go (yes e) =
        let own : get_or (set counts y (get_or counts y 0 + 1)) x 0 ≡ get_or counts y 0 + 1 =
        ap (λ (j : ℕ). get_or (set counts y (get_or counts y 0 + 1)) j 0) e ∙ get_or-set_same counts y (get_or counts y 0 + 1) 0 (omega arith) in
        omega (arith, own, low y h)
    go (no d) = omega (arith, get_or-set_other counts y x (get_or counts y 0 + 1) 0 d, low x k)

-- one more number
pub tally_step : (before l counts : List ℕ) (y : ℕ) → y < 256 → Tallied before l counts → Tallied before (l ++ (y ∷ [])) (set counts y (get_or counts y 0 + 1))
tally_step before l counts y h told = (length-set counts y (get_or counts y 0 + 1) ∙ told.0, λ x k. go x k (ℕ_discrete x y))
  where
    go : (x : ℕ) → x < 256 → Dec (x ≡ y) → get_or (set counts y (get_or counts y 0 + 1)) x 0 ≡ get_or before x 0 + times x (l ++ (y ∷ []))
    go x k (yes e) =
        ap (λ (j : ℕ). get_or (set counts y (get_or counts y 0 + 1)) j 0) e
        ∙ (get_or-set_same counts y (get_or counts y 0 + 1) 0 (omega (arith, told.0)) ∙ omega (arith, told.1 x k, times_append x l (y ∷ []), ap (λ (j : ℕ). get_or counts j 0) e, ap (λ (j : ℕ). times x (j ∷ [])) e, times_self x))
    go x k (no d) = get_or-set_other counts y x (get_or counts y 0 + 1) 0 d ∙ omega (arith, told.1 x k, times_append x l (y ∷ []), times_other x y d)

pub tally_both : (before l middle m counts : List ℕ) → Tallied before l middle → Tallied middle m counts → Tallied before (l ++ m) counts
tally_both before l middle m counts s t = (t.0, λ x h. omega (arith, s.1 x h, t.1 x h, times_append x l m))

-- counts that began with nothing
pub tally_few : (l counts : List ℕ) → Tallied (replicate 256 0) l counts → length l ≤ 1024 → Few counts
tally_few l counts t n = (t.0, λ x h. omega (arith, t.1 x h, get_or-replicate {A = ℕ} 256 x 0 0 h, times_few x l))

-- ---- as many numbers as there are buckets, each bucket once: then all are buckets

keep_full : (t : ℕ → Bool) (l : List ℕ) → length (keep t l) ≡ length l → all t l ≡ true
unfolding keep all
keep_full t [] e = refl
keep_full t (x ∷ l) e = at (t x) e (keep_full t l) (keep-length t l)
  where
    at : (b : Bool) → length (if b then x ∷ keep t l else keep t l) ≡ suc (length l) → (length (keep t l) ≡ length l → all t l ≡ true) → length (keep t l) ≤ length l → (b && all t l) ≡ true
    at true e f h = f (omega arith)
    at false e f h = absurd (omega arith)

once_below : (n : ℕ) (l : List ℕ) → length l ≡ n → all_below n (once_in l) ≡ true → all (is_below n) l ≡ true
unfolding is_below once_in
once_below n l e h = keep_full (is_below n) l (length_once n (keep (is_below n) l) (λ x. times-keep (is_below n) x l ∙ go x (ltb x n) refl) ∙ sym e)
  where
    go : (x : ℕ) (t : Bool) → ltb x n ≡ t → (if t then times x l else 0) ≡ (if t then 1 else 0)
    go x true k = eqb-true (times x l) 1 (all-below n (once_in l) h x (ltb-true x n k))
    go x false k = refl

neither : (t : Bool) → (t && false) ≡ false
neither true = refl
neither false = refl

pub once_alone : (n : ℕ) (l : List ℕ) → length l ≡ n → each_once n l ≡ all_below n (once_in l)
unfolding each_once every
once_alone n l e = go (all_below n (once_in l)) refl
  where
    go : (t : Bool) → all_below n (once_in l) ≡ t → each_once n l ≡ t
    go true h = rw (eq-eqb (length l) n e, once_below n l e h, h)
    go false h = rw (eq-eqb (length l) n e, h) (neither (all (is_below n) l))
