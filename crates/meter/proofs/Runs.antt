-- Laws of runs: one plan after another, what an allowance makes of a plan, and the outcome that follows.
use Prim.Native.Nat.{ℕ, zero, suc, ◌+◌, ◌-◌, ◌<◌, ◌≤◌, min}
use mathlib.Core.Path.{◌≡◌, refl, sym, ap, ◌∙◌}
use mathlib.Core.Bool.{Bool, true, false, or-true, or-false}
use mathlib.Core.Logic.{◌⊎◌, inl, inr}
use mathlib.Core.List.{List, [], ◌∷◌, ◌++◌}
use native.Mathlib.Nat.{zero-sub, suc-sub-suc, sub-zero}
use native.Mathlib.Numerals.{add-one, sub-one}
use native.Mathlib.Omega.{arith}
use native.Mathlib.Decide.{dec_lt}
use lib.ListN.{length, take}
use lib.Dec.{ltb, eqb, leb-suc-suc, leb-suc-zero, leb-zero, eqb-suc-zero}
use lib.Seq.{take-nil, take_all}
use borrow.Author.Tests.{ltb-true, ltb-false, lt-ltb, le-ltb, ne_eqb}
use Rattle.lists.specs.Lists.{row}
use Rattle.model.specs.declared.Sizes.{Sizes}
use Rattle.model.specs.Sizes.{Device}
use Rattle.model.specs.Stores.{Store, apply, apply_all}
use Rattle.model.specs.State.{State}
use Rattle.model.specs.Steps.{Plan}
use Rattle.model.specs.Calls.{Call, sizes_of, carry_out}
use Rattle.meter.specs.declared.Meter.{Meter}
use Rattle.meter.specs.Run.{Run, fresh, allowed, spent, step, run_all, ended}

module _ (z : Sizes) where
  pub run_append : (ss ts : List Store) (r : Run) → run_all z (ss ++ ts) r ≡ run_all z ts (run_all z ss r)
  unfolding run_all
  run_append [] ts r = refl
  run_append (s ∷ ss) ts r = run_append ss ts (step z s r)

  -- a row of stores, one longer
  pub run_more : (f : ℕ → Store) (k : ℕ) (r : Run) → run_all z (row (k + 1) f) r ≡ step z (f k) (run_all z (row k f) r)
  unfolding run_all row
  run_more f k r = rw (add-one k) (run_append (row k f) (f k ∷ []) r)

  -- a run that is cut stays as it is
  run_cut : (ss : List Store) (d : Device) → run_all z ss (record { device = d; meter = record { left = 0; cut = true } }) ≡ record { device = d; meter = record { left = 0; cut = true } }
  unfolding run_all step
  run_cut [] d = refl
  run_cut (s ∷ ss) d = run_cut ss d

  -- all stores of a plan are made, or the run is cut and no further store changes it
  pub run_settled : (ss : List Store) (r : Run)
      → ((run_all z ss r).device ≡ apply_all z r.device ss) ⊎ ((ts : List Store) → run_all z ts (run_all z ss r) ≡ run_all z ss r)
  unfolding run_all step apply_all
  run_settled [] r = inl refl
  run_settled (s ∷ ss) r = go (eqb r.meter.left 0) refl (run_settled ss (step z s r))
    where
      go : (t : Bool) → eqb r.meter.left 0 ≡ t
          → ((run_all z ss (step z s r)).device ≡ apply_all z (step z s r).device ss) ⊎ ((ts : List Store) → run_all z ts (run_all z ss (step z s r)) ≡ run_all z ss (step z s r))
          → ((run_all z ss (step z s r)).device ≡ apply_all z (apply z r.device s) ss) ⊎ ((ts : List Store) → run_all z ts (run_all z ss (step z s r)) ≡ run_all z ss (step z s r))
      go true e h = inr (λ ts. rw (e, run_cut ss r.device) (run_cut ts r.device))
      go false e (inl h) = inl (h ∙ ap (λ (x : Device). apply_all z x ss) (rw e))
      go false e (inr h) = inr h

  -- Exactly the first n stores of a plan are made, in order, and the run is cut if and only if the plan has more.
  pub run_first : (ss : List Store) (d : Device) (n : ℕ)
      → run_all z ss (fresh d n) ≡ record { device = apply_all z d (take n ss); meter = record { left = n - length ss; cut = ltb n (length ss) } }
  unfolding run_all step apply_all
  run_first [] d n = rw (take-nil {A = Store} n, sub-zero n, leb-suc-zero n)
  run_first (s ∷ ss) d zero = run_cut ss d ∙ rw (zero-sub (suc (length ss)), leb-suc-suc 0 (length ss), leb-zero (length ss))
  run_first (s ∷ ss) d (suc n) = rw (eqb-suc-zero n, sub-one (suc n)) (run_first ss (apply z d s) n ∙ rw (suc-sub-suc n (length ss), leb-suc-suc (suc n) (length ss)))

  -- a plan in two parts: if the run is cut in the first, that is the run of both
  pub run_stopped : (ss ts : List Store) (d : Device) (n : ℕ) → (run_all z ss (fresh d n)).meter.cut ≡ true → run_all z (ss ++ ts) (fresh d n) ≡ run_all z ss (fresh d n)
  run_stopped ss ts d n h =
      let more : n < length ss = ltb-true n (length ss) (sym (ap (λ (r : Run). r.meter.cut) (run_first ss d n)) ∙ h) in
      let gone : n - length ss ≡ 0 = omega arith in
      rw (run_append ss ts (fresh d n), run_first ss d n, lt-ltb n (length ss) more, gone) (run_cut ts (apply_all z d (take n ss)))

  -- if it is not, the first part was made whole
  pub run_made : (ss : List Store) (d : Device) (n : ℕ) → (run_all z ss (fresh d n)).meter.cut ≡ false → (run_all z ss (fresh d n)).device ≡ apply_all z d ss
  run_made ss d n h =
      let enough : length ss ≤ n = ltb-false n (length ss) (sym (ap (λ (r : Run). r.meter.cut) (run_first ss d n)) ∙ h) in
      rw (run_first ss d n, take_all n ss enough)

-- A row of stores that lead from each device of a row to the next: so many are made as the allowance has left, and the run is cut if these are not all.
module _ (z : Sizes) (f : ℕ → Store) (g : ℕ → Device) (m : Meter) where
  -- n of them were asked for
  abbrev asked : ℕ → Run
  asked n = record { device = g (allowed n m); meter = spent n m }

  asked_made : (n : ℕ) → apply z (g n) (f n) ≡ g (suc n) → n < m.left → step z (f n) (asked n) ≡ asked (suc n)
  unfolding step spent
  asked_made n leads more =
      let some : eqb (m.left - n) 0 ≡ false = ne_eqb (m.left - n) 0 (λ e. omega arith) in
      let before : min m.left n ≡ n = omega arith in
      let after : min m.left (suc n) ≡ suc n = omega arith in
      let rest : m.left - n - 1 ≡ m.left - suc n = omega arith in
      rw (some, before, after, le-ltb m.left n (omega arith), le-ltb m.left (suc n) more, rest, leads)

  asked_cut : (n : ℕ) → m.left ≤ n → step z (f n) (asked n) ≡ asked (suc n)
  unfolding step spent
  asked_cut n none =
      let gone : m.left - n ≡ 0 = omega arith in
      let after : m.left - suc n ≡ 0 = omega arith in
      let least : min m.left n ≡ min m.left (suc n) = omega arith in
      rw (gone, after, least, lt-ltb m.left (suc n) (omega arith), or-true m.cut)

  pub row_run : (n : ℕ) → ((k : ℕ) → k < n → apply z (g k) (f k) ≡ g (suc k)) → run_all z (row n f) (record { device = g 0; meter = m }) ≡ asked n
  unfolding row run_all spent
  row_run zero leads =
      let none : min m.left 0 ≡ 0 = omega arith in
      rw (none, sub-zero m.left, le-ltb m.left 0 (omega arith), or-false m.cut)
  row_run (suc n) leads =
      rw (run_append z (row n f) (f n ∷ []) (record { device = g 0; meter = m }), row_run n (λ k h. leads k (omega arith))) (go (dec_lt n m.left))
    where
      go : Dec (n < m.left) → step z (f n) (asked n) ≡ asked (suc n)
      go (yes more) = asked_made n (leads n (omega arith)) more
      go (no none) = asked_cut n (omega arith)

-- the allowance does not grow
step_left : (z : Sizes) (s : Store) (r : Run) → (step z s r).meter.left ≤ r.meter.left
unfolding step
step_left z s r = go (eqb r.meter.left 0) refl
  where
    go : (t : Bool) → eqb r.meter.left 0 ≡ t → (step z s r).meter.left ≤ r.meter.left
    go true e = rw e (omega arith)
    go false e = rw e (omega arith)

pub run_left : (z : Sizes) (ss : List Store) (r : Run) → (run_all z ss r).meter.left ≤ r.meter.left
unfolding run_all
run_left z [] r = omega arith
run_left z (s ∷ ss) r = omega (arith, run_left z ss (step z s r), step_left z s r)

by_test : (n : ℕ) (k : Call) (s : State) (d : Device) (p : Plan) (t : Bool) → ltb n (length p.stores) ≡ t
    → ended n k s d p (record { device = apply_all (sizes_of k s) d (take n p.stores); meter = record { left = n - length p.stores; cut = ltb n (length p.stores) } })
    ≡ carry_out n k s d p
unfolding ended carry_out
by_test n k s d p true h =
    let more : n < length p.stores = ltb-true n (length p.stores) h in
    let e : n - (n - length p.stores) ≡ n = omega arith in
    rw (h, e)
by_test n k s d p false h =
    let enough : length p.stores ≤ n = ltb-false n (length p.stores) h in
    let e : n - (n - length p.stores) ≡ length p.stores = omega arith in
    rw (h, e, take_all n p.stores enough)

-- An operation that asked for all stores of its plan, from a whole allowance, has the outcome that the definitions give it.
pub run_ended : (n : ℕ) (k : Call) (s : State) (d : Device) (p : Plan)
    → ended n k s d p (run_all (sizes_of k s) p.stores (fresh d n)) ≡ carry_out n k s d p
run_ended n k s d p = ap (ended n k s d p) (run_first (sizes_of k s) p.stores d n) ∙ by_test n k s d p (ltb n (length p.stores)) refl
