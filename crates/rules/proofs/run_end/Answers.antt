use native.Mathlib.Omega.{arith}
use Prim.Native.Nat.{ℕ, ◌+◌, ◌*◌, ◌-◌, ◌≤◌, ◌<◌}
use lib.ListN.{length}
use mathlib.Core.List.{List}
use mathlib.Core.Path.{◌≡◌, sym}
use Rattle.model.specs.declared.Sizes.{Sizes}
use Rattle.image.specs.Chip.{Chip}
use Rattle.image.proofs.Place.{page_inside}
use Rattle.rules.proofs.Runs.{start_inside, ordinal-below, next_fits, run_grows}
use Rattle.rules.proofs.run_end.Goals as goal

module _ {z : Sizes} {spare : List ℕ} {c : ℕ} (chip : Chip z spare) (on_chip : c < z.c) where
  -- the page before k is inside
  before : {k : ℕ} → 1 ≤ k → k ≤ z.p → (c * z.p + k) * 16 ≤ length spare
  before some within = start_inside z spare c chip on_chip _ some within

  -- so is page e, which the loop is at
  at_e : {e end : ℕ} → e < end → end ≤ z.p → (c * z.p + e) * 16 + 16 ≤ length spare
  at_e below within = page_inside chip on_chip (omega (arith, below, within))

pub overflow_mul-start : goal.overflow_mul-start
overflow_mul-start c = omega (arith, before c.requires.chip c.requires.c_lt_c c.requires.le_k.0 c.requires.le_k.1.0)

pub overflow_add-start : goal.overflow_add-start
overflow_add-start c = omega (arith, before c.requires.chip c.requires.c_lt_c c.requires.le_k.0 c.requires.le_k.1.0)

pub overflow_mul-start-2 : goal.overflow_mul-start-2
overflow_mul-start-2 c = omega (arith, before c.requires.chip c.requires.c_lt_c c.requires.le_k.0 c.requires.le_k.1.0)

pub overflow_sub-start : goal.overflow_sub-start
overflow_sub-start c = omega (arith, c.requires.le_k.0)

pub bounds-spare-start : goal.bounds-spare-start
bounds-spare-start c = omega (arith, before c.requires.chip c.requires.c_lt_c c.requires.le_k.0 c.requires.le_k.1.0, c.requires.le_k.0)

pub overflow_sub-start-2 : goal.overflow_sub-start-2
overflow_sub-start-2 c = omega (arith, c.requires.le_k.0)

pub bounds-spare-start-2 : goal.bounds-spare-start-2
bounds-spare-start-2 c = omega (arith, before c.requires.chip c.requires.c_lt_c c.requires.le_k.0 c.requires.le_k.1.0, c.requires.le_k.0)

pub log_end-end-requires : goal.log_end-end-requires
log_end-end-requires c = let a = c.args in let p = c.requires in
    record { limits = p.chip.limits; k_le_p = (p.le_k.1.0, ordinal-below a.z a.spare.now a.c p.chip p.c_lt_c a.k p.le_k.0 p.le_k.1) }

pub overflow_sub-start-3 : goal.overflow_sub-start-3
overflow_sub-start-3 c = omega (arith, c.requires.le_k.0)

pub half_at-second-requires : goal.half_at-second-requires
half_at-second-requires c = omega (arith, before c.requires.chip c.requires.c_lt_c c.requires.le_k.0 c.requires.le_k.1.0, c.requires.le_k.0)

pub overflow_sub-start-4 : goal.overflow_sub-start-4
overflow_sub-start-4 c = omega (arith, c.requires.le_k.0)

pub half_at-first-requires : goal.half_at-first-requires
half_at-first-requires c = omega (arith, before c.requires.chip c.requires.c_lt_c c.requires.le_k.0 c.requires.le_k.1.0, c.requires.le_k.0)

pub loop-e-init : goal.loop-e-init
loop-e-init c = record {
  some = c.requires.le_k.0;
  fits = c.requires.le_k.1;
  first_is = sym c.half_at-first.ensures;
  second_is = sym c.half_at-second.ensures;
  more = c.log_end-end.ensures.2;
}

pub overflow_add-first : goal.overflow_add-first
overflow_add-first c = let a = c.args in
    let fits = next_fits a.z a.spare.now a.c c.requires.chip c.requires.c_lt_c (λ j. omega (arith, c.shared_slice_known-1.given j)) in
    omega (arith, fits _ _ _ _ c.loop-e.invariant (omega (arith, c.loop-e-test.true)))

pub overflow_mul-c : goal.overflow_mul-c
overflow_mul-c c = omega (arith, at_e c.requires.chip c.requires.c_lt_c c.loop-e-test.true c.log_end-end.ensures.1)

pub overflow_add-c : goal.overflow_add-c
overflow_add-c c = omega (arith, at_e c.requires.chip c.requires.c_lt_c c.loop-e-test.true c.log_end-end.ensures.1)

pub overflow_mul-c-in-loop-e : goal.overflow_mul-c-in-loop-e
overflow_mul-c-in-loop-e c = omega (arith, at_e c.requires.chip c.requires.c_lt_c c.loop-e-test.true c.log_end-end.ensures.1)

pub are_halves-requires : goal.are_halves-requires
are_halves-requires c = at_e c.requires.chip c.requires.c_lt_c c.loop-e-test.true c.log_end-end.ensures.1

pub returns-then-not-are_halves : goal.returns-then-not-are_halves
returns-then-not-are_halves c = (c.loop-e.auto.e, c.loop-e.invariant.fits)

pub loop-e-preserved : goal.loop-e-preserved
loop-e-preserved c = let a = c.args in let l = c.loop-e in let w = c.log_end-end in
    let q : w.result - (l.e + 1) ≡ w.result - l.e - 1 = omega arith in
    let grown = run_grows a.z a.spare.now a.c c.requires.chip c.requires.c_lt_c (λ j. omega (arith, c.shared_slice_known-1.given j)) in
    rw q (grown _ _ _ _ l.invariant (omega arith) (omega (arith, w.ensures.1)) _ c.are_halves.ensures c.if-not-are_halves.false)

pub returns : goal.returns
returns c = let e : c.loop-e.e ≡ c.log_end-end.result = omega arith in (c.log_end-end.ensures.0, rw e at c.loop-e.invariant.fits)
