use Rattle.lists.proofs.Arrays.{keep-length}
use Rattle.std.specs.Prelude.{if◌then◌else◌}
use lib.Seq.{take_all}
use lib.ListN.{get_or, set, drop_of_length-le, length-drop, length, take, drop}
use lib.Dec.{ltb}
use Prim.Native.Nat.{ℕ, ◌+◌, ◌<◌, ◌-◌}
use mathlib.Core.Bool.{Bool, true, false, not, ◌&&◌}
use Rattle.classes.proofs.Turns.{but_value, earlier, back, but_length, named_more}
use Rattle.std.proofs.lemmas.Bool.{eq-eqb, ne_eqb}
use Rattle.classes.specs.Columns.{is_named, all_but, nowhere}
use Rattle.lists.specs.Lists.{keep}
use mathlib.Core.List.{List, ◌++◌, append-nil}
use mathlib.Core.Path.{◌≡◌, sym, ap, ◌∙◌}
use native.Mathlib.Omega.{arith}
use Rattle.classes.proofs.all_but.Goals.{else-candidate-newer, then-candidate-newer}
use Rattle.classes.proofs.all_but.Goals as goal

-- one turn, at i: what stands behind it is filled, and the named ones there are counted
module _ (n : ℕ) (m column : List ℕ) (same : length m ≡ length column) {out : List ℕ} {newer end : ℕ} (i : ℕ) (inside : i < length m) (next : end ≡ i + 1) (counted : newer ≡ length (keep is_named (drop end m))) (filled : out ≡ take end m ++ drop end (all_but n m column)) where
  counted_behind : newer ≡ length (keep is_named (drop (i + 1) m))
  counted_behind = rw (← next) counted

  filled_behind : out ≡ take (i + 1) m ++ drop (i + 1) (all_but n m column)
  filled_behind = rw (← next) filled

  as_it_was : get_or out i 0 ≡ get_or m i 0
  as_it_was = earlier (all_but n m column) m (sym (but_length n m column same)) i filled_behind inside

  count_more : (u : Bool) → is_named (get_or out i 0) ≡ u → length (keep is_named (drop i m)) ≡ (if u then newer + 1 else newer)
  count_more u e = named_more m i inside u (rw (← as_it_was) e) ∙ ap (λ (k : ℕ). if u then k + 1 else k) (sym counted_behind)

  fill_back : {x : ℕ} (u : Bool) → (is_named (get_or out i 0) && ltb newer n) ≡ u → x ≡ (if u then nowhere else get_or column i 0) → set out i x ≡ take i m ++ drop i (all_but n m column)
  fill_back u e x =
      back (all_but n m column) m (sym (but_length n m column same)) i filled_behind inside (x ∙ but_value n m column i same inside as_it_was counted_behind u e)

pub loop-i-init : goal.loop-i-init
unfolding keep
loop-i-init c = let x = c.args in
    let m = x.candidates.now in
    let size = but_length x.n m x.column.now c.requires in (
      rw (drop_of_length-le m {i = length x.column.now} (omega arith)),
      rw (take_all (length x.column.now) m (omega arith), drop_of_length-le (all_but x.n m x.column.now) {i = length x.column.now} (omega arith)) (sym (append-nil m)),
    )

pub overflow_add-newer : goal.overflow_add-newer
overflow_add-newer c = let m = c.args.candidates.now in
    omega (arith, c.loop-i.invariant.0, keep-length is_named (drop c.loop-i.i m), length-drop c.loop-i.i m)

pub loop-i-preserved-then-candidate : goal.loop-i-preserved-then-candidate
loop-i-preserved-then-candidate c = let l = c.loop-i in let x = c.args in
    let m = x.candidates.now in
    let i = l.i - 1 in
    let inside : i < length m = omega arith in
    let next : l.i ≡ i + 1 = omega arith in (
      sym (count_more x.n m x.column.now c.requires i inside next l.invariant.0 l.invariant.1 true (ap not (ne_eqb (get_or l.candidates i 0) nowhere c.if-candidate.true))),
      elim c.if-candidate-newer.branch [
        | then-candidate-newer w ↦ fill_back x.n m x.column.now c.requires i inside next l.invariant.0 l.invariant.1 true w.if-candidate-newer.true w.candidates-is
        | else-candidate-newer w ↦ fill_back x.n m x.column.now c.requires i inside next l.invariant.0 l.invariant.1 false w.if-candidate-newer.false w.candidates-is
      ],
    )

pub loop-i-preserved : goal.loop-i-preserved
loop-i-preserved c = let l = c.loop-i in let x = c.args in
    let m = x.candidates.now in
    let i = l.i - 1 in
    let inside : i < length m = omega arith in
    let next : l.i ≡ i + 1 = omega arith in (
      sym (count_more x.n m x.column.now c.requires i inside next l.invariant.0 l.invariant.1 false (ap not (eq-eqb (get_or l.candidates i 0) nowhere c.if-candidate.false))),
      elim c.if-candidate-newer.branch [
        | then-candidate-newer w ↦ fill_back x.n m x.column.now c.requires i inside next l.invariant.0 l.invariant.1 true w.if-candidate-newer.true w.candidates-is
        | else-candidate-newer w ↦ fill_back x.n m x.column.now c.requires i inside next l.invariant.0 l.invariant.1 false w.if-candidate-newer.false w.candidates-is
      ],
    )

pub returns : goal.returns
returns c = let none : c.loop-i.i ≡ 0 = omega arith in
    rw none at c.loop-i.invariant.1
