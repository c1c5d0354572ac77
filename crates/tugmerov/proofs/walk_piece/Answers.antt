-- `tugmerov::walk_piece` meets its contract.
use mathlib.Core.Path.{◌≡◌, refl}
use Prim.Native.Nat.{◌-◌, ◌<◌}
use native.Mathlib.Omega.{arith}
use lib.ListN.{length-take}
use Rattle.tugmerov.proofs.Along.{set_out, along, all_along}
use Rattle.input.specs.Ahead.{ahead}
use Rattle.tugmerov.proofs.walk_piece.Goals as goal

pub loop-walk-init : goal.loop-walk-init
loop-walk-init c = (set_out _ c.args.w _ _ _ _ _ _ c.requires.sound.0, c.requires.sound.1, refl, refl, refl, refl, refl, refl)

pub advance-walk-requires : goal.advance-walk-requires
advance-walk-requires c =
    let l = c.loop-walk in
    record { sound = l.invariant.0.sound; passed_in_bounds = (c.loop-walk-test.true, omega (arith, l.invariant.1, l.invariant.7, c.requires.piece_len_bound)) }

pub slice_bounds-write_out-end : goal.slice_bounds-write_out-end
slice_bounds-write_out-end c = c.advance-walk.ensures.sound_2.0.printed_room

pub slice_bounds-write_out-end-in-loop-walk : goal.slice_bounds-write_out-end-in-loop-walk
slice_bounds-write_out-end-in-loop-walk c = simp length-take (omega (arith, c.advance-walk.ensures.sound_2.0.printed_room))

pub overflow_sub-walk : goal.overflow_sub-walk
overflow_sub-walk c = omega (arith, simp length-take at c.in-Err.ensures)

pub overflow_add-written : goal.overflow_add-written
overflow_add-written c =
    let l = c.loop-walk in
    omega (arith, simp length-take at c.in-Err.ensures, l.invariant.0.few, l.invariant.0.inside, c.advance-walk.ensures.sound_2.0.printed_room, l.invariant.7, c.requires.piece_len_bound)

pub overflow_add-written-in-loop-walk : goal.overflow_add-written-in-loop-walk
overflow_add-written-in-loop-walk c =
    let l = c.loop-walk in
    omega (arith, l.invariant.0.few, l.invariant.0.inside, c.advance-walk.ensures.sound_2.0.printed_room, l.invariant.7, c.requires.piece_len_bound)

pub loop-walk-smaller : goal.loop-walk-smaller
loop-walk-smaller c = let sound = c.advance-walk.ensures.sound_2 in omega (arith, sound.1, sound.2, c.loop-walk-test.true)

pub loop-walk-preserved : goal.loop-walk-preserved
loop-walk-preserved c =
    let l = c.loop-walk in
    let a = c.advance-walk in
    let on = along _ _ l.walk _ _ _ _ _ _ l.written l.invariant.0 l.invariant.1 a.result _ _ _ _ _ _ a.ensures.sound_2.0 a.ensures.sound_2.1 a.ensures.sound_2.2 a.ensures.by_index (omega (arith, l.invariant.7, c.requires.piece_len_bound.2)) a.result.printed (omega arith) in
    let all : a.result.printed - a.result.printed ≡ 0 = omega arith in
    (rw all at on, refl, omega (arith, l.invariant.2), omega (arith, l.invariant.3), omega (arith, l.invariant.4), omega (arith, l.invariant.5), omega (arith, l.invariant.6), omega (arith, l.invariant.7))

pub returns-in-Err : goal.returns-in-Err
unfolding ahead
returns-in-Err c =
    let l = c.loop-walk in
    let a = c.advance-walk in
    let put = c.in-Err.unwritten.written in
    let less : put < a.result.printed = omega (arith, simp length-take at c.in-Err.ensures) in
    let on = along _ _ l.walk _ _ _ _ _ _ l.written l.invariant.0 l.invariant.1 a.result _ _ _ _ _ _ a.ensures.sound_2.0 a.ensures.sound_2.1 a.ensures.sound_2.2 a.ensures.by_index (omega (arith, l.invariant.7, c.requires.piece_len_bound.2)) put (omega (arith, less)) in
    record { sound_2 = on.sound; begun = on.begun; walked = λ none. absurd (omega (arith, none, less)); failed = omega (arith, less) }

pub returns : goal.returns
unfolding ahead
returns c =
    let l = c.loop-walk in
    record { sound_2 = l.invariant.0.sound; begun = l.invariant.0.begun; walked = all_along _ _ l.walk _ _ _ _ _ _ l.written l.invariant.0 (omega (arith, c.loop-walk-test.false)); failed = l.invariant.1 }
