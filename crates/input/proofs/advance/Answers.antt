-- `input::advance` meets its contract.
use lib.ListN.{length, drop, length-take, length-drop}
use native.Mathlib.Omega.{arith}
use Prim.Native.Nat.{◌-◌}
use Rattle.lists.specs.Lists.{part}
use Rattle.input.proofs.Along.{set_out, passed_some, held_on, walked_on}
use Rattle.input.proofs.Behind.{behind_inside, behind-length}
use Rattle.input.proofs.advance.Goals as goal

pub loop-walk-init : goal.loop-walk-init
loop-walk-init c = set_out _ _ _ _ _ _ _ _ c.requires.sound c.requires.passed_in_bounds.0

pub overflow_sub-out : goal.overflow_sub-out
overflow_sub-out c = c.loop-walk.invariant.sound.printed_room

pub line_end-end-requires : goal.line_end-end-requires
line_end-end-requires c = c.loop-walk.invariant.inside

pub gather-held-requires : goal.gather-held-requires
gather-held-requires c = let sound = c.loop-walk.invariant.sound in
    omega (arith, sound.line_room_lem, sound.held_room)

pub slice_bounds-on_line-end-then-end-piece : goal.slice_bounds-on_line-end-then-end-piece
slice_bounds-on_line-end-then-end-piece c = let loop = c.loop-walk in
    simp length-take (omega (arith, c.gather-held.ensures.0, c.gather-held.auto.line, loop.invariant.sound.line_room_lem))

pub on_line-made-requires : goal.on_line-made-requires
on_line-made-requires c =
    let l = c.loop-walk in
    let s = l.invariant.sound in
    let w = l.walk in
    (s.arrays, record { buffer_room = s.buffer_room; out_room = rw (length-take (length l.out - w.printed) (drop w.printed l.out), length-drop w.printed l.out) (omega (arith, c.if-out-walk-ge-LONGEST_TEXT.true)) }, s.ready)

pub overflow_add-printed : goal.overflow_add-printed
overflow_add-printed c =
    let l = c.loop-walk in
    let w = l.walk in
    let o = c.on_line-made in
    omega (arith, behind_inside l.out o.new.out (drop (length l.out - w.printed) (drop w.printed l.out)) w.printed o.result.length l.invariant.sound.printed_room o.ensures.ready.1, o.auto.out, l.invariant.out_same, c.well_formed)

pub loop-walk-smaller-then-end-piece : goal.loop-walk-smaller-then-end-piece
loop-walk-smaller-then-end-piece c = omega (arith, c.line_end-end.ensures.lower_bound.0, c.loop-walk-test.true)

pub loop-walk-preserved-then-end-piece : goal.loop-walk-preserved-then-end-piece
unfolding part
loop-walk-preserved-then-end-piece c =
    let l = c.loop-walk in
    let end = c.line_end-end in
    let g = c.gather-held in
    let o = c.on_line-made in
    let room = l.invariant.sound.line_room_lem in
    walked_on _ _ _ _ _ _ _ _ l.walk l.line l.buffer l.flash l.spare l.disk l.out l.invariant c.loop-walk-test.true end.result end.ensures.lower_bound end.ensures.one_line g.result g.new.line (omega (arith, g.ensures.0, room)) (rw room at g.ensures.1) g.auto.line o.result _ _ _ _ o.new.out (drop (length l.out - l.walk.printed) (drop l.walk.printed l.out)) o.ensures.out_after o.ensures.ready.0 o.ensures.ready.1 o.auto.buffer o.auto.flash o.auto.spare o.auto.disk (omega (arith, behind-length l.out o.new.out l.walk.printed l.invariant.sound.printed_room, o.auto.out)) c.if-end-piece.true

pub loop-walk-smaller : goal.loop-walk-smaller
loop-walk-smaller c = omega (arith, c.if-end-piece.false, c.loop-walk-test.true, c.line_end-end.ensures.lower_bound.1)

pub loop-walk-preserved : goal.loop-walk-preserved
unfolding part
loop-walk-preserved c =
    let l = c.loop-walk in
    let end = c.line_end-end in
    let g = c.gather-held in
    let room = l.invariant.sound.line_room_lem in
    held_on _ _ _ _ _ _ _ _ l.walk l.line l.buffer l.flash l.spare l.disk l.out l.invariant c.loop-walk-test.true end.result end.ensures.lower_bound end.ensures.one_line g.result g.new.line (omega (arith, g.ensures.0, room)) (rw room at g.ensures.1) g.auto.line (omega (arith, c.if-end-piece.false))

pub returns-else-out-walk-ge-LONGEST_TEXT : goal.returns-else-out-walk-ge-LONGEST_TEXT
returns-else-out-walk-ge-LONGEST_TEXT c = let v = c.loop-walk.invariant in record { by_index = v.alike; sound_2 = (v.sound, passed_some _ _ _ _ _ _ _ _ c.loop-walk.walk _ _ _ _ _ _ v c.requires.passed_in_bounds.1 c.if-out-walk-ge-LONGEST_TEXT.false, v.inside) }

pub returns-after-loop-walk : goal.returns-after-loop-walk
returns-after-loop-walk c = let v = c.loop-walk.invariant in record { by_index = v.alike; sound_2 = (v.sound, omega (arith, c.loop-walk-test.false, c.requires.passed_in_bounds.0), v.inside) }
