-- `tugmerov::walk_pieces` meets its contract.
use Rattle.std.proofs.Common.{◌≡◌, arith}
use Rattle.tugmerov.proofs.Going.{set_out, further, where_none}
use Rattle.tugmerov.proofs.walk_pieces.Goals as goal

pub loop-init : goal.loop-init
loop-init c = set_out _ _ _ _ _ _ _ c.requires.sound.0 c.requires.sound.1

pub loop-preserved : goal.loop-preserved
loop-preserved c =
    let told = c.turn-told in
    let none : told.result.walk.printed ≡ 0 = where_none _ told.result.failure c.in_default.not-Some told.ensures.failed in
    record { sound = told.ensures.sound_2; none = none; reached = further _ _ _ c.loop.invariant.reached told.result.written _ (told.ensures.walked (omega arith) none) }
