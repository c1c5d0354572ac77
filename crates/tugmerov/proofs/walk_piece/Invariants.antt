use Rattle.std.proofs.Common.{◌≡◌, ◌-◌, length}
use Rattle.tugmerov.proofs.Along.{Along}
use Rattle.input.specs.Ahead.{ahead}
use Rattle.tugmerov.proofs.walk_piece.Given as goal

abbrev pub invariant-loop-walk : goal.invariant-loop-walk
invariant-loop-walk l =
    let from = ahead l.initial.walk l.initial.line l.initial.flash l.initial.spare l.initial.disk l.initial.out in
    Along l.piece from l.walk l.line l.buffer l.flash l.spare l.disk l.out l.written
    × (l.walk.printed ≡ 0) × (length l.line ≡ length l.initial.line) × (length l.buffer ≡ length l.initial.buffer) × (length l.flash ≡ length l.initial.flash) × (length l.spare ≡ length l.initial.spare) × (length l.disk ≡ length l.initial.disk) × (length l.out ≡ length l.initial.out)

abbrev pub decreases-loop-walk : goal.decreases-loop-walk
decreases-loop-walk l = length l.piece - l.walk.passed
