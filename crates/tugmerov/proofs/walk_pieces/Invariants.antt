use Rattle.tugmerov.proofs.Going.{Going}
use Rattle.input.specs.Ahead.{ahead}
use Rattle.tugmerov.proofs.walk_pieces.Given as goal

abbrev pub invariant-loop : goal.invariant-loop
invariant-loop l =
    let from = ahead l.initial.walk l.initial.line l.initial.flash l.initial.spare l.initial.disk l.initial.out in
    Going from l.walk l.line l.buffer l.flash l.spare l.disk l.out
