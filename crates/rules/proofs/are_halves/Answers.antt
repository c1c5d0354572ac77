use Rattle.rules.proofs.are_halves.Goals as goal

pub returns : goal.returns
returns c = rw (c.half_at-behind.ensures, c.half_at-here.ensures)
