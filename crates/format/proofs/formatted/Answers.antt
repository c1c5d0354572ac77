use Rattle.model.specs.Operations.{format}
use Rattle.format.proofs.formatted.Goals as goal

pub returns : goal.returns
unfolding format
returns c = rw (c.rising.ensures, c.body.ensures, c.empty-3.ensures, c.empty-2.ensures, c.empty.ensures)
