use mathlib.Core.Path.{refl}
use Rattle.lists.specs.Arrays.{padded}
use Rattle.fifo.proofs.Fifo.empty.Goals as goal

pub returns : goal.returns
unfolding padded
returns c = refl
