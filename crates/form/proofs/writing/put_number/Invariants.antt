use mathlib.Core.Path.{◌≡◌}
use lib.ListN.{length}
use Rattle.lists.specs.Lists.{splice}
use Rattle.form.specs.Numbers.{number_bytes}
use Rattle.form.proofs.writing.put_number.Given as goal

abbrev pub invariant-loop-i : goal.invariant-loop-i
invariant-loop-i l = (length l.out ≡ length l.initial.out) × (splice l.out l.at (number_bytes l.i l.rest) ≡ splice l.initial.out l.at (number_bytes l.width l.number))
