-- `frame::frame_operation` meets its contract: a walk along the line is begun and goes behind the first field, of one byte.
use Rattle.std.proofs.Common.{◌≡◌, ℕ, List, refl}
use Rattle.model.specs.Driving.{bytes_of, operation}
use Rattle.line.specs.Field.{field_at}
use Rattle.frame.proofs.frame_operation.Goals as goal

first_byte : (f : List ℕ) → field_at f 0 1 ≡ operation f
unfolding field_at operation
first_byte f = refl

pub returns : goal.returns
returns c = rw (c.next-operation.ensures, c.start.ensures) (first_byte (bytes_of c.args.text.now))
