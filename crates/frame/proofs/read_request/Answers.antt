-- `frame::read_request` meets its contract: from the allowance the walk goes behind three fields of two bytes.
use Rattle.std.proofs.Common.{◌≡◌, ℕ, ◌+◌, List}
use Rattle.model.specs.Driving.{bytes_of}
use Rattle.line.specs.Field.{field_at}
use Rattle.frame.specs.declared.Request.TheVariants.{Read}
use Rattle.frame.specs.Request.{read_from}
use Rattle.frame.proofs.read_request.Goals as goal

fields : (n : ℕ) (f : List ℕ) {at : ℕ} → at ≡ 3 → Read n (field_at f at 2) (field_at f (at + 2) 2) (field_at f (at + 2 + 2) 2) ≡ read_from n f
unfolding read_from field_at
fields n f e = rw e

pub returns : goal.returns
returns c = rw (c.next-length.ensures, c.next-offset.ensures, c.next-bucket.ensures) (fields c.args.allowance.field (bytes_of c.args.allowance.text.now) c.requires)
