-- `frame::write_request` meets its contract: from the allowance the walk goes behind two fields of two bytes, and the data are what is left.
use Rattle.std.proofs.Common.{◌≡◌, ℕ, ◌+◌, List, length, drop}
use Rattle.model.specs.Driving.{bytes_of}
use Rattle.line.specs.Field.{field_at}
use Rattle.frame.specs.declared.Request.TheVariants.{Write}
use Rattle.frame.specs.Request.{write_from}
use Rattle.frame.proofs.write_request.Goals as goal

fields : (n : ℕ) (f : List ℕ) {at : ℕ} → at ≡ 3 → Write n (field_at f at 2) (field_at f (at + 2) 2) (record { at = at + 2 + 2; length = length (drop (at + 2 + 2) f) }) ≡ write_from n f
unfolding write_from field_at
fields n f e = rw e

pub returns : goal.returns
returns c = rw (c.left-length.ensures, c.next-offset.ensures, c.next-bucket.ensures) (fields c.args.allowance.field (bytes_of c.args.allowance.text.now) c.requires)
