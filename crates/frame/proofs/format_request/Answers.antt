-- `frame::format_request` meets its contract: from the allowance the walk goes behind the six sizes.
use Rattle.std.proofs.Common.{◌≡◌, ℕ, ◌+◌, List}
use Rattle.model.specs.Driving.{bytes_of, format_sizes}
use Rattle.line.specs.Field.{field_at}
use Rattle.frame.specs.declared.Request.TheVariants.{Format}
use Rattle.frame.specs.Request.{format_from}
use Rattle.frame.proofs.format_request.Goals as goal

fields : (n : ℕ) (f : List ℕ) {at : ℕ} → at ≡ 3
    → Format n (record { s = field_at f at 2; p = field_at f (at + 2) 1; c = field_at f (at + 2 + 1) 2; b = field_at f (at + 2 + 1 + 2) 2; r = field_at f (at + 2 + 1 + 2 + 2) 1; w = field_at f (at + 2 + 1 + 2 + 2 + 1) 1 }) ≡ format_from n f
unfolding format_from format_sizes field_at
fields n f e = rw e

pub returns : goal.returns
returns c = rw (c.next-w.ensures, c.next-r.ensures, c.next-b.ensures, c.next-c.ensures, c.next-p.ensures, c.next-s.ensures) (fields c.args.allowance.field (bytes_of c.args.allowance.text.now) c.requires)
