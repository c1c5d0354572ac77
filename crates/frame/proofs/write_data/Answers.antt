-- `frame::write_data` meets its contract.
use mathlib.Core.Path.{◌∙◌}
use native.Mathlib.Omega.{arith}
use lib.ListN.{length, drop}
use lib.Seq.{take_all}
use Rattle.lists.specs.Lists.{part}
use Rattle.model.specs.Driving.{bytes_of}
use Rattle.frame.proofs.write_data.Goals as goal

pub returns : goal.returns
unfolding part
returns c = let behind = drop c.args.at (bytes_of c.args.line.now) in
    c.decode.ensures ∙ take_all (length c.args.out.now) behind (omega (arith, c.requires.out_len))
