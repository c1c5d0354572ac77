-- `workbench::asks::call_line` meets its contract.
use mathlib.Core.Path.{◌≡◌, sym}
use native.Mathlib.Omega.{arith}
use Rattle.drive.specs.Asking.{unmade}
use Rattle.drive.proofs.Asking.{asked_held}
use Rattle.model.proofs.Digits.{bytes_length}
use Rattle.workbench.proofs.asks.call_line.Goals as goal

pub told-requires : goal.told-requires
told-requires c = (c.with_less.ensures, c.requires.arrays.1)

pub called_line-requires : goal.called_line-requires
called_line-requires c = let start = c in
    let asked = c.asks-asked.ensures in
    let request = c.frame_request-request in
    let r = start.args.b.recorder in
    let none : unmade r.formatted request.result ≡ 0 = sym (rw c.in-Ok.is at asked.0) in record {
      framed = (
        record { digits = start.requires.line_value.0; short = omega (arith, start.requires.line_value.1, bytes_length start.args.line.now); asks = request.ensures },
        rw asked.1 (asked_held r.formatted r.sizes start.requires.line_value.2 request.result none),
        start.requires.line_value.2,
      );
      arrays = start.requires.arrays;
    }
