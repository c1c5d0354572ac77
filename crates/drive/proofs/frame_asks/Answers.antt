-- `drive::frame_asks` meets its contract.
use mathlib.Core.Path.{refl}
use Rattle.frame.specs.Request.{is_format}
use Rattle.drive.specs.Asking.{unmade, sizes_asked}
use Rattle.drive.proofs.Requests.{other_request}
use Rattle.drive.proofs.frame_asks.Goals as goal

pub returns-in-Format : goal.returns-in-Format
unfolding unmade sizes_asked is_format
returns-in-Format c = rw c.in-Format.is (c.check_format-makes.ensures, refl, refl)

pub returns-then-formatted : goal.returns-then-formatted
returns-then-formatted c = let a = c.args in
    let other = other_request a.formatted a.kept a.request c.in_default.not-Format in
    rw (other.0, other.1, other.2, c.if-formatted.true) (refl, refl, refl)

pub returns-else-formatted : goal.returns-else-formatted
returns-else-formatted c = let a = c.args in
    let other = other_request a.formatted a.kept a.request c.in_default.not-Format in
    rw (other.0, other.1, other.2, c.if-formatted.false) (refl, refl, refl)
