-- `receive::place_of` meets its contract.
use Prim.Native.Nat.{◌+◌, ◌*◌}
use mathlib.Core.Path.{◌≡◌}
use native.Mathlib.Omega.{arith}
use Rattle.model.specs.Sizes.{page_index}
use Rattle.model.specs.Mail.{frame_bucket, frame_page, place_of}
use Rattle.geometry.proofs.Passed.{products}
use Rattle.model.proofs.MailLines.{place_below}
use Rattle.receive.proofs.place_of.Goals as goal

pub overflow_mul-result : goal.overflow_mul-result
unfolding place_of page_index frame_bucket frame_page
overflow_mul-result c =
    let a = c.args in
    let place : c.number_at-bucket.result * a.z.p + c.byte_at-page.result ≡ place_of a.z a.line.now = rw (c.number_at-bucket.ensures, c.byte_at-page.ensures) in
    omega (arith, place, place_below a.z a.line.now c.requires.1, (products c.requires.0).pages)

pub overflow_add-result : goal.overflow_add-result
unfolding place_of page_index frame_bucket frame_page
overflow_add-result c =
    let a = c.args in
    let place : c.number_at-bucket.result * a.z.p + c.byte_at-page.result ≡ place_of a.z a.line.now = rw (c.number_at-bucket.ensures, c.byte_at-page.ensures) in
    omega (arith, place, place_below a.z a.line.now c.requires.1, (products c.requires.0).pages)

pub returns : goal.returns
unfolding place_of page_index frame_bucket frame_page
returns c =
    let a = c.args in
    let place : c.number_at-bucket.result * a.z.p + c.byte_at-page.result ≡ place_of a.z a.line.now = rw (c.number_at-bucket.ensures, c.byte_at-page.ensures) in
    (place, rw place (place_below a.z a.line.now c.requires.1))
