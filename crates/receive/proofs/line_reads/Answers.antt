-- `receive::line_reads` meets its contract.
use Prim.Native.Nat.{◌+◌, ◌*◌}
use mathlib.Core.Path.{◌≡◌, sym, ◌∙◌}
use mathlib.Core.Bool.{true}
use native.Mathlib.Omega.{arith}
use lib.ListN.{length, length-drop}
use Rattle.lists.specs.Lists.{all}
use Rattle.model.specs.Driving.{is_digit, bytes_of}
use Rattle.model.specs.Mail.{frame_bucket, frame_page, frame_tag}
use Rattle.model.proofs.Digits.{bytes_length}
use Rattle.receive.proofs.Tested.{other_length, other_characters, well_written}
use Rattle.receive.proofs.line_reads.Goals as goal

pub returns-then-line-z : goal.returns-then-line-z
returns-then-line-z c = let a = c.args in sym (other_length a.z a.line.now c.if-line-z.true)

pub returns-then-not-all_digits : goal.returns-then-not-all_digits
returns-then-not-all_digits c = let a = c.args in
    sym (other_characters a.z a.line.now (sym c.all_digits.ensures ∙ c.if-not-all_digits.true))

pub decode-requires : goal.decode-requires
decode-requires c = let are-digits : all is_digit c.args.line.now ≡ true = sym c.all_digits.ensures ∙ c.if-not-all_digits.false in
    let line = c.args.line.now in
    record { line_value = are-digits; out_in_bounds = omega (arith, length-drop 3 (bytes_of line), bytes_length line, c.if-line-z.false) }

pub returns : goal.returns
unfolding frame_bucket frame_page frame_tag
returns c = let are-digits : all is_digit c.args.line.now ≡ true = sym c.all_digits.ensures ∙ c.if-not-all_digits.false in
    let a = c.args in
    let length-is : length a.line.now ≡ (19 + a.z.s) * 2 = c.if-line-z.false in
    rw (
      well_written a.z a.line.now length-is are-digits,
      c.is_blank-blank.ensures,
      c.decode.ensures,
      c.byte_at-page.ensures,
      c.number_at-bucket.ensures,
    )
