use mathlib.Core.Bool.{true, false}
use mathlib.Core.Path.{◌≡◌, sym, ap, ◌∙◌}
use borrow.Author.Rules.{rules}
use Rattle.std.proofs.lemmas.Result.{IfOk-from_err}
use lib.Dec.{leb}
use borrow.Author.Tests.{le-leb, lt-leb}
use Rattle.model.specs.Tests.{first_failed}
use Rattle.geometry.specs.Geometry.{device}
use Rattle.model.specs.Operations.{last_epoch}
use Rattle.state.specs.View.{view_of}
use Rattle.checks.proofs.Rest.{reading, writing, write-rest}
use Rattle.checks.proofs.Failed.{stays_on}
use Rattle.checks.proofs.check_write.Goals as goal

pub returns-in_err-check_read : goal.returns-in_err-check_read
unfolding view_of
returns-in_err-check_read c = let a = c.args in
    let d = device a.flash.now a.spare.now a.disk.now in record {
      value = stays_on (reading (view_of a.s) d a.b a.offset a.length) _ _ _ c.from_residual.ensures.1 c.in_err-check_read.ensures.value
          ∙ ap first_failed (writing (view_of a.s) d a.b a.offset a.length);
      s_value = IfOk-from_err _ _ c.from_residual.ensures.0;
    }

pub returns : goal.returns
unfolding view_of
returns c = let a = c.args in
    let d = device a.flash.now a.spare.now a.disk.now in
    let epochs : leb a.s.next last_epoch ≡ true = le-leb a.s.next last_epoch c.if-s-gt-LAST_EPOCH.false in
    record { value = rw (write-rest (view_of a.s) d a.b a.offset a.length (sym c.in_ok-check_read.ensures.value), epochs); s_value = c.in_ok-check_read.ensures.s_value }

pub returns-then-s-gt-LAST_EPOCH : goal.returns-then-s-gt-LAST_EPOCH
unfolding view_of
returns-then-s-gt-LAST_EPOCH c = let a = c.args in
    let d = device a.flash.now a.spare.now a.disk.now in
    let epochs : leb a.s.next last_epoch ≡ false = lt-leb a.s.next last_epoch c.if-s-gt-LAST_EPOCH.true in
    record { value = rw (write-rest (view_of a.s) d a.b a.offset a.length (sym c.in_ok-check_read.ensures.value), epochs); s_value = search rules }
