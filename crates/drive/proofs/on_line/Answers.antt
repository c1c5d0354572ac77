-- `drive::on_line` meets its contract.
use mathlib.Core.Path.{sym, ◌∙◌}
use Rattle.model.specs.Tests.{number_of}
use Rattle.model.proofs.Refusals.{refused_lem}
use Rattle.drive.proofs.Asking.{Told, none_told, request_told, line_refused, line_called}
use Rattle.drive.proofs.Kept.{kept_ready}
use Rattle.drive.proofs.Texts.{no_call_line}
use Rattle.drive.specs.Recorder.{recorder_of}
use Rattle.drive.proofs.on_line.Goals as goal

pub returns-in-Err : goal.returns-in-Err
returns-in-Err c = let a = c.args in
    let r = recorder_of a.r a.flash.now a.spare.now a.disk.now in
    let refusal = c.in-Err.refusal in
    let request = c.request_of-request in
    let call = c.no_call in
    let told : Told a.r.formatted a.r.sizes request.result (number_of refusal) c.asks-asked.result.sizes c.asks-asked.result.format = rw c.in-Err.is at c.asks-asked.ensures in
    let e = no_call_line (number_of refusal) a.r call.result a.flash.now a.spare.now a.disk.now _ call.ensures.recorder_value
    ∙ sym (line_refused r a.line.now request.result request.ensures _ _ _ told (refused_lem refusal)) in
    record { out_after = e; ready = (kept_ready r c.requires.2 a.line.now e, call.ensures.length_in_bounds) }

pub unwrap-requires : goal.unwrap-requires
unwrap-requires c = let a = c.args in
    request_told a.r.formatted a.r.sizes c.request_of-request.result _ _ _ c.asks-asked.ensures (none_told c.asks-asked.result.makes c.in_default.not-Err)

pub called_line-requires : goal.called_line-requires
called_line-requires c = let a = c.args in
    let request = c.request_of-request in
    let none = none_told c.asks-asked.result.makes c.in_default.not-Err in
    let line = line_called (recorder_of a.r a.flash.now a.spare.now a.disk.now) a.line.now request.result request.ensures _ _ _ c.asks-asked.ensures none c.unwrap.result c.unwrap.ensures in
    record { line_value = line.asks; arrays = (c.requires.0, c.requires.1, line.held c.requires.2) }

pub returns : goal.returns
returns c = let a = c.args in
    let r = recorder_of a.r a.flash.now a.spare.now a.disk.now in
    let request = c.request_of-request in
    let none = none_told c.asks-asked.result.makes c.in_default.not-Err in
    let line = line_called r a.line.now request.result request.ensures _ _ _ c.asks-asked.ensures none c.unwrap.result c.unwrap.ensures in
    let e = c.called_line.ensures.out_after ∙ sym line.calls in
    record { out_after = e; ready = (kept_ready r c.requires.2 a.line.now e, c.called_line.ensures.length_in_bounds) }
