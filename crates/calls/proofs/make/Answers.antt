-- `calls::make` meets its contract.
use lib.ListN.{length-replicate, length-drop}
use native.Mathlib.Omega.{arith}
use mathlib.Core.Path.{refl, sym, ◌∙◌}
use Rattle.frame.proofs.Meaning.{call_from, allowance_of}
use Rattle.geometry.specs.Geometry.{device}
use Rattle.model.specs.Calls.{lent_buffer}
use Rattle.model.specs.Driving.{bytes_of}
use Rattle.calls.proofs.Asked.{asked_narrow, asked_made, unread_made}
use Rattle.calls.proofs.make.Goals as goal

pub read_call-requires : goal.read_call-requires
read_call-requires c =
    let n = asked_narrow c.args.line.now c.requires.framed (sym c.in-Read.is) in
    (n.0, omega (arith, n.1, c.requires.most_read_in_bounds))

pub write_call-requires : goal.write_call-requires
write_call-requires c =
    let n = asked_narrow c.args.line.now c.requires.framed (sym c.in-Write.is) in
    record { bucket_bound = (n.0, c.requires.framed.digits, omega (arith, n.1, length-drop c.in-Write.data.at (bytes_of c.args.line.now), c.requires.framed.short, c.requires.most_read_in_bounds)); length_value = n.1 }

pub returns-in-Format : goal.returns-in-Format
unfolding lent_buffer call_from allowance_of
returns-in-Format c =
    let made = unread_made c.args.line.now c.requires.framed (sym c.in-Format.is) c.args.z c.args.s (device c.args.flash.now c.args.spare.now c.args.disk.now) _ _ c.unread.ensures refl c.format.ensures in
    record { outcome_after = made.0; read_value = made.1 }

pub returns-in-Read : goal.returns-in-Read
unfolding lent_buffer call_from allowance_of
returns-in-Read c =
    let a = c.args in
    let read = c.read_call.ensures in
    let made = asked_made a.line.now c.requires.framed (sym c.in-Read.is) a.z a.s (device a.flash.now a.spare.now a.disk.now) (read.read_value ∙ sym (length-replicate c.in-Read.length 0)) read.outcome_after in
    record { outcome_after = made.0; read_value = made.1 }

pub returns-in-Write : goal.returns-in-Write
unfolding lent_buffer call_from allowance_of
returns-in-Write c =
    let made = unread_made c.args.line.now c.requires.framed (sym c.in-Write.is) c.args.z c.args.s (device c.args.flash.now c.args.spare.now c.args.disk.now) _ _ c.unread-in-Write.ensures refl c.write_call.ensures in
    record { outcome_after = made.0; read_value = made.1 }

pub returns-in-Erase : goal.returns-in-Erase
unfolding lent_buffer call_from allowance_of
returns-in-Erase c =
    let made = unread_made c.args.line.now c.requires.framed (sym c.in-Erase.is) c.args.z c.args.s (device c.args.flash.now c.args.spare.now c.args.disk.now) _ _ c.unread-in-Erase.ensures refl c.erase_step.ensures in
    record { outcome_after = made.0; read_value = made.1 }

pub returns-in-Drain : goal.returns-in-Drain
unfolding lent_buffer call_from allowance_of
returns-in-Drain c =
    let made = unread_made c.args.line.now c.requires.framed (sym c.in-Drain.is) c.args.z c.args.s (device c.args.flash.now c.args.spare.now c.args.disk.now) _ _ c.unread-in-Drain.ensures refl c.drain.ensures in
    record { outcome_after = made.0; read_value = made.1 }

pub returns-in-Recover : goal.returns-in-Recover
unfolding lent_buffer call_from allowance_of
returns-in-Recover c =
    let made = unread_made c.args.line.now c.requires.framed (sym c.in-Recover.is) c.args.z c.args.s (device c.args.flash.now c.args.spare.now c.args.disk.now) _ _ c.unread-in-Recover.ensures refl c.recover.ensures in
    record { outcome_after = made.0; read_value = made.1 }
