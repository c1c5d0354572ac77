-- `drive::print` meets its contract.
use Rattle.model.specs.Driving.{printed}
use Rattle.model.specs.Calls.{answer_byte}
use Rattle.drive.proofs.Texts.{at_start_lem}
use Rattle.drive.proofs.print.Goals as goal

pub show-requires : goal.show-requires
show-requires c = let p = c.requires in record { stores_bound = p.0; bytes_in_bounds = p.2 c.in-Done.is }

pub returns-in-Done : goal.returns-in-Done
unfolding printed answer_byte
returns-in-Done c = let e = at_start_lem _ _ c.show.ensures in rw c.in-Done.is (record { out_after = e.0; upper_bound = e.1 })

pub returns-in-Idle : goal.returns-in-Idle
unfolding printed answer_byte
returns-in-Idle c = let e = at_start_lem _ _ c.show-in-Idle.ensures in rw c.in-Idle.is (record { out_after = e.0; upper_bound = e.1 })

pub returns-in-Cut : goal.returns-in-Cut
unfolding printed answer_byte
returns-in-Cut c = let e = at_start_lem _ _ c.show-in-Cut.ensures in rw c.in-Cut.is (record { out_after = e.0; upper_bound = e.1 })

pub returns-in-Refused : goal.returns-in-Refused
unfolding printed answer_byte
returns-in-Refused c = let e = at_start_lem _ _ c.show-in-Refused.ensures in rw c.in-Refused.is (record { out_after = e.0; upper_bound = e.1 })
