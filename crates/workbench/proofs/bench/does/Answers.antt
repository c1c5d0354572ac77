-- `workbench::bench::does` meets its contract.

use Rattle.workbench.proofs.bench.does.Goals as goal

pub told-requires : goal.told-requires
told-requires c = (c.with_state.ensures, c.requires.arrays.1)

pub put_page-requires : goal.put_page-requires
put_page-requires c = let p = c.requires in record { held = (p.held.0, p.held.1.page c.in-18.is); flash_len = (p.arrays.0.flash_length, p.arrays.0.spare_length) }

pub put_unit-requires : goal.put_unit-requires
put_unit-requires c = let p = c.requires in (p.held.0, p.held.1.unit c.in-20.is, p.arrays.0.disk_length)

pub send_line-requires : goal.send_line-requires
send_line-requires c = let p = c.requires in
    record { held = (p.held.0, p.held.1.text c.in-48.is); flash_len = (p.arrays.0.flash_length, p.arrays.0.spare_length, p.arrays.1) }

pub receive_line-requires : goal.receive_line-requires
receive_line-requires c = let p = c.requires in
    (p.held.0, p.arrays.0.flash_length, p.arrays.0.spare_length, p.arrays.1)
