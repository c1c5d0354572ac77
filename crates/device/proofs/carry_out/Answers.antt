use Rattle.model.specs.Stores.{apply}
use borrow.Author.Rules.{rules}
use Rattle.device.proofs.carry_out.Goals as goal

pub program-requires : goal.program-requires
program-requires c = let start = c in
    record { flash_len = (start.requires.lent.flash_length, start.requires.lent.spare_length); bucket_lt_c = rw c.in-Program.is at start.requires.placed }

pub erase-requires : goal.erase-requires
erase-requires c = let start = c in
    (start.requires.lent.flash_length, start.requires.lent.spare_length, rw c.in-Erase.is at start.requires.placed)

pub write_unit-requires : goal.write_unit-requires
write_unit-requires c = let start = c in
    let placed = rw c.in-Unit.is at start.requires.placed in
    (start.requires.lent.disk_length, placed.0, placed.1)

pub returns-in-Program : goal.returns-in-Program
unfolding apply
returns-in-Program c =
    record { disk_after = rw (c.in-Program.is, c.program.ensures.flash_after, c.program.ensures.spare_after); lent_2 = search rules }

pub returns-in-Erase : goal.returns-in-Erase
unfolding apply
returns-in-Erase c =
    record { disk_after = rw (c.in-Erase.is, c.erase.ensures.flash_after, c.erase.ensures.spare_after); lent_2 = search rules }

pub returns-in-Unit : goal.returns-in-Unit
unfolding apply
returns-in-Unit c = record { disk_after = rw (c.in-Unit.is, c.write_unit.ensures); lent_2 = search rules }
