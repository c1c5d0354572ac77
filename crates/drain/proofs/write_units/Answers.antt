use Rattle.drain.proofs.write_units.Goals as goal

pub returns : goal.returns
returns c =
    let lent = c.requires.lent in
    let written = c.write_listed.ensures in
    record { after = written.result_after; lent_after = record { flash_length = lent.flash_length; spare_length = lent.spare_length; disk_length = written.disk_len } }
