use Rattle.oldest.proofs.write_units.Goals as goal

pub returns : goal.returns
returns c =
    let lent = c.requires.lent in
    let written = c.write_out.ensures in
    record { after = written.by_index c.args.spare.now; lent_after = record { flash_length = lent.flash_length; spare_length = lent.spare_length; disk_length = written.disk_len } }
