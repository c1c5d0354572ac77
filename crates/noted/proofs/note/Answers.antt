use Rattle.noted.proofs.Entries.{in_use_inside, other_inside, noted_there, handed_over}
use Rattle.model.proofs.Buckets.{blanks_most}
use Rattle.meter.specs.Run.{run_all}
use Rattle.meter.specs.Lent.{run_of}
use Rattle.meter.proofs.Stays.{stays_on}
use Rattle.image.specs.Chip.{spare_only}
use native.Mathlib.Omega.{arith}
use Rattle.noted.proofs.note.Goals as goal

pub in_use-used-requires : goal.in_use-used-requires
in_use-used-requires c = rw c.spare-spare.ensures (record { limits = c.requires.limits.0; spare_length = c.requires.lent.spare_length })

pub blanks-room-requires : goal.blanks-room-requires
blanks-room-requires c = let p = c.requires in
    record { chip = rw c.spare-spare.ensures (record { limits = p.limits.0; spare_length = p.lent.spare_length }); c_lt_c = rw c.in_use-used.ensures (in_use_inside _ p.limits.0 _).1 }

pub epoch_of-epoch-requires : goal.epoch_of-epoch-requires
epoch_of-epoch-requires c = let p = c.requires in
    record { chip = rw c.spare-spare.ensures (record { limits = p.limits.0; spare_length = p.lent.spare_length }); c_lt_c = p.limits.1 }

pub overflow_sub-first : goal.overflow_sub-first
overflow_sub-first c = omega (arith, c.blanks-room.ensures, blanks_most c.args.z (spare_only c.spare-spare.result.now) c.in_use-used.result)

pub program_entry-requires : goal.program_entry-requires
program_entry-requires c =
    let p = c.requires in
    record { lent = p.lent; limits = (p.limits.0, rw c.in_use-used.ensures (in_use_inside _ p.limits.0 _).1, omega (arith, c.if-room-ne0.true, p.limits.0.p_low), p.limits.1) }

pub returns-then-room-ne0 : goal.returns-then-room-ne0
returns-then-room-ne0 c = let a = c.args in
    let here = c.spare-spare.ensures in
    let entry = c.program_entry.ensures in
    record {
      after = rw (entry.after, ← noted_there a.z (run_of a.run.now).device a.bucket _ _ _ (rw here at c.in_use-used.ensures) (rw here at c.blanks-room.ensures) (rw here at c.epoch_of-epoch.ensures) c.if-room-ne0.true);
      stays = entry.stays;
    }

pub program_entry-requires-2 : goal.program_entry-requires-2
program_entry-requires-2 c = let p = c.requires in
    record { lent = p.lent; limits = (p.limits.0, rw c.other_of-other.ensures (other_inside _ p.limits.0 _).1, omega (arith, p.limits.0.p_low), p.limits.1) }

pub erase-requires : goal.erase-requires
erase-requires c = let p = c.requires in
    record { lent = c.program_entry-2.ensures.stays.lent; bucket_lt_c = rw c.in_use-used.ensures (in_use_inside _ p.limits.0 _).1 }

pub returns : goal.returns
unfolding run_all
returns c = let a = c.args in
    let here = c.spare-spare.ensures in
    let entry = c.program_entry-2.ensures in
    let erased = c.erase.ensures in
    record {
      after = rw (erased.after, entry.after, c.other_of-other.ensures, ← handed_over a.z (run_of a.run.now).device a.bucket _ _ _ (rw here at c.in_use-used.ensures) (rw here at c.blanks-room.ensures) (rw here at c.epoch_of-epoch.ensures) c.if-room-ne0.false);
      stays = stays_on _ _ _ _ entry.stays erased.stays;
    }
