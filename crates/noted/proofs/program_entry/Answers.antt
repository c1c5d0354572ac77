use Rattle.noted.proofs.Entries.{one_page, entry_log}
use native.Mathlib.Omega.{arith}
use Rattle.noted.proofs.program_entry.Goals as goal

pub program_log-requires : goal.program_log-requires
program_log-requires c = let p = c.requires in
    record { lent = p.lent; fits = record { limits = p.limits.0; bucket = p.limits.1; some = omega arith; room = rw (one_page _ p.limits.0) (omega (arith, p.limits.2)) } }

pub returns : goal.returns
returns c = let p = c.requires in
    record { after = rw (c.program_log.ensures.after, entry_log _ p.limits.0); stays = c.program_log.ensures.stays }
