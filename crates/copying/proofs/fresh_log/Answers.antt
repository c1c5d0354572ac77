use native.Mathlib.Omega.{arith}
use lib.ListN.{length}
use Rattle.model.proofs.Limits.{on_chip, pages_fit}
use Rattle.meter.proofs.Runs.{run_append}
use Rattle.meter.proofs.Stays.{stays_on}
use Rattle.copying.specs.Fresh.{fresh_stores}
use Rattle.copying.proofs.fresh_log.Goals as goal

pub program_log-requires : goal.program_log-requires
program_log-requires c =
    let takes = c.requires.takes in record {
      lent = c.erase_room.ensures.stays.lent;
      fits = rw c.log_in-target.ensures
          (record {
            limits = takes.limits;
            bucket = on_chip _ _ takes.bucket;
            some = takes.some;
            room = omega (arith, pages_fit c.args.z (length c.args.bytes.now) (omega (arith, takes.limits.s_low)) takes.most);
          });
    }

pub returns : goal.returns
unfolding fresh_stores
returns c = record {
  after = rw (c.program_log.ensures.after, c.log_in-target.ensures, c.erase_room.ensures.after, run_append);
  stays = stays_on _ _ _ _ c.erase_room.ensures.stays c.program_log.ensures.stays;
}
