-- What a write may rely on once no test turns it down.
use Prim.Native.Nat.{ℕ, ◌≤◌}
use native.Mathlib.Omega.{arith}
use Rattle.model.specs.Sizes.{Device}
use Rattle.model.specs.State.{State}
use Rattle.model.specs.Operations.{last_epoch}
use Rattle.model.proofs.Calling.{Range}
use Rattle.steps.specs.Ready.{Ready}
use Rattle.checks.proofs.Opens.{Open, open_queued, open_orderly, open_formed}
use Rattle.checks.proofs.Backs.{write-back, write-used, write_count}
use Rattle.copying.proofs.Aside.{fits_single}
use Rattle.write.specs.Writes.{Writes}

-- read and write queue leave at least one bucket to the others
pub open_ready : {s : State} {d : Device} → Open s d → Ready s
open_ready o =
    let limits = o.image.limits in
    let queued = open_queued o in
    record {
      orderly = open_orderly o;
      some = omega (arith, limits.room, queued.total, queued.reads, queued.writes);
    }

pub open_writes : {s : State} {d : Device} {b off n : ℕ} → Open s d → Range s.sizes b off n → s.next ≤ last_epoch → Writes s n d.spare
open_writes {s} {d} o range epochs = record {
  yields = record {
    ready = open_ready o;
    single = fits_single s d o.fits;
    body_formed = open_formed o;
    backs = λ k. write-back o k;
    epochs = epochs;
  };
  programmed = λ k. write-used o k;
  counts = λ k. write_count o k;
  some = range.n_some;
  room = omega (arith, range.range_in);
}
