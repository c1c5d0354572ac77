-- What numbers 1 to 7 say to a read once they are passed.
use Prim.Native.Nat.{ℕ}
use lib.ListN.{get_or}
use Rattle.model.specs.Sizes.{Device}
use Rattle.model.specs.State.{State}
use Rattle.model.proofs.Calling.{Range}
use Rattle.queue.specs.View.{no_entry}
use Rattle.checks.proofs.Opens.{Open, open_queued, open_orderly, open_formed}
use Rattle.checks.proofs.Backs.{read_back}
use Rattle.copying.proofs.Aside.{fits_single}
use Rattle.read.specs.Reads.{Reads}
use Rattle.read.proofs.Stays.{holds_first}

pub reads : {s : State} {d : Device} {b off n : ℕ} → Open s d → Range s.sizes b off n → Reads s b off n d.spare
reads {s} {d} o r =
    let queued = open_queued o in
    record {
      drops = record {
        orderly = open_orderly o;
        total = queued.total;
        reads = queued.reads;
        writes = queued.writes;
        back = λ h. read_back o (get_or s.reads 0 no_entry).back (holds_first s.reads h);
      };
      single = fits_single s d o.fits;
      body_formed = open_formed o;
      back = r.b_in;
      range = r.range_in;
    }
