-- `reading::fifo_of` meets its contract.
use Prim.Native.Nat.{ℕ}
use lib.ListN.{length}
use Rattle.std.proofs.lemmas.List.{drop-replicate}
use Rattle.lists.specs.Arrays.{padded}
use Rattle.form.proofs.reading.fifo_of.Goals as goal

pub returns : goal.returns
unfolding padded
returns c = rw (c.copy_from_slice.ensures.after, drop-replicate {X = ℕ} (length c.args.buckets.now) 256 0)
