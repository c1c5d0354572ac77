-- `writing::put_fifo` meets its contract.
use mathlib.Core.Path.{◌≡◌}
use lib.ListN.{take}
use Rattle.lists.proofs.Arrays.{take-used}
use Rattle.fifo.specs.View.{list_of}
use Rattle.form.proofs.writing.put_fifo.Goals as goal

pub put_buckets-requires : goal.put_buckets-requires
put_buckets-requires c = let q = c.args.queue in let used = c.used-n in
    let same : take used.result q.items ≡ list_of q = take-used used.result q.len q.items used.ensures.0 in
    rw same c.requires

pub returns : goal.returns
returns c = let q = c.args.queue in let used = c.used-n in
    let same : take used.result q.items ≡ list_of q = take-used used.result q.len q.items used.ensures.0 in
    rw same at c.put_buckets.ensures
