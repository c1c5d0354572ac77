use borrow.Author.Rules.{rules}
use native.Mathlib.Nat.{mul-le-mul}
use native.Mathlib.Omega.{arith}
use Prim.Native.Nat.{ℕ}
use mathlib.Core.Path.{◌≡◌, sym, ap, ◌∙◌}
use mathlib.Core.Bool.{true}
use mathlib.Core.List.{List}
use lib.ListN.{length}
use Rattle.lists.specs.Lists.{head}
use Rattle.model.specs.declared.Sizes.{Sizes}
use Rattle.model.specs.Sizes.{Device, bucket_size}
use Rattle.model.specs.Stores.{apply_all, bucket_bytes}
use Rattle.model.specs.State.{State, moved, entry, holds, without}
use Rattle.model.specs.Steps.{◌then◌, move, nothing, make_room, taken, take_copy, fill_copy, copy, merged}
use Rattle.model.specs.Operations.{set_mark, make_place, read_copy}
use Rattle.model.proofs.Queues.{absent_without}
use Rattle.model.proofs.QueuesGrown.{maps_newest}
use Rattle.queue.specs.View.{entries_of}
use Rattle.queue.proofs.Found.{is_some-found, found_some}
use Rattle.steps.specs.Turns.{Progress, after}
use Rattle.model.specs.Calls.{read_call, sizes_of}
use Rattle.geometry.specs.Geometry.{device}
use Rattle.state.specs.View.{places_of}
use Rattle.gather.proofs.Gathered.{merged_size}
use Rattle.outcome.proofs.Ends.{step_left}
use Rattle.read.proofs.Copies.{sources}
use Rattle.read.proofs.Plans.{handed-read, shown, shown_inside}
use Rattle.read.proofs.copy_read.Goals as goal

-- the copy stands last in the read queue
copy-held : (z : Sizes) (b : ℕ) (bytes : List ℕ) (s : State) (d : Device) → holds b (read_copy z b bytes s d).state.reads ≡ true
unfolding read_copy ◌then◌ copy fill_copy take_copy taken moved move nothing set_mark entry
copy-held z b bytes s d =
    let placed = make_place z b s d in
    let t = (make_room z placed.state (apply_all s.sizes d placed.stores)).state in
    (maps_newest (entry b (head t.free) 0) (without b t.reads) (absent_without t.reads b)).held

pub make_copy-state-requires : goal.make_copy-state-requires
make_copy-state-requires c = let p = c.requires in
    record { sources = sources p.reads p.lent; drops = (p.reads.drops, p.reads.single, p.next_le_last_epoch) }

pub unwrap-copy-requires : goal.unwrap-copy-requires
unfolding after
unwrap-copy-requires c =
    let a = c.args in
    let d = device a.flash.now a.spare.now a.disk.now in
    let reads = entries_of c.make_copy-state.result.reads in
    let held : holds a.b reads ≡ true =
    ap (λ (q : Progress). holds a.b q.state.reads) c.make_copy-state.ensures.after
    ∙ copy-held a.s.sizes a.b (merged a.s.sizes (places_of a.s) d a.b) (places_of a.s) d in
    rw c.find.ensures (is_some-found a.b reads ∙ held)

pub show-requires : goal.show-requires
unfolding bucket_size
show-requires c =
    let start = c in
    let reads = start.requires.reads in
    let limits = reads.drops.orderly.limits in
    let own = found_some c.args.b (entries_of c.make_copy-state.result.reads) c.unwrap-copy.result (sym c.find.ensures ∙ c.unwrap-copy.ensures) in
    record {
      limits = (limits, reads.range);
      z_in_bounds = λ uncut. rw (c.flash.ensures, ← own.cache)
          (shown_inside start.args.s.sizes (device _ _ _) _ (c.make_copy-state.ensures.state_after uncut) (merged_size (sources reads start.requires.lent)) (omega (arith, mul-le-mul limits.p_low limits.s_low)));
    }

pub finish-requires : goal.finish-requires
unfolding sizes_of
finish-requires c = let a = c.args in
    let d = device a.flash.now a.spare.now a.disk.now in
    step_left a.allowance (read_call a.b a.offset a.buffer.now) a.s (places_of a.s) d _ (rw c.whole.ensures at c.make_copy-state.ensures.after)

pub returns : goal.returns
unfolding bucket_bytes
returns c = let a = c.args in
    let z = a.s.sizes in
    let v = places_of a.s in
    let d = device a.flash.now a.spare.now a.disk.now in
    let made = c.make_copy-state.ensures in
    let own = found_some a.b (entries_of c.make_copy-state.result.reads) c.unwrap-copy.result (sym c.find.ensures ∙ c.unwrap-copy.ensures) in
    let stays = made.stays in
    let flash = sym stays.flash in
    let spare = sym stays.spare in
    let disk = sym stays.disk in
    let ends = handed-read a.allowance a.s d (read_copy z a.b (merged z v d a.b)) (rw c.whole.ensures at made.after) a.b a.offset a.buffer.now
    (shown c.make_copy-state.new.run.meter.cut made.state_after a.buffer.now a.offset (length a.buffer.now) (rw (c.flash.ensures, ← own.cache) at c.show.ensures)) in
    search (rules, flash, spare, disk, ends, c.finish.ensures)
