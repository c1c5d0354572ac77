use Rattle.model.proofs.Limits.{on_chip}
use mathlib.Core.Path.{◌≡◌, refl, sym, ◌∙◌}
use mathlib.Core.Bool.{true, false}
use Prim.Native.Nat.{◌≤◌, ◌<◌}
use native.Mathlib.Omega.{arith}
use lib.ListN.{length, get_or}
use lib.Dec.{ltb}
use borrow.Author.Tests.{lt-ltb, le-ltb}
use Rattle.model.specs.Image.{is_dirty}
use Rattle.image.specs.Chip.{spare_only}
use Rattle.image.proofs.SameSpare.{same_dirty}
use Rattle.meter.specs.Lent.{run_of}
use Rattle.meter.proofs.Stays.{stays_here}
use Rattle.queue.specs.View.{entries_of, no_entry}
use Rattle.state.proofs.Bounds.{oldest_bounded}
use Rattle.state.specs.View.{places_of}
use Rattle.oldest.proofs.Dropped.{some_read, not_none, oldest_below, drop-none, drop_dirty, drop_clean}
use Rattle.oldest.proofs.drop_oldest.Goals as goal

pub returns-then-n-z : goal.returns-then-n-z
returns-then-n-z c =
    let s = c.args.s in
    let room : length (entries_of s.reads) < s.sizes.r = omega (arith, c.if-n-z.true, c.used-n.ensures.0) in
    record {
      after = drop-none s.sizes (places_of s) (run_of c.args.run.now) (lt-ltb (length (entries_of s.reads)) s.sizes.r room);
      stays = stays_here _ _ c.requires.lent;
    }

pub drop_oldest-state-requires : goal.drop_oldest-state-requires
drop_oldest-state-requires c =
    let v = places_of c.args.s in
    let full : v.sizes.r ≤ length v.reads = omega (arith, c.if-n-z.false, c.used-n.ensures.0) in
    oldest_bounded v c.requires.drops.orderly.bounded (not_none v c.requires.drops full)

pub is_dirty-requires : goal.is_dirty-requires
is_dirty-requires c =
    let v = places_of c.args.s in
    let full : v.sizes.r ≤ length v.reads = omega (arith, c.if-n-z.false, c.used-n.ensures.0) in record {
      chip = rw c.spare.ensures (record { limits = c.requires.drops.orderly.limits; spare_length = c.requires.lent.spare_length });
      c_lt_c = rw c.first-oldest.ensures (on_chip v.sizes _ (oldest_below v c.requires.drops full));
    }

pub write_units-run-requires : goal.write_units-run-requires
write_units-run-requires c =
    let first = c.first-oldest in
    let v = places_of c.args.s in
    let full : v.sizes.r ≤ length v.reads = omega (arith, c.if-n-z.false, c.used-n.ensures.0) in record {
      lent = c.requires.lent;
      places = record {
        limits = c.requires.drops.orderly.limits;
        back = rw first.ensures (c.requires.drops.back (some_read v c.requires.drops full));
        cache = rw first.ensures (on_chip v.sizes _ (oldest_below v c.requires.drops full));
      };
    }

pub returns-then-is_dirty : goal.returns-then-is_dirty
returns-then-is_dirty c =
    let first = c.first-oldest in
    let before = run_of c.args.run.now in
    let v = places_of c.args.s in
    let full : ltb (length v.reads) v.sizes.r ≡ false = le-ltb (length v.reads) v.sizes.r (omega (arith, c.if-n-z.false, c.used-n.ensures.0)) in
    let dirty : is_dirty v.sizes before.device (get_or v.reads 0 no_entry).cache ≡ true = rw (← first.ensures) (sym (same_dirty v.sizes before.device first.result.cache) ∙ sym (rw c.spare.ensures at c.is_dirty.ensures) ∙ c.if-is_dirty.true) in
    let written = c.write_units-run.ensures in
    record {
      after = rw (written.after, c.drop_oldest-state.ensures, first.ensures) (drop_dirty v.sizes v before full dirty);
      stays = record { lent = written.lent_after; flash = refl; spare = refl; disk = refl };
    }

pub returns-else-is_dirty : goal.returns-else-is_dirty
returns-else-is_dirty c =
    let first = c.first-oldest in
    let before = run_of c.args.run.now in
    let v = places_of c.args.s in
    let full : ltb (length v.reads) v.sizes.r ≡ false = le-ltb (length v.reads) v.sizes.r (omega (arith, c.if-n-z.false, c.used-n.ensures.0)) in
    let clean : is_dirty v.sizes before.device (get_or v.reads 0 no_entry).cache ≡ false = rw (← first.ensures) (sym (same_dirty v.sizes before.device first.result.cache) ∙ sym (rw c.spare.ensures at c.is_dirty.ensures) ∙ c.if-is_dirty.false) in
    record { after = rw c.drop_oldest-state.ensures (drop_clean v.sizes v before full clean); stays = stays_here _ _ c.requires.lent }
