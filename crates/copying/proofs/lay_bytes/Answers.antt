use Prim.Native.Nat.{ℕ, ◌+◌, ◌*◌, ◌≤◌, ◌<◌}
use mathlib.Core.List.{List}
use mathlib.Core.Path.{◌≡◌, ◌∙◌}
use mathlib.Core.Bool.{false}
use mathlib.Core.Logic.{inl}
use native.Mathlib.Nat.{mul-le-mul}
use native.Mathlib.Omega.{arith}
use lib.ListN.{length}
use borrow.Author.Tests.{ne_eqb}
use Rattle.lists.specs.Lists.{empty, part}
use Rattle.lists.proofs.Lent.{lent_part, lent_length}
use Rattle.lists.proofs.Parts.{length-part-fits}
use Rattle.lists.proofs.Arrays.{empty-length}
use Rattle.model.specs.declared.Sizes.{Sizes}
use Rattle.model.specs.Sizes.{bucket_size, disk_size}
use Rattle.model.specs.Stores.{bucket_bytes, disk_bytes}
use Rattle.geometry.specs.Geometry.{device}
use Rattle.geometry.proofs.Places.{nth_inside}
use Rattle.overlay.proofs.SameChip.{same-merge-all}
use Rattle.copying.specs.Laid.{under_bytes}
use Rattle.copying.proofs.Sourced.{readable}
use Rattle.copying.proofs.lay_bytes.Goals as goal

-- the bytes of b lie on the disk
inside : (z : Sizes) (b : ℕ) (disk : List ℕ) → b < z.b → length disk ≡ disk_size z
    → b * (z.p * z.s) + z.p * z.s ≤ length disk
unfolding bucket_size disk_size
inside z b disk back disk_length = omega (arith, nth_inside b z.b (z.p * z.s) back, disk_length)

pub returns-in-Some : goal.returns-in-Some
unfolding under_bytes bucket_bytes empty
returns-in-Some c =
    let a = c.args in
    let d = device a.flash.now a.spare.now a.disk.now in
    rw (c.in-Some.is, ← same-merge-all a.z d a.list.now (bucket_bytes a.z d c.in-Some.copy.cache)) c.lay_within.ensures

pub slice_bounds-lay_within-end-2 : goal.slice_bounds-lay_within-end-2
slice_bounds-lay_within-end-2 c = omega (arith, inside c.args.z c.args.b c.args.disk.now c.requires.laid.back c.requires.laid.lent.disk_length)

pub lay_within-requires-2 : goal.lay_within-requires-2
unfolding bucket_size
lay_within-requires-2 c =
    let laid = c.requires.laid in
    let a = c.args in
    let size = a.z.p * a.z.s in
    record {
      readable = readable laid;
      list_value = laid.logs;
      target_lt_c = (laid.bucket, omega (arith, laid.limits.c_low), c.requires.n_bound);
      aside = record {
        unlisted = laid.logs_aside;
        lent = inl (lent_length a.disk.now (a.b * size) size (inside a.z a.b a.disk.now laid.back laid.lent.disk_length));
      };
    }

pub returns : goal.returns
unfolding under_bytes disk_bytes bucket_size
returns c =
    let laid = c.requires.laid in
    let a = c.args in
    let size = a.z.p * a.z.s in
    let below = part a.disk.now (a.b * size) size in
    let long = length-part-fits a.disk.now (a.b * size) size (inside a.z a.b a.disk.now laid.back laid.lent.disk_length) in
    let one_byte = mul-le-mul laid.limits.p_low laid.limits.s_low in
    let some : empty below ≡ false = empty-length below ∙ ne_eqb (length below) 0 (λ e. omega (arith, long, one_byte)) in
    let d = device a.flash.now a.spare.now a.disk.now in
    rw (c.in_default.is, ← same-merge-all a.z d a.list.now (disk_bytes a.z d a.b))
    (rw (lent_part a.disk.now (a.b * size) size, some) at c.lay_within-2.ensures)
