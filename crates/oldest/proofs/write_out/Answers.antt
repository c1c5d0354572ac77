use Prim.Native.Nat.{ℕ, ◌+◌, ◌*◌, ◌≤◌, ◌<◌}
use mathlib.Core.List.{List}
use mathlib.Core.Path.{◌≡◌, ◌∙◌}
use native.Mathlib.Omega.{arith}
use lib.ListN.{length}
use Rattle.lists.specs.Lists.{part}
use Rattle.lists.proofs.Parts.{length-part-fits}
use Rattle.model.specs.declared.Sizes.{Sizes}
use Rattle.model.specs.Sizes.{bucket_size, flash_size}
use Rattle.model.specs.Stores.{bucket_bytes}
use Rattle.geometry.proofs.Places.{bucket_data}
use Rattle.geometry.proofs.Passed.{products}
use Rattle.units.proofs.Spliced.{bytes_inside, lent_order, lent_end, lent_most, laid_length, units_laid}
use Rattle.oldest.proofs.write_out.Goals as goal

-- the bytes of c lie on the chip
stored : (z : Sizes) (c : ℕ) (flash : List ℕ) → c < z.c → length flash ≡ flash_size z
    → c * (z.p * z.s) + z.p * z.s ≤ length flash
stored z c flash cache flash_length = omega (arith, bucket_data z c cache, flash_length)

pub place-place-requires : goal.place-place-requires
place-place-requires c = (c.requires.places.limits, c.requires.places.back)

pub overflow_mul-z : goal.overflow_mul-z
overflow_mul-z c = omega (arith, (products c.requires.places.limits).bucket)

pub slice_bounds-piece_range-count : goal.slice_bounds-piece_range-count
slice_bounds-piece_range-count c = let x = c.args in
    omega (arith, lent_order x.z x.b x.disk.now x.meter (bytes_inside _ _ _ c.requires.places.back c.requires.flash_len.1) c.place-place.ensures)

pub slice_bounds-piece_range-start : goal.slice_bounds-piece_range-start
slice_bounds-piece_range-start c = let x = c.args in
    omega (arith, lent_order x.z x.b x.disk.now x.meter (bytes_inside _ _ _ c.requires.places.back c.requires.flash_len.1) c.place-place.ensures)

pub slice_bounds-piece_range-end : goal.slice_bounds-piece_range-end
slice_bounds-piece_range-end c = let x = c.args in
    omega (arith, lent_end x.z x.b x.disk.now x.meter (bytes_inside _ _ _ c.requires.places.back c.requires.flash_len.1) c.place-place.ensures)

pub piece_range-requires : goal.piece_range-requires
unfolding bucket_size
piece_range-requires c = let x = c.args in
    let inside = bytes_inside x.z x.b x.disk.now c.requires.places.back c.requires.flash_len.1 in
    record {
      size_in_bounds = stored x.z x.c x.flash.now c.requires.places.cache c.requires.flash_len.0;
      window_bound = omega (arith, lent_most x.z x.b x.disk.now x.meter inside c.place-place.ensures);
    }

pub returns : goal.returns
unfolding bucket_size bucket_bytes
returns c = let x = c.args in
    let whole = x.z.p * x.z.s in
    let bytes = part x.flash.now (x.c * whole) whole in
    let size : length bytes ≡ whole =
    length-part-fits x.flash.now (x.c * whole) whole (stored x.z x.c x.flash.now c.requires.places.cache c.requires.flash_len.0) in
    let inside = bytes_inside x.z x.b x.disk.now c.requires.places.back c.requires.flash_len.1 in
    let place = c.place-place.ensures in
    let laid = c.piece_range.ensures in
    record {
      by_index = units_laid x.z x.b x.disk.now x.meter inside place bytes size laid c.spent.ensures x.flash.now;
      disk_len = laid_length x.z x.b x.disk.now x.meter inside place bytes size laid ∙ c.requires.flash_len.1;
    }
