use Rattle.lists.proofs.Lent.{put_back, lent_length}
use mathlib.Core.Path.{◌≡◌, ap}
use Rattle.geometry.proofs.Places.{page_data_lem, page_spare}
use Rattle.model.specs.declared.Sizes.{Sizes}
use Rattle.model.specs.Sizes.{page_index, flash_size, spare_size}
use native.Mathlib.Omega.{arith}
use Prim.Native.Nat.{ℕ, ◌+◌, ◌*◌, ◌≤◌, ◌<◌}
use lib.ListN.{length}
use Rattle.device.proofs.program.Goals as goal

-- the page's data and spare bytes lie within the areas
inside : (z : Sizes) (bucket page : ℕ) → bucket < z.c → page < z.p
    → ((bucket * z.p + page) * z.s + z.s ≤ flash_size z) × ((bucket * z.p + page) * 16 + 16 ≤ spare_size z)
inside z bucket page h g = (page_data_lem z bucket page h g, page_spare z bucket page h g)

pub overflow_mul-index : goal.overflow_mul-index
overflow_mul-index c = omega (arith, inside c.args.z c.args.bucket c.args.page c.requires.bucket_lt_c.0 c.requires.bucket_lt_c.1)

pub overflow_add-index : goal.overflow_add-index
overflow_add-index c = omega (arith, inside c.args.z c.args.bucket c.args.page c.requires.bucket_lt_c.0 c.requires.bucket_lt_c.1)

pub overflow_mul-at : goal.overflow_mul-at
overflow_mul-at c = omega (arith, inside c.args.z c.args.bucket c.args.page c.requires.bucket_lt_c.0 c.requires.bucket_lt_c.1)

pub overflow_add-end : goal.overflow_add-end
overflow_add-end c = omega (arith, inside c.args.z c.args.bucket c.args.page c.requires.bucket_lt_c.0 c.requires.bucket_lt_c.1)

pub overflow_mul-spare_at : goal.overflow_mul-spare_at
overflow_mul-spare_at c = omega (arith, inside c.args.z c.args.bucket c.args.page c.requires.bucket_lt_c.0 c.requires.bucket_lt_c.1)

pub overflow_add-spare_end : goal.overflow_add-spare_end
overflow_add-spare_end c = omega (arith, inside c.args.z c.args.bucket c.args.page c.requires.bucket_lt_c.0 c.requires.bucket_lt_c.1)

pub slice_bounds-write_page-end : goal.slice_bounds-write_page-end
slice_bounds-write_page-end c = omega (arith, inside c.args.z c.args.bucket c.args.page c.requires.bucket_lt_c.0 c.requires.bucket_lt_c.1)

pub slice_bounds-write_page-end-2 : goal.slice_bounds-write_page-end-2
slice_bounds-write_page-end-2 c = omega (arith, inside c.args.z c.args.bucket c.args.page c.requires.bucket_lt_c.0 c.requires.bucket_lt_c.1)

pub returns : goal.returns
unfolding page_index
returns c = let a = c.args in
    let asked = c.requires.bucket_lt_c in
    let index = a.bucket * a.z.p + a.page in
    let written = c.write_page.ensures in
    let tag-length : length a.tag.now ≡ 16 =
    omega (arith, ap length written.spare_after, lent_length a.spare.now (index * 16) 16 (omega (arith, inside a.z a.bucket a.page asked.0 asked.1))) in
    record {
      flash_after = put_back a.flash.now (index * a.z.s) a.z.s written.page_after asked.2;
      spare_after = put_back a.spare.now (index * 16) 16 written.spare_after tag-length;
    }
