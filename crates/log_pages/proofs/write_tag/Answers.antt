use Prim.Native.Nat.{ℕ, ◌+◌, ◌*◌, ◌≤◌, ◌<◌}
use mathlib.Core.List.{List}
use mathlib.Core.Path.{◌≡◌}
use native.Mathlib.Omega.{arith}
use lib.ListN.{length}
use Rattle.model.specs.declared.Sizes.{Sizes}
use Rattle.model.specs.Sizes.{page_index, pages_for, spare_size}
use Rattle.log_pages.specs.declared.Log.{Log}
use Rattle.log_pages.specs.Logs.{Fits}
use Rattle.geometry.proofs.Places.{page_spare}
use Rattle.log_pages.proofs.Tagged.{tag-length}
use Rattle.log_pages.proofs.write_tag.Goals as goal

-- the page's spare bytes lie within the area
inside : {z : Sizes} {log : Log} {n o : ℕ} (spare : List ℕ) → Fits z log n × (o < pages_for z n) × (length spare ≡ spare_size z)
    → (log.bucket * z.p + (log.first + o)) * 16 + 16 ≤ length spare
inside {z} {log} {n} {o} spare h =
    omega (arith, page_spare z log.bucket (log.first + o) h.0.bucket (omega (arith, h.0.room, h.1)), h.2)

pub overflow_mul-at : goal.overflow_mul-at
overflow_mul-at c = omega (arith, inside c.args.spare.now c.requires)

pub overflow_add-at-2 : goal.overflow_add-at-2
overflow_add-at-2 c = omega (arith, inside c.args.spare.now c.requires)

pub overflow_mul-at-2 : goal.overflow_mul-at-2
overflow_mul-at-2 c = omega (arith, inside c.args.spare.now c.requires)

pub write_at-requires : goal.write_at-requires
write_at-requires c = let a = c.args in
    rw (c.page_tag-tag.ensures, tag-length a.z a.log a.n a.o) (inside a.spare.now c.requires)

pub returns : goal.returns
unfolding page_index
returns c = rw (c.write_at.ensures, c.page_tag-tag.ensures)
