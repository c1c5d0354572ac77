use Prim.Native.Nat.{◌+◌, ◌*◌}
use mathlib.Core.Path.{◌≡◌, refl, sym, ◌∙◌}
use native.Mathlib.Numerals.{add-one}
use native.Mathlib.Omega.{arith}
use Rattle.lists.proofs.Splices.{splice-none}
use Rattle.model.specs.Sizes.{page_index}
use Rattle.geometry.proofs.Places.{page_spare}
use Rattle.log_pages.specs.Logs.{tags}
use Rattle.log_pages.proofs.Tagged.{tags_more}
use Rattle.log_pages.proofs.write_tags.Goals as goal

pub loop-o-init : goal.loop-o-init
unfolding tags
loop-o-init c = record { size = refl; written = sym (splice-none c.args.spare.now (page_index c.args.z c.args.log.bucket c.args.log.first * 16)) }

pub write_tag-requires : goal.write_tag-requires
write_tag-requires c = (c.requires.0, omega (arith, c.requires.1), c.loop-o.invariant.size ∙ c.requires.2)

pub loop-o-preserved : goal.loop-o-preserved
unfolding page_index
loop-o-preserved c =
    let a = c.args in
    let l = c.loop-o in
    let inside = page_spare a.z a.log.bucket (a.log.first + l.o) c.requires.0.bucket (omega (arith, c.requires.0.room, c.requires.1)) in
    record {
      size = omega (arith, l.invariant.size);
      written = rw (add-one l.o, c.write_tag.ensures, l.invariant.written) (tags_more a.z a.log a.n a.spare.now l.o (omega (arith, inside, c.requires.2)));
    }

pub shape_of-spare : goal.shape_of-spare
shape_of-spare c = omega (arith, c.loop-o.invariant.size)

pub returns : goal.returns
returns c =
    let all : c.loop-o.o ≡ c.args.count = omega arith in
    rw all at c.loop-o.invariant.written
