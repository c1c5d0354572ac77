use Prim.Native.Nat.{◌*◌}
use mathlib.Core.Path.{◌≡◌}
use lib.ListN.{length}
use Rattle.lists.specs.Lists.{splice}
use Rattle.model.specs.Sizes.{page_index}
use Rattle.log_pages.specs.Logs.{tags}
use Rattle.log_pages.proofs.write_tags.Given as goal

abbrev pub invariant-loop-o : goal.invariant-loop-o
invariant-loop-o l = record {
  size : length l.spare ≡ length l.initial.spare;
  written : l.spare ≡ splice l.initial.spare (page_index l.z l.log.bucket l.log.first * 16) (tags l.z l.log l.n l.o);
}
