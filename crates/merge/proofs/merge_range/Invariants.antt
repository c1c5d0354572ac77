use Rattle.lists.specs.Lists.{part}
use Rattle.model.specs.Sizes.{bucket_size}
use Rattle.model.specs.Image.{merge_to}
use Rattle.overlay.specs.Window.{chip}
use lib.ListN.{length}
use Prim.Native.Nat.{ℕ}
use mathlib.Core.Path.{◌≡◌}
use mathlib.Core.List.{List}
use Rattle.merge.proofs.merge_range.Given as goal

abbrev pub invariant-loop-k : goal.invariant-loop-k
invariant-loop-k l = ((base : List ℕ) → length base ≡ bucket_size l.z → l.initial.window ≡ part base l.from (length l.initial.window) → l.window ≡ part (merge_to l.z (chip l.flash l.spare) l.c base l.k) l.from (length l.initial.window))
