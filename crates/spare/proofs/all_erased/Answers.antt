use mathlib.Core.Path.{sym, ap, ◌∙◌}
use mathlib.Core.List.{List}
use Prim.Native.Nat.{ℕ}
use native.Mathlib.Omega.{arith}
use lib.ListN.{length, length-replicate}
use lib.Seq.{length-take-le}
use Rattle.lists.specs.Lists.{part, same, ff}
use Rattle.lists.proofs.Parts.{part-ff}
use Rattle.spare.proofs.all_erased.Goals as goal

pub returns-then-size-ge128 : goal.returns-then-size-ge128
returns-then-size-ge128 c = c.eights_erased.ensures

pub slice_bounds-equal-end : goal.slice_bounds-equal-end
slice_bounds-equal-end c = let bytes = c.args.bytes.now in
    sym (length-take-le (length bytes) (ff 128) (omega (arith, length-replicate {A = ℕ} 128 255)))

pub returns : goal.returns
unfolding part
returns c = let bytes = c.args.bytes.now in
    c.equal.ensures ∙ ap (λ (l : List ℕ). same bytes l) (part-ff 128 0 (length bytes) (omega arith))
