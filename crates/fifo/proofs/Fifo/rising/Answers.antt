use Rattle.lists.proofs.Arrays.{written}
use Rattle.lists.proofs.Rows.{below_more}
use Rattle.lists.specs.Lists.{below, row}
use borrow.Author.Rules.{rules}
use lib.ListN.{length-set}
use native.Mathlib.Omega.{arith}
use mathlib.Core.List.{[], ◌∷◌, ◌++◌}
use mathlib.Core.Path.{◌≡◌, refl, sym, ap, ◌∙◌}
use Rattle.fifo.proofs.Fifo.rising.Goals as goal

pub loop-bucket-init : goal.loop-bucket-init
unfolding below row
loop-bucket-init c = (omega arith, search rules, refl)

pub loop-bucket-preserved : goal.loop-bucket-preserved
loop-bucket-preserved c = let l = c.loop-bucket in
    (omega arith, length-set l.items l.bucket l.bucket ∙ l.invariant.1, written l.bucket l.items l.bucket (omega arith) ∙ (ap (λ t. t ++ (l.bucket ∷ [])) l.invariant.2 ∙ sym (below_more l.bucket)))

pub returns : goal.returns
returns c = let l = c.loop-bucket in
    let all : l.bucket ≡ c.args.count = omega arith in
    rw all at l.invariant.2
