use Prim.Native.Nat.{◌*◌}
use mathlib.Core.Path.{◌≡◌}
use mathlib.Core.Bool.{true, false}
use Rattle.lists.specs.Lists.{part}
use Rattle.model.specs.Spare.{programmed}
use Rattle.rules.proofs.Epochs.{kind-programmed}
use Rattle.rules.proofs.page_epoch.Goals as goal

pub returns-then-kind : goal.returns-then-kind
returns-then-kind c = let tag = part c.args.spare.now (c.args.page * 16) 16 in
    λ h. let p : programmed tag ≡ false = kind-programmed tag h true (rw c.kind_at-kind.ensures at c.if-kind.true) in rw p

pub returns : goal.returns
returns c = let tag = part c.args.spare.now (c.args.page * 16) 16 in
    λ h. let p : programmed tag ≡ true = kind-programmed tag h false (rw c.kind_at-kind.ensures at c.if-kind.false) in rw (p, c.epoch_at.ensures)
