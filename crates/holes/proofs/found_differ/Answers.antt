use borrow.Author.Rules.{rules}
use borrow.Author.Tests.{tests}
use Prim.Native.Nat.{◌<◌}
use mathlib.Core.Bool.{true, false}
use mathlib.Core.Path.{◌≡◌}
use native.Mathlib.Omega.{arith}
use lib.ListN.{get_or}
use Rattle.lists.proofs.Rows.{all-below}
use Rattle.ledger.proofs.Names.{mark_at}
use Rattle.model.specs.Sizes.{body}
use Rattle.model.specs.Ledger.{named, found_fits, occupied, first_epoch}
use Rattle.model.proofs.Limits.{on_chip}
use Rattle.image.specs.Chip.{spare_only}
use Rattle.holes.proofs.found_differ.Goals as goal

pub epochs_differ-requires-clause-callable : goal.epochs_differ-requires-clause-callable
epochs_differ-requires-clause-callable c = λ k h.
    let a = c.args in
    let inside : k < body a.z = omega (arith, c.body.ensures) in
    let place : k < 256 = omega (arith, inside, c.requires.chip.limits.ledger_in, c.requires.chip.limits.c_high) in
    let on : k < a.z.c = on_chip a.z k inside in
    let marked : get_or a.marks.now k false ≡ named a.z (spare_only a.spare.now) k = mark_at a.z (spare_only a.spare.now) a.marks.now c.requires.marks k inside in
    let fits : found_fits a.z (spare_only a.spare.now) k ≡ true = all-below (body a.z) (found_fits a.z (spare_only a.spare.now)) c.requires.spare_value k inside in
    search (rules, place, on, marked, fits)

pub returns : goal.returns
returns c = let z = c.args.z in let d = spare_only c.args.spare.now in
    rw c.body.ensures at (c.epochs_differ.ensures (occupied z d) (first_epoch z d) (λ k r h e. search (rules, tests)))
