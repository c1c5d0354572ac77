use borrow.Author.Rules.{rules}
use borrow.Author.Tests.{tests}
use Prim.Native.Nat.{◌<◌}
use mathlib.Core.Bool.{false}
use mathlib.Core.Path.{◌≡◌}
use native.Mathlib.Omega.{arith}
use lib.ListN.{get_or}
use Rattle.std.proofs.lemmas.Iterator.{serves_from_Range}
use Rattle.ledger.proofs.Names.{mark_at}
use Rattle.ledger.proofs.Ranges.{all_told}
use Rattle.model.specs.Sizes.{body}
use Rattle.model.specs.Ledger.{named, found_fits}
use Rattle.model.proofs.Limits.{on_chip}
use Rattle.image.specs.Chip.{spare_only}
use Rattle.holes.proofs.all_found.Goals as goal

pub all-requires-clause-callable : goal.all-requires-clause-callable
all-requires-clause-callable c = serves_from_Range (λ k q h. search rules) (λ k low high.
    let a = c.args in
    let inside : k < body a.z = omega (arith, high, c.body.ensures) in
    let place : k < 256 = omega (arith, inside, c.requires.chip.limits.ledger_in, c.requires.chip.limits.c_high) in
    let on : k < a.z.c = on_chip a.z k inside in
    let marked : get_or a.marks.now k false ≡ named a.z (spare_only a.spare.now) k = mark_at a.z (spare_only a.spare.now) a.marks.now c.requires.marks k inside in
    search (rules, place, on, marked))

pub returns : goal.returns
returns c = let a = c.args in rw c.body.ensures at (all_told (found_fits a.z (spare_only a.spare.now)) c.all.ensures.ran (λ x b q k. search (rules, tests)))
