use Rattle.std.proofs.Common.{◌≡◌, ◌+◌, ◌-◌, ◌<◌, length, sym, ◌∙◌, arith}
use Rattle.overlay.proofs.Found.{Among, among_all, listed, ends_at, list_found, list_passed, list_none}
use Rattle.model.specs.Sizes.{body}
use Rattle.overlay.proofs.run_at.Goals as goal

pub loop-j-init : goal.loop-j-init
loop-j-init c = let a = c.args in
    (omega arith, c.requires.from_lt_x.0, omega arith, among_all a.z a.spare.now a.list.now a.«from» a.x)

pub run_in-run-requires : goal.run_in-run-requires
run_in-run-requires c = let p = c.requires in
    let list = c.args.list.now in
    let l = c.loop-j in
    let here : l.j - 1 < length list = omega arith in
    record { tagged = p.tagged; c_bound = (listed (body c.args.z) list p.list_value (l.j - 1) here, l.invariant.1, p.from_lt_x.1); ends_by = rw c.pages_at-pages.ensures (ends_at list p.list_value p.ends_by (l.j - 1) here) }

pub returns-then-is_some : goal.returns-then-is_some
returns-then-is_some c = let a = c.args in
    let l = c.loop-j in
    let up : l.j - 1 + 1 ≡ l.j = omega arith in
    let among : Among a.z a.spare.now a.list.now l.start a.x (l.j - 1 + 1) = rw up l.invariant.3 in
    list_found a.list.now c.requires.list_value l.invariant.2 (omega arith) among c.run_in-run.ensures (sym c.is_some.ensures ∙ c.if-is_some.true)

pub loop-j-preserved : goal.loop-j-preserved
loop-j-preserved c = let a = c.args in
    let l = c.loop-j in
    let up : l.j - 1 + 1 ≡ l.j = omega arith in
    let among : Among a.z a.spare.now a.list.now l.start a.x (l.j - 1 + 1) = rw up l.invariant.3 in
    let run = c.run_in-run.ensures in
    (omega arith, run.some, omega (arith, run.least), list_passed a.list.now c.requires.list_value l.invariant.2 (omega arith) among run (sym c.is_some.ensures ∙ c.if-is_some.false))

pub returns : goal.returns
returns c = let l = c.loop-j in
    let none : l.j ≡ 0 = omega arith in
    list_none l.invariant.1 l.invariant.2 (rw none at l.invariant.3)
