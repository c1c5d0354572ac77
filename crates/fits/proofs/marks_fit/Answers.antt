use Prim.Native.Nat.{ℕ, ◌<◌}
use mathlib.Core.Bool.{Bool, true, false, true≢false}
use mathlib.Core.List.{List}
use mathlib.Core.Path.{◌≡◌, refl, sym, ◌∙◌}
use native.Mathlib.Omega.{arith}
use lib.ListN.{length, get_or}
use lib.Seq.{take_all}
use Rattle.model.specs.declared.Entry.{Entry}
use Rattle.queue.specs.View.{entries_of, no_entry}
use Rattle.model.specs.State.{mark_fits}
use Rattle.lists.proofs.Arrays.{all_at, tested_more, take-used}
use Rattle.lists.proofs.Tests.{and-true}
use Rattle.lists.specs.Lists.{all}
use Rattle.fits.proofs.marks_fit.Goals as goal
use Rattle.fits.proofs.marks_fit.Goals.{then-e+else-not-holds, else-e}

-- an entry that fails
fails : (t : Entry → Bool) (l : List Entry) (i : ℕ) → i < length l → t (get_or l i no_entry) ≡ false → all t l ≡ false
fails t l i h e = go (all t l) refl
  where
    go : (s : Bool) → all t l ≡ s → all t l ≡ false
    go true q = absurd (true≢false (sym (all_at t l q i no_entry h) ∙ e))
    go false q = q

pub loop-e-init : goal.loop-e-init
unfolding all
loop-e-init c = refl

pub returns-then-not-holds : goal.returns-then-not-holds
unfolding mark_fits
returns-then-not-holds c = let q = c.args.writes in
    rw (← take-used c.used.result q.len q.items c.used.ensures.0)
    (sym (fails (mark_fits (entries_of c.args.reads)) _ c.loop-e.e-index (omega arith) (rw (c.if-e.true, sym c.holds.ensures ∙ c.if-not-holds.true))))

pub loop-e-preserved : goal.loop-e-preserved
unfolding mark_fits
loop-e-preserved c = let l = c.loop-e in let reads = entries_of c.args.reads in
    tested_more (mark_fits reads) l.e-index _ no_entry (omega arith)
    ∙ and-true l.invariant (elim c.if-e.branch [ then-e+else-not-holds w ↦ rw (w.if-e.true, sym w.holds.ensures ∙ w.if-not-holds.false) | else-e w ↦ rw w.if-e.false ])

pub returns : goal.returns
returns c = let q = c.args.writes in
    sym (rw (take_all c.loop-e.e-index _ c.loop-e-test.false, take-used c.used.result q.len q.items c.used.ensures.0) at c.loop-e.invariant)
