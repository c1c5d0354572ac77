-- A state that number 5 passes has no queue longer than its array.
use mathlib.Core.Path.{◌≡◌, sym, ◌∙◌}
use mathlib.Core.Bool.{true, false, true≢false}
use mathlib.Core.Logic.{⊎_elim}
use native.Mathlib.Omega.{arith}
use lib.ListN.{length}
use borrow.Author.Tests.{le-leb}
use Rattle.lists.specs.Lists.{every}
use Rattle.lists.proofs.Tests.{true_or_false}
use Rattle.model.specs.Sizes.{Device}
use Rattle.model.specs.State.{state_fits}
use Rattle.model.proofs.Limits.{Limits}
use Rattle.state.specs.declared.State.{State}
use Rattle.state.specs.View.{has_places, view_of}
use Rattle.state.proofs.Queued.{queues_hold}
use Rattle.state.proofs.View.{places_counted}

fits_places : (s : State) (d : Device) → Limits s.sizes → state_fits (view_of s) d ≡ true → has_places s ≡ true
unfolding view_of every
fits_places s d limits fits =
    let v = view_of s in
    let hold = queues_hold v d fits in
    rw (places_counted s, le-leb (length v.reads) 64 (omega (arith, hold.reads, limits.r_high)), le-leb (length v.writes) 64 (omega (arith, hold.writes, limits.w_high)), le-leb (length v.gc) 256 (omega (arith, hold.total, limits.ledger_in, limits.c_high)), le-leb (length v.free) 256 (omega (arith, hold.total, limits.ledger_in, limits.c_high)))

pub too_long : (s : State) (d : Device) → Limits s.sizes → has_places s ≡ false → state_fits (view_of s) d ≡ false
too_long s d limits h = ⊎_elim (λ fits. absurd (true≢false (sym (fits_places s d limits fits) ∙ h))) (λ e. e) (true_or_false (state_fits (view_of s) d))
