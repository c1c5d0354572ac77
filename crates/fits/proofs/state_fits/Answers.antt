use mathlib.Core.Path.{◌≡◌, sym, ap, ◌∙◌}
use mathlib.Core.Bool.{true≢false}
use Rattle.model.specs.State.{State, state_fits}
use Rattle.image.specs.Chip.{spare_only}
use Rattle.state.specs.View.{places_of, view_of}
use Rattle.fits.proofs.Places.{too_long}
use Rattle.fits.proofs.state_fits.Goals as goal

pub returns-then-has_places : goal.returns-then-has_places
returns-then-has_places c = let a = c.args in
    let same : view_of a.s ≡ places_of a.s = c.has_places.ensures.self_value c.if-has_places.true in
    record { value = c.places_fit.ensures ∙ ap (λ (v : State). state_fits v (spare_only a.spare.now)) (sym same); s_value = λ h. same }

pub returns-else-has_places : goal.returns-else-has_places
returns-else-has_places c = let start = c in
    let missing = sym c.has_places.ensures.value ∙ c.if-has_places.false in
    record { value = sym (too_long start.args.s (spare_only start.args.spare.now) start.requires.chip.limits missing); s_value = λ h. absurd (true≢false (sym h)) }
