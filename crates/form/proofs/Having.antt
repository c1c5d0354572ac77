-- A state that has a form.
use mathlib.Core.Path.{◌≡◌, refl, ◌∙◌}
use mathlib.Core.Bool.{Bool, true, false, ◌&&◌}
use mathlib.Core.List.{[], ◌∷◌}
use lib.ListN.{length}
use lib.Dec.{leb}
use Rattle.lists.specs.Lists.{every, all}
use Rattle.lists.proofs.Tests.{and_false}
use Rattle.state.specs.declared.State.{State}
use Rattle.state.specs.View.{has_places, view_of}
use Rattle.state.proofs.View.{places_counted}
use Rattle.form.specs.Rows.{row_fits}
use Rattle.form.specs.Form.{size_widths, size_numbers, is_plain, has_form}

counts_first : (s r w g f u : Bool) → every (s ∷ r ∷ w ∷ g ∷ f ∷ u ∷ []) ≡ (every (r ∷ w ∷ g ∷ f ∷ []) && (s && u))
unfolding every
counts_first s false w g f u = and_false s
counts_first s true false g f u = and_false s
counts_first s true true false f u = and_false s
counts_first s true true true false u = and_false s
counts_first s true true true true false = refl
counts_first s true true true true true = refl

-- its queues have places, its sizes fit, and its read queue has entries of buckets alone
pub form_had : (s : State) → has_form (view_of s) ≡ (has_places s && (row_fits size_widths (size_numbers s.sizes) && all is_plain (view_of s).reads))
unfolding has_form view_of
form_had s =
    let v = view_of s in
    counts_first (row_fits size_widths (size_numbers s.sizes)) (leb (length v.reads) 64) (leb (length v.writes) 64) (leb (length v.gc) 256) (leb (length v.free) 256) (all is_plain v.reads)
    ∙ rw (places_counted s)
