use Rattle.std.specs.Prelude.{ℕ, ◌≢◌, List, length}
use mathlib.Core.Path.{◌≡◌, sym, ◌∙◌}
use mathlib.Core.Bool.{true, false}
use borrow.Author.Tests.{eq-eqb, ne_eqb}
use Rattle.lists.specs.Lists.{empty}
use Rattle.lists.proofs.Arrays.{empty-length}
use Rattle.model.specs.Steps.{erase_step, make_room, nothing}
use Rattle.state.specs.View.{places_of}
use Rattle.state.proofs.Bounds.{freed_bounded}
use Rattle.state.proofs.State.roomed.Goals as goal

module _ {n : ℕ} (l : List ℕ) (used : n ≡ length l) where
  -- with none in use it is empty
  none : n ≡ 0 → empty l ≡ true
  none e = empty-length l ∙ eq-eqb _ _ (sym used ∙ e)

  -- with some it is not
  some : n ≢ 0 → empty l ≡ false
  some h = empty-length l ∙ ne_eqb _ _ (λ e. h (used ∙ e))

pub freed-requires : goal.freed-requires
freed-requires c = freed_bounded (places_of c.args.self) c.requires (some _ c.used-then-used-eq0.ensures.0 c.if-used-ne0.true)

pub returns-then-used-ne0 : goal.returns-then-used-ne0
unfolding make_room erase_step
returns-then-used-ne0 c = λ d.
    rw (none _ c.used.ensures.0 c.if-used-eq0.true, some _ c.used-then-used-eq0.ensures.0 c.if-used-ne0.true) c.freed.ensures

pub returns-else-used-ne0 : goal.returns-else-used-ne0
unfolding make_room erase_step nothing
returns-else-used-ne0 c = λ d.
    rw (none _ c.used.ensures.0 c.if-used-eq0.true, none _ c.used-then-used-eq0.ensures.0 c.if-used-ne0.false)

pub returns-else-used-eq0 : goal.returns-else-used-eq0
unfolding make_room nothing
returns-else-used-eq0 c = λ d. rw (some _ c.used.ensures.0 c.if-used-eq0.false)
