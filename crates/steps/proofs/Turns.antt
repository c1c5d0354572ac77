-- A step that follows another is carried out from where that one left off.
use mathlib.Core.Path.{◌≡◌, ap, sym, ◌∙◌, subst}
use mathlib.Core.Bool.{true, false}
use mathlib.Core.Logic.{◌⊎◌, inl, inr}
use mathlib.Core.List.{List, ◌++◌}
use Rattle.lists.specs.Lists.{empty}
use Rattle.lists.proofs.Tests.{true_or_false}
use Rattle.model.specs.declared.Sizes.{Sizes}
use Rattle.model.specs.Sizes.{Device}
use Rattle.model.specs.Stores.{Store, apply_all}
use Rattle.model.specs.State.{State}
use Rattle.model.specs.Steps.{Step, ◌then◌, nothing, erase_step, make_room}
use Rattle.meter.specs.Run.{Run, run_all}
use Rattle.meter.proofs.Runs.{run_append, run_settled}
use Rattle.steps.specs.Turns.{after}

-- the state that a step leaves does not depend on the chip and the disk
abbrev pub Steady : Step → Type 0
Steady g = (t : State) (d e : Device) → (g t d).state ≡ (g t e).state

pub then_steady : (f g : Step) → Steady f → Steady g → Steady (f then g)
unfolding ◌then◌
then_steady f g first second t d e = second (f t d).state _ (apply_all t.sizes e (f t e).stores) ∙ ap (λ (u : State). (g u (apply_all t.sizes e (f t e).stores)).state) (first t d e)

pub room_steady : (z : Sizes) → Steady (make_room z)
unfolding make_room erase_step nothing
room_steady z t d e = go (true_or_false (empty t.free)) (true_or_false (empty t.gc))
  where
    go : (empty t.free ≡ true) ⊎ (empty t.free ≡ false) → (empty t.gc ≡ true) ⊎ (empty t.gc ≡ false) → (make_room z t d).state ≡ (make_room z t e).state
    go (inr f) g = rw f
    go (inl f) (inl g) = rw (f, g)
    go (inl f) (inr g) = rw (f, g)

module _ (z : Sizes) (f g : Step) (steady : Steady g) (s : State) (r : Run) where
  -- all stores of the first step are made, or the run is cut and no store changes it any more
  second : ((run_all z (f s r.device).stores r).device ≡ apply_all z r.device (f s r.device).stores)
      ⊎ ((ts : List Store) → run_all z ts (run_all z (f s r.device).stores r) ≡ run_all z (f s r.device).stores r)
      → (let planned = g (f s r.device).state (apply_all z r.device (f s r.device).stores) in
      record { run = run_all z planned.stores (run_all z (f s r.device).stores r); state = planned.state })
      ≡ after z g (after z f s r).state (after z f s r).run
  unfolding after
  second (inl made) = rw made
  second (inr cut) = rw (
    cut (g (f s r.device).state (apply_all z r.device (f s r.device).stores)).stores,
    cut (g (f s r.device).state (run_all z (f s r.device).stores r).device).stores,
  )
      (ap (λ (t : State). record { run = run_all z (f s r.device).stores r; state = t }) (steady (f s r.device).state _ _))

  pub after_then : s.sizes ≡ z → after z (f then g) s r ≡ after z g (after z f s r).state (after z f s r).run
  unfolding after ◌then◌
  after_then e =
      let p = f s r.device in
      let planned = g p.state (apply_all z r.device p.stores) in
      subst (λ (y : Sizes). record { run = run_all z (p.stores ++ (g p.state (apply_all y r.device p.stores)).stores) r; state = (g p.state (apply_all y r.device p.stores)).state }
      ≡ after z g (after z f s r).state (after z f s r).run) (sym e)
      (ap (λ (run : Run). record { run = run; state = planned.state }) (run_append z p.stores planned.stores r) ∙ second (run_settled z p.stores r))
