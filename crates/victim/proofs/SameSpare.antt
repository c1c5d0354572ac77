-- What gives way is the same on every device with the same spare area.
use Prim.Native.Nat.{ℕ}
use mathlib.Core.Path.{◌≡◌, refl, ap}
use mathlib.Core.List.{List, [], ◌∷◌}
use lib.ListN.{drop, get_or}
use Rattle.std.specs.Prelude.{if◌then◌else◌}
use Rattle.model.specs.declared.Sizes.{Sizes}
use Rattle.model.specs.declared.Entry.{Entry}
use Rattle.model.specs.Sizes.{Device}
use Rattle.model.specs.State.{State, entry}
use Rattle.model.specs.Operations.{goes_first, least_of, victim, outgoing}
use Rattle.image.specs.Chip.{spare_only}
use Rattle.image.proofs.SameSpare.{same-epoch}

module _ (z : Sizes) (d : Device) where
  same_first : (e f : Entry) → goes_first z (spare_only d.spare) e f ≡ goes_first z d e f
  unfolding goes_first
  same_first e f = rw (same-epoch z d e.cache, same-epoch z d f.cache)

  same_least : (best : Entry) (l : List Entry) → least_of z (spare_only d.spare) best l ≡ least_of z d best l
  unfolding least_of
  same_least best [] = refl
  same_least best (e ∷ l) = rw (same_first e best) (same_least (if goes_first z d e best then e else best) l)

  same-victim : (l : List Entry) → victim z (spare_only d.spare) l ≡ victim z d l
  unfolding victim
  same-victim l = ap (λ (e : Entry). e.back) (same_least (get_or l 0 (entry 0 0 0)) (drop 1 l))

  pub same_outgoing : (b : ℕ) (s : State) → outgoing z (spare_only d.spare) b s ≡ outgoing z d b s
  unfolding outgoing
  same_outgoing b s = rw same-victim
