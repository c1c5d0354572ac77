-- An erase and its entry, counted.
use Rattle.std.specs.Prelude.{ℕ, ◌<◌, ◌≡◌, length}
use Rattle.model.specs.declared.Sizes.{Sizes}
use Rattle.model.specs.Sizes.{Device, body}
use Rattle.model.specs.Stores.{apply_all}
use Rattle.model.specs.Steps.{noted_erase}
use Rattle.model.proofs.Frames.{Lengths}
use Rattle.model.proofs.ProgramsLedger.{entry_room, Shape}
use Rattle.noted.specs.declared.Cost.{Cost}

-- r is what they come to on every chip whose ledger bucket in use has so many blank pages
pub record Costs (z : Sizes) (room : ℕ) (r : Cost) : Type 0 where
  pub stores : (d : Device) (x : ℕ) → entry_room z d ≡ room → r.stores ≡ length (noted_erase z d x)
  pub left : (d : Device) (x : ℕ) → Lengths z d → Shape z d → x < body z → entry_room z d ≡ room → r.room ≡ entry_room z (apply_all z d (noted_erase z d x))
