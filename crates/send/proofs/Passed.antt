-- The writer's tests: those of the chip, and the room for the text.
use mathlib.Core.Path.{◌≡◌}
use mathlib.Core.List.{[], ◌∷◌}
use Prim.Native.Nat.{ℕ, ◌≤◌}
use lib.ListN.{length}
use lib.Dec.{leb, eqb}
use borrow.Author.Tests.{leb-true}
use Rattle.std.specs.Prelude.{if◌then◌else◌}
use Rattle.model.specs.declared.Sizes.{Sizes}
use Rattle.model.specs.Sizes.{Device}
use Rattle.model.specs.Tests.{first_failed}
use Rattle.model.specs.Mail.{chip_tests, text_of, write_tests}
use Rattle.model.proofs.Calling.{first_passed}
use Rattle.geometry.proofs.Passed.{chip_passed, chip_first}

module _ (z : Sizes) (d : Device) (room : ℕ) where
  pub text_fits : first_failed (write_tests z d room) ≡ 0 → length (text_of z d) ≤ room
  unfolding write_tests
  text_fits h = leb-true (length (text_of z d)) room (first_passed 1 _ _ (chip_passed z d ((2, leb (length (text_of z d)) room) ∷ []) h).3).0

  -- the room is asked for once the chip has passed
  pub room_asked : first_failed (write_tests z d room)
      ≡ (if eqb (first_failed (chip_tests z d)) 0 then (if leb (length (text_of z d)) room then 0 else 2) else first_failed (chip_tests z d))
  unfolding write_tests first_failed
  room_asked = chip_first z d ((2, leb (length (text_of z d)) room) ∷ [])
