-- What a page look that is Done has found, and its answer's number.
use Prim.Native.Nat.{ℕ, zero, suc, ◌+◌, ◌*◌, ◌<◌, ◌≤◌}
use mathlib.Core.Path.{◌≡◌, refl}
use mathlib.Core.List.{List}
use native.Mathlib.Omega.{arith}
use lib.ListN.{length}
use lib.Dec.{ltb, eqb, eqb-suc-zero}
use borrow.Author.Tests.{ltb-true, eqb-true}
use Rattle.std.specs.Prelude.{if◌then◌else◌}
use Rattle.lists.proofs.Tests.{and_left, and_right}
use Rattle.model.specs.declared.Sizes.{Sizes}
use Rattle.model.specs.declared.Answer.TheVariants.{Done, Refused}
use Rattle.model.specs.Sizes.{flash_size}
use Rattle.model.specs.Tests.{first_failed}
use Rattle.model.specs.Calls.{look_tests, look_answer, answer_byte}
use Rattle.model.proofs.Calling.{first_passed}
use Rattle.model.proofs.Limits.{limits_of}
use Rattle.geometry.proofs.Passed.{products}
use Rattle.geometry.proofs.Places.{page_below, page_data_lem}

-- the page lies in the lent flash
pub record Looked (z : Sizes) (flash : List ℕ) (c k : ℕ) : Type 0 where
  pub index : c * z.p + k < 16384
  pub inside : (c * z.p + k) * z.s + z.s ≤ length flash

pub looked : (z : Sizes) (flash : List ℕ) (c k : ℕ) → first_failed (look_tests z flash c k) ≡ 0 → Looked z flash c k
unfolding look_tests
looked z flash c k h =
    let one = first_passed 0 _ _ h in
    let two = first_passed 1 _ _ one.1 in
    let six = first_passed 5 _ _ two.1 in
    let bucket = ltb-true c z.c (and_left (ltb c z.c) (ltb k z.p) six.0) in
    let page = ltb-true k z.p (and_right (ltb c z.c) (ltb k z.p) six.0) in
    record {
      index = omega (arith, page_below c k z.c z.p bucket page, (products (limits_of z one.0)).pages);
      inside = rw (eqb-true (length flash) (flash_size z) two.0) (page_data_lem z c k bucket page);
    }

number : (n : ℕ) → answer_byte (if eqb n 0 then Done else Refused n) ≡ n
unfolding answer_byte
number zero = refl
number (suc n) = rw (eqb-suc-zero n)

pub answer_number : (z : Sizes) (flash : List ℕ) (c k : ℕ) → answer_byte (look_answer z flash c k) ≡ first_failed (look_tests z flash c k)
unfolding look_answer
answer_number z flash c k = number (first_failed (look_tests z flash c k))
