use Rattle.rules.proofs.Slots.{alone_distinct, not_alone}
use Rattle.rules.specs.Slots.{Alone}
use mathlib.Core.List.{List}
use mathlib.Core.Path.{◌≡◌, sym}
use Prim.Native.Nat.{ℕ, ◌+◌, ◌<◌}
use native.Mathlib.Decide.{ℕ_discrete}
use native.Mathlib.Omega.{arith}
use Rattle.rules.proofs.all_differ.Goals as goal

-- one more number
more : (items slots : List ℕ) (i j : ℕ) → (j < i → Alone items slots j) → Alone items slots i → Dec (j ≡ i) → j < i + 1 → Alone items slots j
more items slots i j all last (yes e) h = rw e last
more items slots i j all last (no n) h = all (omega arith)

pub fill_slots-requires : goal.fill_slots-requires
fill_slots-requires c = c.requires

pub stands_alone-requires : goal.stands_alone-requires
stands_alone-requires c = record { len_bound = c.requires; i_in_bounds = c.loop-i-test.true }

pub returns-then-not-stands_alone : goal.returns-then-not-stands_alone
returns-then-not-stands_alone c = sym (not_alone c.args.items.now c.loop-i.i (omega arith) (c.stands_alone.ensures.1 c.if-not-stands_alone.true))

pub loop-i-preserved : goal.loop-i-preserved
loop-i-preserved c = let i = c.loop-i.i in
    λ j h. more c.args.items.now c.fill_slots.new.slots i j (c.loop-i.invariant j) (c.stands_alone.ensures.0 c.if-not-stands_alone.false) (ℕ_discrete j i) h

pub returns : goal.returns
returns c = sym (alone_distinct c.args.items.now c.fill_slots.new.slots (λ j h. c.loop-i.invariant j (omega arith)))
