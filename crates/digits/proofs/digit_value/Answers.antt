-- `digits::digit_value` meets its contract.
use native.Mathlib.Omega.{arith}
use Rattle.lists.proofs.Tests.{within-true}
use Rattle.model.specs.Driving.{digit_value}
use Rattle.digits.proofs.Values.{below, above}
use Rattle.digits.proofs.digit_value.Goals as goal

pub returns-in-48-to-57 : goal.returns-in-48-to-57
unfolding digit_value
returns-in-48-to-57 c = let n = c.args.c in
    rw (within-true 48 57 n (omega arith) (omega arith))

pub returns-in-65-to-70 : goal.returns-in-65-to-70
unfolding digit_value
returns-in-65-to-70 c = let n = c.args.c in
    rw (above 48 57 n (omega arith), within-true 65 70 n (omega arith) (omega arith)) (omega arith)

pub returns-in-97-to-102 : goal.returns-in-97-to-102
unfolding digit_value
returns-in-97-to-102 c = let n = c.args.c in
    rw (above 48 57 n (omega arith), above 65 70 n (omega arith), within-true 97 102 n (omega arith) (omega arith)) (omega arith)

pub returns-in_default : goal.returns-in_default
unfolding digit_value
returns-in_default c = let n = c.args.c in
    rw (below 48 57 n (omega arith), below 65 70 n (omega arith), below 97 102 n (omega arith))

pub returns-in_default-2 : goal.returns-in_default-2
unfolding digit_value
returns-in_default-2 c = let n = c.args.c in
    rw (above 48 57 n (omega arith), below 65 70 n (omega arith), below 97 102 n (omega arith))

pub returns-in_default-3 : goal.returns-in_default-3
unfolding digit_value
returns-in_default-3 c = let n = c.args.c in
    rw (above 48 57 n (omega arith), above 65 70 n (omega arith), below 97 102 n (omega arith))

pub returns-in_default-4 : goal.returns-in_default-4
unfolding digit_value
returns-in_default-4 c = let n = c.args.c in
    rw (above 48 57 n (omega arith), above 65 70 n (omega arith), above 97 102 n (omega arith))
