-- Two claims beside demand 3, about the same lists: no state that the engine handed back is distrusted, and a drained disk is the plain disk.
use Rattle.std.specs.Prelude.{◌≡◌, Bool, true, false, ◌||◌, eqb}
use Rattle.model.specs.declared.Answer.{Answer}
use Rattle.model.specs.declared.Answer.TheVariants.{Done, Idle, Cut, Refused}
use Rattle.model.specs.Calls.{format_call, read_call, write_call, erase_call, drain_call, recover_call, is_done}
use Rattle.model.specs.Promise.{whole, other, Claim, AlwaysHolds}

-- number 4 "image not well formed" or number 5 "state"
unfoldable pub is_distrust : Answer → Bool
is_distrust Done = false
is_distrust Idle = false
is_distrust Cut = false
is_distrust (Refused n) = eqb n 4 || eqb n 5

-- a call lent the whole chip and disk finds them, and the state, as the engine left them
unfoldable pub Trusted : Claim
Trusted z plain k whole o = is_distrust o.answer ≡ false
Trusted z plain k (other part) o = Unit {0}

-- after a drain answered Done the disk by itself is the plain disk
unfoldable pub Drained : Claim
Drained z plain (format_call y) l o = Unit {0}
Drained z plain (read_call b off buffer) l o = Unit {0}
Drained z plain (write_call b off bytes) l o = Unit {0}
Drained z plain erase_call l o = Unit {0}
Drained z plain drain_call whole o = is_done o.answer ≡ true → o.device.disk ≡ plain
Drained z plain drain_call (other part) o = Unit {0}
Drained z plain (recover_call y) l o = Unit {0}

unfoldable pub NeverDistrusted : Type 0
NeverDistrusted = AlwaysHolds Trusted

unfoldable pub DrainedDiskIsPlain : Type 0
DrainedDiskIsPlain = AlwaysHolds Drained
