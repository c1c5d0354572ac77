use Rattle.overlay.proofs.Found.{listed}
use Rattle.model.specs.Sizes.{body}
use lib.ListN.{length}
use native.Mathlib.Omega.{arith}
use Prim.Native.Nat.{◌-◌, ◌<◌}
use Rattle.overlay.proofs.newest_live.Goals as goal

pub overflow_cast-list : goal.overflow_cast-list
overflow_cast-list c = omega (arith, c.shared_slice_known-3-1.given (length c.args.list.now - 1))

pub live_pages-requires : goal.live_pages-requires
live_pages-requires c = let start = c in let p = start.requires in let a = start.args in
    let some : 0 < length a.list.now = omega (arith, c.if-n-eq0.false) in
    record { tagged = p.tagged; c_bound = listed (body a.z) a.list.now p.list_value (length a.list.now - 1) (omega arith); ends_by = p.ends_by some }
