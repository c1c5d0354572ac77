-- `calls::write_call` meets its contract.
use lib.ListN.{length-take}
use native.Mathlib.Omega.{arith}
use Rattle.calls.proofs.write_call.Goals as goal

pub slice_bounds-bytes-end-2 : goal.slice_bounds-bytes-end-2
slice_bounds-bytes-end-2 c = simp length-take (omega (arith, c.requires.bucket_bound.2))

pub write_bytes-requires : goal.write_bytes-requires
write_bytes-requires c = record { bucket_bound = (c.requires.bucket_bound.0, c.requires.bucket_bound.1); bytes_len = simp length-take (omega (arith, c.requires.bucket_bound.2, c.requires.length_value)) }
