-- `text::show` meets its contract.
use mathlib.Core.Path.{◌≡◌, sym}
use Prim.Native.Nat.{◌/◌, ◌%◌}
use native.Mathlib.Omega.{arith}
use lib.ListN.{length, length-set}
use Rattle.text.proofs.Shown.{shown-length, put_shown}
use Rattle.text.proofs.show.Goals as goal

pub shape_of-out : goal.shape_of-out
shape_of-out c =
    let e : length c.put_bytes-2.new.out ≡ length c.args.out.now = omega arith in
    simp length-set e

pub returns : goal.returns
returns c =
    let a = c.args in
    let high : a.stores / 256 % 256 ≡ a.stores / 256 = omega arith in (
      sym (shown-length a.answer a.stores a.bytes.now),
      rw (c.put_bytes-2.ensures, c.put_bytes.ensures, c.to_be_bytes.ensures, high) (put_shown a.answer a.stores a.bytes.now a.out.now c.requires.bytes_in_bounds),
    )
