-- `send::put_line` meets its contract.
use mathlib.Core.Path.{◌≡◌}
use native.Mathlib.Omega.{arith}
use lib.ListN.{length, length-set}
use Rattle.send.proofs.Lines.{put_frame}
use Rattle.send.proofs.put_line.Goals as goal

pub shape_of-text : goal.shape_of-text
shape_of-text c = let e : length c.put_bytes-3.new.out ≡ length c.args.text.now = omega arith in
    simp length-set e

pub returns : goal.returns
returns c = let a = c.args in
    let first = c.put_bytes.ensures in
    rw (c.put_bytes-3.ensures, c.put_bytes-2.ensures, first)
    (put_frame a.text.now a.at a.place.now a.tag.now a.bytes.now c.requires)
