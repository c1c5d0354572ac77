-- `tugmerov::walk_input` meets its contract.
use Prim.Native.Nat.{ℕ}
use lib.ListN.{length-replicate}
use native.Mathlib.Omega.{arith}
use mathlib.Core.Path.{◌≡◌}
use mathlib.Core.List.{List}
use Rattle.model.specs.Driving.{output}
use Rattle.std.proofs.lemmas.Result.{on_err_weaker, on_ok_weaker}
use Rattle.input.specs.Ahead.{ahead}
use Rattle.tugmerov.proofs.Going.{reached-output, whole_output}
use Rattle.tugmerov.proofs.walk_input.Goals as goal

pub walk_pieces-requires : goal.walk_pieces-requires
walk_pieces-requires c = let p = c.requires in
    let s = c.start-start.ensures.ready in
    record { sound = (record { ready = s.0; arrays = record { flash_length = rw p.flash_value.0 (length-replicate {A = ℕ} 32768 0); spare_length = rw p.flash_value.1 (length-replicate {A = ℕ} 32768 0); disk_length = rw p.flash_value.2 (length-replicate {A = ℕ} 16384 0) }; line_room_lem = p.piece_len.1; held_room = omega (arith, s.1); buffer_room = p.piece_len.2; printed_room = omega (arith, s.2) }, s.2); piece_len = (p.piece_len.0, p.piece_len.3) }

pub returns : goal.returns
returns c =
    let a = c.args in
    let p = c.requires.flash_value in
    let start = c.start-start in
    let came = c.walk_pieces in
    let from = ahead start.result a.line.now a.flash.now a.spare.now a.disk.now a.out.now in
    let same : (input : List ℕ) → from input ≡ output input = λ input. rw (p.0, p.1, p.2) (start.ensures.by_index a.line.now a.out.now input) in
    let to = ahead came.result.walk came.new.line came.new.flash came.new.spare came.new.disk came.new.out in
    record {
      reached = on_err_weaker came.result.stop (λ reached none. reached-output from to same (reached none)) came.ensures.reached;
      whole = on_ok_weaker came.result.stop (whole_output from to same) came.ensures.ended;
    }
