-- `tugmerov::turn` meets its contract.
use borrow.Author.Tests.{eq-eqb, ne_eqb}
use mathlib.Core.Path.{◌∙◌}
use lib.ListN.{length-take}
use native.Mathlib.Omega.{arith}
use Rattle.input.proofs.End.{closed_up}
use Rattle.lists.proofs.Tests.{if_true, if_false}
use Rattle.tugmerov.proofs.turn.Goals as goal

pub slice_bounds-walk_piece-end-2 : goal.slice_bounds-walk_piece-end-2
slice_bounds-walk_piece-end-2 c = simp length-take (omega (arith, c.closed-n.ensures.1))

pub walk_piece-requires : goal.walk_piece-requires
walk_piece-requires c = let start = c in
    let closed = c.closed-n in
    record { sound = start.requires.sound; piece_len_bound = (simp length-take (omega (arith, closed.ensures.1, start.requires.piece_len.0)), omega (arith, start.requires.piece_len.2), omega (arith, start.requires.piece_len.2)) }

pub returns : goal.returns
returns c =
    let told = c.walk_piece in
    let bytes = c.closed-n.ensures.0 in
    record {
      sound_2 = told.ensures.sound_2;
      begun = rw bytes at told.ensures.begun;
      walked = λ more none. rw (bytes ∙ if_false _ _ (ne_eqb c.args.count 0 (λ e. omega (arith, e, more)))) at (told.ensures.walked none);
      closed = λ ended none. closed_up c.args.w _ _ _ _ _ c.requires.sound.0.line_room_lem told.result.walk _ _ _ _ _ _ none (rw (bytes ∙ if_true _ _ (eq-eqb c.args.count 0 ended)) at (told.ensures.walked none));
      failed = told.ensures.failed;
    }
