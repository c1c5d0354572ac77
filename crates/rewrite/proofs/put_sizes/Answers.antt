-- `rewrite::put_sizes` meets its contract.
use mathlib.Core.Path.{sym, ap, ◌∙◌}
use mathlib.Core.List.{List, [], ◌∷◌, ◌++◌}
use Prim.Native.Nat.{ℕ, ◌≤◌}
use native.Mathlib.Omega.{arith}
use lib.ListN.{length, set}
use lib.Seq.{length-take-le}
use Rattle.lists.specs.Lists.{splice}
use Rattle.model.specs.Driving.{digits_of}
use Rattle.rewrite.proofs.First.{nine, all_nine, put_line}
use Rattle.rewrite.proofs.put_sizes.Goals as goal

pub slice_bounds-decode-end-2 : goal.slice_bounds-decode-end-2
slice_bounds-decode-end-2 c = sym (length-take-le 18 c.args.text.now (omega (arith, c.requires.0)))

pub decode-requires : goal.decode-requires
decode-requires c = let l = c.args.text.now in
    record { line_value = c.requires.1; out_in_bounds = omega (arith, nine l (omega (arith, c.requires.0))) }

pub returns : goal.returns
returns c = let l = c.args.text.now in
    let long : 19 ≤ length l = c.requires.0 in
    let e = c.decode.ensures ∙ all_nine l (omega arith) in
    ap (λ (m : List ℕ). set m 18 10) c.put_bytes.ensures
    ∙ put_line l c.decode.new.out long (ap length e ∙ nine l (omega arith))
    ∙ ap (λ (bs : List ℕ). splice l 0 (digits_of bs ++ (10 ∷ []))) e
