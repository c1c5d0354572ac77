-- A line cut at 513 bytes is walked as the whole line is.
use mathlib.Core.Path.{◌≡◌, refl, sym, ap, ◌∙◌}
use mathlib.Core.Bool.{Bool, true, false}
use mathlib.Core.List.{List, [], ◌∷◌, ◌++◌}
use Prim.Native.Nat.{ℕ, ◌<◌}
use native.Mathlib.Omega.{arith}
use native.Mathlib.Decide.{dec_lt}
use lib.ListN.{length, take}
use lib.Seq.{take_all, take-append-le, length-take-le}
use lib.Dec.{eqb}
use Rattle.std.specs.Prelude.{if◌then◌else◌}
use Rattle.lists.specs.Lists.{empty}
use Rattle.model.specs.Driving.{Recorder, on_line, lines_from, on_lines}
use Rattle.frame.proofs.Fits.{too_long}
use Rattle.drive.proofs.Ways.{bad_line}

cut_line : (r : Recorder) (l : List ℕ) → on_line r (take 513 l) ≡ on_line r l
cut_line r l = go (dec_lt 513 (length l))
  where
    go : Dec (513 < length l) → on_line r (take 513 l) ≡ on_line r l
    go (yes h) =
        let e : length (take 513 l) ≡ 513 = length-take-le 513 l (omega arith) in
        bad_line r (take 513 l) (too_long (take 513 l) (omega arith)) ∙ sym (bad_line r l (too_long l (omega arith)))
    go (no h) = ap (on_line r) (take_all 513 l (omega arith))

cut_again : (l m : List ℕ) → take 513 (take 513 l ++ m) ≡ take 513 (l ++ m)
cut_again l m = go (dec_lt 513 (length l))
  where
    go : Dec (513 < length l) → take 513 (take 513 l ++ m) ≡ take 513 (l ++ m)
    go (yes h) =
        let e : length (take 513 l) ≡ 513 = length-take-le 513 l (omega arith) in
        take-append-le 513 (take 513 l) m (omega arith) ∙ (take_all 513 (take 513 l) (omega arith) ∙ sym (take-append-le 513 l m (omega arith)))
    go (no h) = ap (λ (k : List ℕ). take 513 (k ++ m)) (take_all 513 l (omega arith))

pub cut_lines : (r : Recorder) (l rest : List ℕ) → on_lines r (lines_from (take 513 l) rest) ≡ on_lines r (lines_from l rest)
unfolding lines_from on_lines empty
cut_lines r [] [] = refl
cut_lines r (x ∷ l) [] = rw (cut_line r (x ∷ l))
cut_lines r l (c ∷ rest) = go (eqb c 10) (sym (cut_lines r (take 513 l ++ (c ∷ [])) rest) ∙ (ap (λ (k : List ℕ). on_lines r (lines_from k rest)) (cut_again l (c ∷ [])) ∙ cut_lines r (l ++ (c ∷ [])) rest))
  where
    go : (t : Bool) → on_lines r (lines_from (take 513 l ++ (c ∷ [])) rest) ≡ on_lines r (lines_from (l ++ (c ∷ [])) rest)
        → on_lines r (if t then take 513 l ∷ lines_from [] rest else lines_from (take 513 l ++ (c ∷ [])) rest)
        ≡ on_lines r (if t then l ∷ lines_from [] rest else lines_from (l ++ (c ∷ [])) rest)
    go true h = rw (cut_line r l)
    go false h = h
