-- What holds from piece to piece.
use mathlib.Core.Path.{◌≡◌, refl}
use mathlib.Core.List.{List, [], ◌∷◌, ◌++◌}
use Prim.Native.Nat.{ℕ}
use Rattle.std.specs.Prelude.{Option, None, Some, MatchOption}
use Rattle.model.specs.Driving.{output}
use Rattle.input.specs.declared.Walk.{Walk}
use Rattle.input.specs.Ahead.{ahead, Sound}
use Rattle.input.specs.Ways.{Place, Walked, Ways, WholeInput}
use Rattle.input.proofs.Whole.{ways_on, ways_from, whole_input}
use Rattle.tugmerov.specs.Whole.{Reached, Ended, Whole}

pub record Going (from : Place) (w : Walk) (line buffer flash spare disk out : List ℕ) : Type 0 where
  pub sound : Sound w line buffer flash spare disk out
  pub none : w.printed ≡ 0
  pub reached : Reached from (ahead w line flash spare disk out)

pub set_out : (w : Walk) (line buffer flash spare disk out : List ℕ) → Sound w line buffer flash spare disk out → w.printed ≡ 0
    → Going (ahead w line flash spare disk out) w line buffer flash spare disk out
unfolding Ways
set_out w line buffer flash spare disk out s none = record { sound = s; none = none; reached = record { legs = []; ways = λ rest. refl } }

-- a further piece
pub further : (from here to : Place) → Reached from here → (written : ℕ) (bytes : List ℕ) → Walked here bytes written to → Reached from to
further from here to reached written bytes way =
    record { legs = reached.legs ++ (record { piece = bytes; text = way.text; to = _ } ∷ []); ways = ways_on from _ _ reached.legs bytes way.text reached.ways way.way }

-- what holds where there is nothing, and nothing there is
pub where_none : {X P : Type 0} (Q : X → Type 0) (o : Option X) → ((x : X) → o ≡ Some x → ⊥) → MatchOption o P Q → P
where_none Q None f p = p
where_none Q (Some x) f q = absurd (f x refl)

-- from the start of the input
module _ (from to : Place) (start : (input : List ℕ) → from input ≡ output input) where
  pub reached-output : Reached from to → Reached output to
  reached-output r = record { legs = r.legs; ways = ways_from from output to r.legs start r.ways }

  pub whole_output : Ended from to → Whole to
  unfolding WholeInput
  whole_output e =
      let ways = ways_from from output e.last e.reached.legs start e.reached.ways in
      record {
        ended = record { last = e.last; reached = record { legs = e.reached.legs; ways = ways }; written = e.written; closed = e.closed };
        all = whole_input e.reached.legs e.last ways;
      }
