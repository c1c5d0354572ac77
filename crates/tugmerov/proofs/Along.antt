-- The way along a piece, and the text written on it.
use mathlib.Core.Path.{◌≡◌, refl, sym, ap, ◌∙◌}
use mathlib.Core.List.{List, [], ◌++◌, append_assoc}
use Prim.Native.Nat.{ℕ, ◌+◌, ◌-◌, ◌*◌, ◌≤◌, ◌<◌}
use native.Mathlib.Omega.{arith}
use lib.ListN.{length, take, drop, length-append, drop_of_length-le}
use lib.Seq.{length-take-le, take-take}
use Rattle.input.specs.declared.Walk.{Walk}
use Rattle.input.specs.Ahead.{ahead, Sound}
use Rattle.input.specs.Ways.{Place, Begun, Walked}
use Rattle.input.proofs.Behind.{take_behind}

-- the walk after a write of so many of the printed characters
abbrev pub wrote : Walk → ℕ → Walk
wrote w put = record { recorder = w.recorder; held = w.held; passed = w.passed; printed = w.printed - put }

-- what is printed, and all that is to come once it is written
flushed : (w : Walk) (line flash spare disk out rest : List ℕ) (put : ℕ) → w.printed - put ≡ 0
    → take w.printed out ++ ahead (wrote w put) line flash spare disk out rest ≡ ahead w line flash spare disk out rest
unfolding ahead
flushed w line flash spare disk out rest put e = rw e

-- the first characters of a text and all that is to come behind it
first_of : (text : List ℕ) (written : ℕ) (w : Walk) (line flash spare disk out rest : List ℕ) (put : ℕ) → length text ≡ written → put ≤ w.printed → w.printed ≤ length out
    → take (written + put) (text ++ ahead w line flash spare disk out rest) ≡ text ++ take put out
unfolding ahead
first_of text written w line flash spare disk out rest put e h k =
    rw (← e) (take_behind text (take w.printed out) _ put (omega (arith, length-take-le w.printed out k)) ∙ ap (λ (t : List ℕ). text ++ t) (take-take put w.printed out h))

module _ (piece : List ℕ) (from : Place) where
  -- so many characters are written and, unless the output has failed, the bytes of the piece up to here are walked
  pub record Along (w : Walk) (line buffer flash spare disk out : List ℕ) (written : ℕ) : Type 0 where
    pub sound : Sound w line buffer flash spare disk out
    pub inside : w.passed ≤ length piece
    pub few : written ≤ w.passed * 131072
    pub begun : Begun from piece written
    pub walked : w.printed ≡ 0 → Walked from piece written (λ rest. ahead w line flash spare disk out (drop w.passed piece ++ rest))

  module _ (w : Walk) (line buffer flash spare disk out : List ℕ) (written : ℕ) (a : Along w line buffer flash spare disk out written) where
    -- some lines further, and a write
    pub along : w.printed ≡ 0 → (v : Walk) (line' buffer' flash' spare' disk' out' : List ℕ) → Sound v line' buffer' flash' spare' disk' out' → w.passed < v.passed → v.passed ≤ length piece
        → ((rest : List ℕ) → ahead v line' flash' spare' disk' out' (drop v.passed piece ++ rest) ≡ ahead w line flash spare disk out (drop w.passed piece ++ rest))
        → length out' ≤ 131072 → (put : ℕ) → put ≤ v.printed → Along (wrote v put) line' buffer' flash' spare' disk' out' (written + put)
    along none v line' buffer' flash' spare' disk' out' s onward inside alike room put fits = record {
      sound = record {
        ready = s.ready;
        arrays = s.arrays;
        line_room_lem = s.line_room_lem;
        held_room = s.held_room;
        buffer_room = s.buffer_room;
        printed_room = omega (arith, s.printed_room);
      };
      inside = inside;
      few = omega (arith, a.few, s.printed_room);
      begun = let before = a.walked none in record {
        text = before.text ++ take put out';
        counted = omega (arith, length-append before.text (take put out'), length-take-le put out' (omega (arith, s.printed_room)), before.counted);
        first = λ rest.
            ap (take (written + put)) (sym (ap (λ (t : List ℕ). before.text ++ t) (alike rest) ∙ before.way rest))
            ∙ first_of before.text written v line' flash' spare' disk' out' (drop v.passed piece ++ rest) put before.counted fits s.printed_room;
      };
      walked = λ e. let before = a.walked none in record {
        text = before.text ++ take v.printed out';
        counted = omega (arith, length-append before.text (take v.printed out'), length-take-le v.printed out' s.printed_room, before.counted, e);
        way = λ rest.
            append_assoc before.text (take v.printed out') _
            ∙ (ap (λ (t : List ℕ). before.text ++ t) (flushed v line' flash' spare' disk' out' (drop v.passed piece ++ rest) put e ∙ alike rest) ∙ before.way rest);
      };
    }

    -- the end of the piece
    pub all_along : length piece ≤ w.passed → w.printed ≡ 0 → Walked from piece written (ahead w line flash spare disk out)
    all_along end none = let before = a.walked none in record {
      text = before.text;
      counted = before.counted;
      way = λ rest. ap (λ (t : List ℕ). before.text ++ ahead w line flash spare disk out (t ++ rest)) (sym (drop_of_length-le piece end)) ∙ before.way rest;
    }

-- nothing is walked of the piece
abbrev pub afresh : Walk → Walk
afresh w = record { recorder = w.recorder; held = w.held; passed = 0; printed = w.printed }

pub set_out : (piece : List ℕ) (w : Walk) (line buffer flash spare disk out : List ℕ) → Sound w line buffer flash spare disk out
    → Along piece (ahead (afresh w) line flash spare disk out) (afresh w) line buffer flash spare disk out 0
set_out piece w line buffer flash spare disk out s = record {
  sound = record {
    ready = s.ready;
    arrays = s.arrays;
    line_room_lem = s.line_room_lem;
    held_room = s.held_room;
    buffer_room = s.buffer_room;
    printed_room = s.printed_room;
  };
  inside = omega arith;
  few = omega arith;
  begun = record { text = []; counted = refl; first = λ rest. refl };
  walked = λ none. record { text = []; counted = refl; way = λ rest. refl };
}
