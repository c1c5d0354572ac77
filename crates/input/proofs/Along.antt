-- The way along a piece: what holds at the start of each line, from the start of the walk on.
use mathlib.Core.Path.{◌≡◌, refl, ◌∙◌, ap}
use mathlib.Core.List.{List, ◌++◌}
use Prim.Native.Nat.{ℕ, ◌+◌, ◌-◌, ◌≤◌, ◌<◌}
use native.Mathlib.Omega.{arith}
use native.Mathlib.Decide.{dec_lt}
use lib.ListN.{length, take, drop, get_or}
use Rattle.lists.specs.Lists.{part}
use Rattle.model.specs.Driving.{on_line}
use Rattle.drive.specs.declared.Printed.{Printed as PrintedStruct}
use Rattle.drive.specs.Recorder.{recorder_of, printed_of, Ready}
use Rattle.lines.specs.Lines.{OneLine}
use Rattle.input.specs.declared.Walk.{Walk}
use Rattle.input.specs.Ahead.{ahead, Sound}
use Rattle.input.proofs.Behind.{behind_inside}
use Rattle.input.proofs.Onward.{shown_of, line_held, line_walked, line_shown_lem}

module _ (piece : List ℕ) (w₀ : Walk) (line₀ buffer₀ flash₀ spare₀ disk₀ out₀ : List ℕ) where
  -- the walk w has come from w₀ on the same piece, and the whole output is to be the same
  pub record Along (w : Walk) (line buffer flash spare disk out : List ℕ) : Type 0 where
    pub sound : Sound w line buffer flash spare disk out
    pub alike : (rest : List ℕ) → ahead w line flash spare disk out (drop w.passed piece ++ rest) ≡ ahead w₀ line₀ flash₀ spare₀ disk₀ out₀ (drop w₀.passed piece ++ rest)
    pub inside : w.passed ≤ length piece
    pub onward : w₀.passed ≤ w.passed
    -- where nothing is passed nothing is printed
    pub still : w.passed ≡ w₀.passed → w.printed ≡ w₀.printed
    pub line_same : length line ≡ length line₀
    pub buffer_same : length buffer ≡ length buffer₀
    pub flash_same : length flash ≡ length flash₀
    pub spare_same : length spare ≡ length spare₀
    pub disk_same : length disk ≡ length disk₀
    pub out_same : length out ≡ length out₀

  pub set_out : Sound w₀ line₀ buffer₀ flash₀ spare₀ disk₀ out₀ → w₀.passed < length piece → Along w₀ line₀ buffer₀ flash₀ spare₀ disk₀ out₀
  set_out s h = record {
    sound = s;
    alike = λ rest. refl;
    inside = omega arith;
    onward = omega arith;
    still = λ e. refl;
    line_same = refl;
    buffer_same = refl;
    flash_same = refl;
    spare_same = refl;
    disk_same = refl;
    out_same = refl;
  }

  -- the first line is always walked, so where there is no more room something is passed
  pub passed_some : (w : Walk) (line buffer flash spare disk out : List ℕ) → Along w line buffer flash spare disk out → w₀.printed + 32775 ≤ length out₀ → length out - w.printed < 32775
      → w₀.passed < w.passed
  passed_some w line buffer flash spare disk out a room short = go (dec_lt w₀.passed w.passed)
    where
      go : Dec (w₀.passed < w.passed) → w₀.passed < w.passed
      go (yes h) = h
      go (no h) = absurd (omega (arith, a.still (omega (arith, h, a.onward)), a.out_same, room, short))

  module _ (w : Walk) (line buffer flash spare disk out : List ℕ) (a : Along w line buffer flash spare disk out) (more : w.passed < length piece)
      (end : ℕ) (found : (w.passed ≤ end) × (end ≤ length piece) × (end < length piece → get_or piece end 0 ≡ 10)) (one : OneLine piece w.passed end)
      (held : ℕ) (line' : List ℕ) (room : held ≤ 513) (gathered : take held line' ≡ take 513 (take w.held line ++ part piece w.passed (end - w.passed))) (Line_kept : length line' ≡ length line) where
    -- the piece ends within a line
    pub held_on : length piece ≤ end → Along (record { recorder = w.recorder; held = held; passed = end; printed = w.printed }) line' buffer flash spare disk out
    unfolding ahead
    held_on h = record {
      sound = record {
        ready = a.sound.ready;
        arrays = a.sound.arrays;
        line_room_lem = omega (arith, Line_kept, a.sound.line_room_lem);
        held_room = room;
        buffer_room = a.sound.buffer_room;
        printed_room = a.sound.printed_room;
      };
      alike = λ rest. ap (λ (t : List ℕ). take w.printed out ++ t) (line_held piece w.passed end one (take w.held line) (take held line') gathered rest _) ∙ a.alike rest;
      inside = found.1;
      onward = omega (arith, a.onward, found.0);
      still = λ e. absurd (omega (arith, e, a.onward));
      line_same = Line_kept ∙ a.line_same;
      buffer_same = a.buffer_same;
      flash_same = a.flash_same;
      spare_same = a.spare_same;
      disk_same = a.disk_same;
      out_same = a.out_same;
    }

    -- a line is whole, and walked
    module _ (p : PrintedStruct) (buffer' flash' spare' disk' back rest : List ℕ) (told : printed_of p flash' spare' disk' back ≡ on_line (recorder_of w.recorder flash spare disk) (take held line'))
        (ready : Ready p.recorder.formatted p.recorder.sizes) (text_inside : p.length ≤ length back) (buffer_kept : length buffer' ≡ length buffer) (flash_kept : length flash' ≡ length flash)
        (spare_kept : length spare' ≡ length spare) (disk_kept : length disk' ≡ length disk) (out_kept : length (take w.printed out ++ (back ++ rest)) ≡ length out) where
      pub walked_on : end < length piece
          → Along (record { recorder = p.recorder; held = 0; passed = end + 1; printed = w.printed + p.length }) line' buffer' flash' spare' disk' (take w.printed out ++ (back ++ rest))
      unfolding ahead
      walked_on h = record {
        sound = record {
          ready = ready;
          arrays = record {
            flash_length = omega (arith, flash_kept, a.sound.arrays.flash_length);
            spare_length = omega (arith, spare_kept, a.sound.arrays.spare_length);
            disk_length = omega (arith, disk_kept, a.sound.arrays.disk_length);
          };
          line_room_lem = omega (arith, Line_kept, a.sound.line_room_lem);
          held_room = omega arith;
          buffer_room = omega (arith, buffer_kept, a.sound.buffer_room);
          printed_room = behind_inside out back rest w.printed p.length a.sound.printed_room text_inside;
        };
        alike = λ more.
            line_walked piece w.passed end one (take w.held line) (take held line') gathered more (shown_of w flash spare disk out) _
            (line_shown_lem w p (take held line') flash spare disk flash' spare' disk' out back rest told text_inside a.sound.printed_room) h (found.2 h)
            ∙ a.alike more;
        inside = omega arith;
        onward = omega (arith, a.onward, found.0);
        still = λ e. absurd (omega (arith, e, a.onward, found.0));
        line_same = Line_kept ∙ a.line_same;
        buffer_same = buffer_kept ∙ a.buffer_same;
        flash_same = flash_kept ∙ a.flash_same;
        spare_same = spare_kept ∙ a.spare_same;
        disk_same = disk_kept ∙ a.disk_same;
        out_same = out_kept ∙ a.out_same;
      }
