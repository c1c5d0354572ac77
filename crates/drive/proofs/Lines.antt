-- A line that makes its call: what is printed of it and what it leaves, from what the call hands back.
use mathlib.Core.Path.{◌≡◌, sym, ap, ◌∙◌}
use mathlib.Core.Bool.{Bool, ◌&&◌, ◌||◌}
use mathlib.Core.List.{List, []}
use Prim.Native.Nat.{ℕ, ◌≤◌}
use native.Mathlib.Omega.{arith}
use lib.ListN.{length, take, length-take}
use Rattle.std.specs.Prelude.{if◌then◌else◌}
use Rattle.model.specs.declared.Sizes.{Sizes}
use Rattle.model.specs.declared.Answer.TheVariants.{Done}
use Rattle.model.specs.Sizes.{Device, disk_size}
use Rattle.model.specs.State.{State}
use Rattle.model.specs.Calls.{Outcome, is_done, lent_buffer, call}
use Rattle.model.specs.Driving.{Printed, allowance, call_of, lend, give_back, settled, printed}
use Rattle.geometry.specs.Geometry.{device}
use Rattle.state.specs.View.{view_of}
use Rattle.outcome.specs.Handed.{Handed, handed_back, handed}
use Rattle.outcome.proofs.Ends.{handed_view}
use Rattle.calls.specs.Arrays.{in_arrays, seen}
use Rattle.drive.specs.declared.Recorder.{Recorder as RecorderStruct}
use Rattle.drive.specs.declared.Printed.{Printed as PrintedStruct}
use Rattle.drive.specs.Recorder.{recorder_of, printed_of, outcome_of, after, called_line}
use Rattle.drive.proofs.Bounds.{stores_within, done_room}
use Rattle.drive.proofs.Texts.{printed_alike, printed-seen}

module _ (z : Sizes) (format : Bool) (r : RecorderStruct) (a : Device) (f : List ℕ) where
  -- the outcome of the call on the lent parts, and the same with the whole arrays
  abbrev lent : Outcome
  lent = call (allowance f) (call_of z f) (view_of r.state) (lend z a)

  abbrev whole : Outcome
  whole = record { answer = lent.answer; stores = lent.stores; state = lent.state; device = give_back z a lent.device; buffer = lent.buffer }

  -- what an outcome with the whole arrays leaves
  abbrev left : Outcome → Printed
  left o = record {
    recorder = record { state = o.state; arrays = o.device; formatted = r.formatted || (format && is_done o.answer); sizes = if format && is_done o.answer then z else r.sizes };
    text = printed o;
  }

  handed_whole : outcome_of (in_arrays z a (handed r.state lent)) ≡ whole
  unfolding in_arrays handed
  handed_whole =
      ap (λ (s : State). record { answer = lent.answer; stores = lent.stores; state = s; device = give_back z a lent.device; buffer = lent.buffer })
      (handed_view (allowance f) (call_of z f) r.state (lend z a))

  left_called : left whole ≡ called_line z format (recorder_of r a.flash a.spare a.disk) f
  unfolding called_line settled
  left_called = rw (printed_alike lent.answer lent.stores lent.buffer lent.state lent.state (give_back z a lent.device) lent.device)

  left_seen : (h : Handed) → left (outcome_of h) ≡ left (outcome_of (seen h))
  unfolding seen
  left_seen h = let o = h.outcome in rw (printed-seen o.answer o.stores h.buffer (view_of o.state) h.device)

  module _ (h : Handed) (m : seen h ≡ seen (in_arrays z a (handed r.state lent))) where
    pub line_called : (p : PrintedStruct) (out : List ℕ)
        → p.recorder ≡ after r z h.outcome.state (format && is_done h.outcome.answer)
        → take p.length out ≡ printed (outcome_of (handed_back (device [] [] []) h.buffer h.outcome))
        → printed_of p h.device.flash h.device.spare h.device.disk out ≡ called_line z format (recorder_of r a.flash a.spare a.disk) f
    line_called p out q t =
        let o = h.outcome in
        rw (q, t, printed_alike o.answer o.stores h.buffer (view_of o.state) (view_of o.state) (device [] [] []) h.device)
        (left_seen h ∙ ap (λ (g : Handed). left (outcome_of g)) m ∙ sym (left_seen (in_arrays z a (handed r.state lent))) ∙ ap left handed_whole ∙ left_called)

    pub line_stores : h.outcome.stores ≤ allowance f
    unfolding in_arrays seen handed
    line_stores = omega (arith, ap (λ (g : Handed). g.outcome.stores) m, stores_within (allowance f) (call_of z f) (view_of r.state) (lend z a))

    pub line_room_lem : h.outcome.answer ≡ Done → length (lent_buffer (call_of z f)) ≤ disk_size z
    unfolding in_arrays seen handed lend
    line_room_lem e =
        omega (arith, done_room (allowance f) (call_of z f) (view_of r.state) (lend z a) (sym (ap (λ (g : Handed). g.outcome.answer) m) ∙ e), length-take (disk_size z) a.disk)
