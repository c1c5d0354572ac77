-- Recovery's plan, carried out in two stages: its erases, and the units on the chip that they leave.
use Prim.Native.Nat.{ℕ, ◌+◌, ◌≤◌}
use mathlib.Core.Path.{◌≡◌, refl, sym, ap, fun_ext, ◌∙◌}
use mathlib.Core.Bool.{true, false}
use mathlib.Core.List.{List, [], map}
use Rattle.lists.proofs.Tests.{every_at}
use Rattle.model.specs.declared.Sizes.{Sizes}
use Rattle.model.specs.declared.Answer.{Answer}
use Rattle.model.specs.declared.Answer.TheVariants.{Done}
use Rattle.model.specs.Sizes.{Device}
use Rattle.model.specs.Stores.{Store, erase, tag_of, apply_all}
use Rattle.model.specs.Image.{body_fits}
use Rattle.model.specs.Ledger.{ledger_tag, entries_fit, recoverable}
use Rattle.model.specs.State.{State, entry_epoch, top_epoch}
use Rattle.model.specs.Steps.{Plan}
use Rattle.model.specs.Recover.{rebuilt, swept, recover}
use Rattle.model.specs.Calls.{recover_call, sizes_of, done_answer, lent_buffer, read_buffer, carry_out}
use Rattle.model.proofs.Limits.{Limits}
use Rattle.model.proofs.Frames.{Lengths}
use Rattle.image.specs.Chip.{spare_only}
use Rattle.image.proofs.SameSpare.{same-epoch}
use Rattle.rules.proofs.SameSpare.{same-body-fits}
use Rattle.meter.specs.declared.Meter.{Meter}
use Rattle.meter.specs.Run.{Run, fresh, run_all}
use Rattle.meter.proofs.Runs.{run_append, run_left, run_stopped, run_made}
use Rattle.state.specs.declared.State.{State as Struct}
use Rattle.steps.specs.Turns.{Progress, after}
use Rattle.outcome.specs.Handed.{handed_back, handed, cut_short, finished}
use Rattle.outcome.proofs.Ends.{handed_quiet}
use Rattle.classes.proofs.SameSpare.{same_state}
use Rattle.rescue.specs.Sources.{rescues}
use Rattle.recover.specs.Stages.{rebuilding}
use Rattle.recover.proofs.Swept.{swept-fits}

module _ (z : Sizes) (d : Device) where
  -- the spare bytes alone say which epochs stand on the chip
  same_top : top_epoch z (spare_only d.spare) ≡ top_epoch z d
  unfolding top_epoch entry_epoch ledger_tag tag_of
  same_top = rw (fun_ext (same-epoch z d))

  pub entries_found : recoverable z d ≡ true → entries_fit z d ≡ true
  unfolding recoverable
  entries_found h = every_at _ h 2

-- ---- the units

module _ (z : Sizes) (next : ℕ) (r : Run) where
  planned : rescues z r.device ≡ (rebuilt z r.device next).stores
  unfolding rescues rebuilt
  planned = refl

  pub rebuilt_reached : {q : Run} → q ≡ run_all z (rescues z r.device) r → record { run = q; state = (rebuilt z (spare_only r.device.spare) next).state } ≡ rebuilding z next r
  unfolding rebuilding
  rebuilt_reached e = rw (e, planned, same_state z r.device next)

-- ---- the erases, and then the units or nothing

finished_cut : (m : Meter) (n : ℕ) (full : Answer) (old : Struct) (new : State) → m.cut ≡ true → finished m n full old new ≡ cut_short m n old
unfolding finished
finished_cut m n full old new h = rw h

module _ (n : ℕ) (s : Struct) (v : State) (z : Sizes) (d : Device) {r : Run} (e : r ≡ run_all z (map erase (swept z d)) (fresh d n)) where
  abbrev erases : List Store
  erases = map erase (swept z d)

  abbrev rest : Plan
  rest = rebuilt z (apply_all z d erases) (top_epoch z d + 1)

  pub swept_left : r.meter.left ≤ n
  swept_left = rw e (run_left z erases (fresh d n))

  -- a cut among the erases
  pub stopped-handed : r.meter.cut ≡ true → handed_back r.device [] (cut_short r.meter n s) ≡ handed s (carry_out n (recover_call z) v d (recover z d))
  unfolding recover sizes_of done_answer lent_buffer read_buffer
  stopped-handed h =
      ap (handed_back r.device []) (sym (finished_cut r.meter n Done s rest.state h))
      ∙ handed_quiet n (recover_call z) s v d (recover z d) refl refl (e ∙ sym (run_stopped z erases rest.stores d n (sym (ap (λ (q : Run). q.meter.cut) e) ∙ h)))

  -- none
  module _ (h : r.meter.cut ≡ false) where
    swept_whole : r.device ≡ apply_all z d erases
    swept_whole = ap (λ (q : Run). q.device) e ∙ run_made z erases d n (sym (ap (λ (q : Run). q.meter.cut) e) ∙ h)

    pub body_left : Limits z → Lengths z d → recoverable z d ≡ true → body_fits z (spare_only r.device.spare) ≡ true
    body_left B L found = same-body-fits z r.device ∙ rw swept_whole (swept-fits z B d L found)

    pub whole_recovered : {p : Progress} → p ≡ rebuilding z (top_epoch z (spare_only d.spare) + 1) r → p ≡ after z (λ w x. recover z x) v (fresh d n)
    unfolding rebuilding after recover
    whole_recovered q = q
        ∙ ap (λ (t : ℕ). rebuilding z (t + 1) r) (same_top z d)
        ∙ ap (λ (x : Device). record { run = run_all z (rebuilt z x (top_epoch z d + 1)).stores r; state = (rebuilt z x (top_epoch z d + 1)).state }) swept_whole
        ∙ ap (λ (x : Run). record { run = x; state = rest.state }) (ap (run_all z rest.stores) e ∙ sym (run_append z erases rest.stores (fresh d n)))
