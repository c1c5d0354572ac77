-- A write's log in its place, and the write accepted.
use Prim.Native.Nat.{ℕ, ◌-◌}
use mathlib.Core.Path.{◌≡◌, sym, ◌∙◌}
use mathlib.Core.Logic.{◌⊎◌, inl, inr}
use mathlib.Core.Bool.{true, false, ◌&&◌}
use mathlib.Core.List.{List}
use native.Mathlib.Omega.{arith}
use lib.ListN.{length}
use lib.Dec.{leb}
use Rattle.lists.proofs.Tests.{true_or_false}
use Rattle.model.specs.declared.Sizes.{Sizes}
use Rattle.model.specs.Sizes.{Device, pages_for}
use Rattle.model.specs.Spare.{write_kind}
use Rattle.model.specs.Image.{blanks, epoch_of}
use Rattle.model.specs.State.{State, holds, cache_of, blank_of}
use Rattle.model.specs.Steps.{◌then◌, make_room, log_stores}
use Rattle.model.specs.Operations.{accept, take_write, fits, append_log, start_log}
use Rattle.image.specs.Chip.{spare_only}
use Rattle.image.proofs.SameSpare.{same-blanks, same-epoch}
use Rattle.meter.specs.Run.{Run, run_all}
use Rattle.state.specs.View.{Bounded}
use Rattle.state.proofs.Bounds.{take-write_bounded}
use Rattle.steps.specs.Turns.{after}
use Rattle.steps.specs.Ready.{Ready}
use Rattle.steps.proofs.Kept.{Roomed}
use Rattle.copying.specs.Fresh.{room_of, fresh_stores}
use Rattle.copying.proofs.Copied.{fresh_by}
use Rattle.arrival.specs.Arrives.{kept_fits, Starts}

-- the kept count decides
pub kept_fits_lem : (z : Sizes) (d : Device) (b n : ℕ) (s : State) → (holds b s.writes ≡ true → blanks z (spare_only d.spare) (cache_of b s.writes) ≡ blank_of b s.writes) → kept_fits b n s ≡ fits z d b n s
unfolding kept_fits fits
kept_fits_lem z d b n s count = go (true_or_false (holds b s.writes))
  where
    go : (holds b s.writes ≡ true) ⊎ (holds b s.writes ≡ false) → holds b s.writes && leb n (blank_of b s.writes) ≡ (holds b s.writes && leb n (blanks z d (cache_of b s.writes)))
    go (inl h) = rw (sym (count h) ∙ same-blanks z d (cache_of b s.writes))
    go (inr h) = rw h

pub appended_by : (z : Sizes) (b off : ℕ) (bytes : List ℕ) (s : State) (r : Run) → blanks z (spare_only r.device.spare) (cache_of b s.writes) ≡ blank_of b s.writes → (w left e pages : ℕ)
    → w ≡ cache_of b s.writes → left ≡ blank_of b s.writes → e ≡ epoch_of z (spare_only r.device.spare) w → pages ≡ pages_for z (length bytes)
    → record { run = run_all z (log_stores z w (z.p - left) write_kind e b off bytes) r; state = accept b (left - pages) s } ≡ after z (append_log z b off bytes) s r
unfolding after append_log
appended_by z b off bytes s r count w left e pages is-bucket is-left is_epoch is-pages =
    rw (is-pages, is_epoch ∙ same-epoch z r.device w, is-left ∙ sym count ∙ same-blanks z r.device (cache_of b s.writes), is-bucket)

pub started_by : (z : Sizes) (s : State) (r : Run) → Ready s → (b off : ℕ) (bytes : List ℕ) (pages : ℕ) {run : Run} {t : State}
    → run ≡ run_all z (fresh_stores z r.device (room_of s) write_kind b off bytes) r → t ≡ (make_room z s r.device).state → pages ≡ pages_for z (length bytes)
    → record { run = run; state = accept b (z.p - pages) (take_write b t) } ≡ after z (make_room z then start_log z b off bytes) s r
unfolding start_log
started_by z s r ready b off bytes pages e h is-pages =
    rw is-pages (fresh_by z s r (λ t. accept b (z.p - pages_for z (length bytes)) (take_write b t)) ready write_kind b off bytes e h)

pub arrival_bounded : {s t : State} {n : ℕ} (b : ℕ) → Starts s n → Roomed s t → Bounded (take_write b t)
arrival_bounded {s} {t} b starts r =
    take-write_bounded t r.orderly.bounded b r.some (rw r.writes starts.place) (omega (arith, r.next, starts.fresh.epoch))
