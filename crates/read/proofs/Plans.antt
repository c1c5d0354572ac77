-- A read's plan, by what it hits, and its outcome.
use Prim.Native.Nat.{ℕ, ◌+◌, ◌*◌, ◌≤◌}
use mathlib.Core.Path.{◌≡◌, refl, sym, ap, ◌∙◌}
use mathlib.Core.Bool.{Bool, true, false, ◌||◌, true≢false}
use mathlib.Core.List.{List}
use native.Mathlib.Omega.{arith}
use lib.ListN.{length}
use lib.Dec.{ltb}
use borrow.Author.Tests.{ltb-false}
use Rattle.std.specs.Prelude.{if◌then◌else◌}
use Rattle.lists.specs.Lists.{part}
use Rattle.lists.proofs.Parts.{length_part}
use Rattle.model.specs.declared.Sizes.{Sizes}
use Rattle.model.specs.Sizes.{Device, bucket_size}
use Rattle.model.specs.Stores.{bucket_bytes}
use Rattle.model.specs.State.{State}
use Rattle.model.specs.Steps.{Step, nothing, move, merged}
use Rattle.model.specs.Operations.{last_epoch, touch, is_current, read_copy, read}
use Rattle.model.specs.declared.Answer.TheVariants.{Done}
use Rattle.model.specs.Calls.{read_call, sizes_of, done_answer, lent_buffer, read_buffer, carry_out}
use Rattle.meter.specs.Run.{fresh}
use Rattle.state.specs.declared.State.{State as Struct}
use Rattle.state.specs.View.{places_of}
use Rattle.steps.specs.Turns.{Progress, after}
use Rattle.outcome.specs.Handed.{handed_back, handed, finished}
use Rattle.outcome.proofs.Ends.{handed_run}

neither : (t u : Bool) → (t || u) ≡ false → t ≡ false
neither true u h = h
neither false u h = refl

-- where a copy is made, epochs are left
pub epochs_left : (b : ℕ) (s : State) → (ltb last_epoch s.next || is_current b s) ≡ false → s.next ≤ last_epoch
epochs_left b s h = ltb-false last_epoch s.next (neither (ltb last_epoch s.next) (is_current b s) h)

module _ (z : Sizes) (d : Device) (b : ℕ) (s : State) where
  pub read_stays : (ltb last_epoch s.next || is_current b s) ≡ true → read z b s d ≡ nothing (if ltb last_epoch s.next then s else touch b s) d
  unfolding read move
  read_stays = at (ltb last_epoch s.next) (is_current b s)
    where
      at : (l c : Bool) → (l || c) ≡ true → (if l then nothing s d else (if c then nothing (touch b s) d else read_copy z b (merged z s d b) s d)) ≡ nothing (if l then s else touch b s) d
      at true c h = refl
      at false true h = refl
      at false false h = absurd (true≢false (sym h))

  pub read_copies : (ltb last_epoch s.next || is_current b s) ≡ false → read z b s d ≡ read_copy z b (merged z s d b) s d
  unfolding read move
  read_copies = at (ltb last_epoch s.next) (is_current b s)
    where
      at : (l c : Bool) → (l || c) ≡ false → (if l then nothing s d else (if c then nothing (touch b s) d else read_copy z b (merged z s d b) s d)) ≡ read_copy z b (merged z s d b) s d
      at true c h = absurd (true≢false h)
      at false true h = absurd (true≢false h)
      at false false h = refl

-- from the run that asked for all stores of a step
module _ (n : ℕ) (s : Struct) (d : Device) (step : Step) {q : Progress} (e : q ≡ after s.sizes step (places_of s) (fresh d n)) where
  -- what a read hands back, whose buffer shows the bytes unless it was cut
  pub handed-read : (b off : ℕ) (buffer : List ℕ) {shown : List ℕ} → shown ≡ (if q.run.meter.cut then buffer else part (merged s.sizes (places_of s) d b) off (length buffer))
      → handed_back q.run.device shown (finished q.run.meter n Done s q.state) ≡ handed s (carry_out n (read_call b off buffer) (places_of s) d (step (places_of s) d))
  unfolding after sizes_of done_answer lent_buffer read_buffer
  handed-read b off buffer h =
      rw (h, ap (λ (t : Progress). t.state) e) (handed_run n (read_call b off buffer) s (places_of s) d (step (places_of s) d) {r = q.run} (ap (λ (t : Progress). t.run) e))

-- bytes that are shown unless the read was cut
pub shown : (cut : Bool) {p q : List ℕ} → (cut ≡ false → p ≡ q) → (buffer : List ℕ) (off n : ℕ) {after : List ℕ}
    → after ≡ (if cut then buffer else part p off n) → after ≡ (if cut then buffer else part q off n)
shown true h buffer off n e = e
shown false h buffer off n e = e ∙ ap (λ (l : List ℕ). part l off n) (h refl)

-- a bucket that shows a whole one's bytes is on the chip
pub shown_inside : (z : Sizes) (d : Device) (c : ℕ) {bytes : List ℕ} → bucket_bytes z d c ≡ bytes → length bytes ≡ bucket_size z → 1 ≤ bucket_size z
    → c * bucket_size z + bucket_size z ≤ length d.flash
unfolding bucket_bytes
shown_inside z d c e size some = omega (arith, ap length e, size, length_part d.flash (c * bucket_size z) (bucket_size z))
