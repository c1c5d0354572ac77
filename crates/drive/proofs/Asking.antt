-- A line's request tells whether the line makes a call and at which sizes, or what is printed of it.
use mathlib.Core.Path.{◌≡◌, refl, sym, ap, ◌∙◌}
use mathlib.Core.Bool.{Bool, true, false, not}
use mathlib.Core.List.{List}
use Prim.Native.Nat.{ℕ}
use native.Mathlib.Omega.{arith}
use borrow.Author.Tests.{eq-eqb}
use Rattle.std.specs.Prelude.{Option, Some, None, MatchOption, is_some, Result, Ok, Err, if◌then◌else◌}
use Rattle.model.specs.declared.Refusal.{Refusal}
use Rattle.model.specs.Tests.{number}
use Rattle.model.specs.declared.Sizes.{Sizes}
use Rattle.model.specs.Sizes.{limits}
use Rattle.model.specs.Driving.{Recorder, bytes_of, operation, format_sizes, line_fits, too_large, no_call, format_line, call_line, on_line}
use Rattle.frame.specs.declared.Request.{Request}
use Rattle.frame.specs.declared.Request.TheVariants.{Format, Read, Write, Erase, Drain, Recover}
use Rattle.frame.specs.Request.{request_of, frame_request, is_format}
use Rattle.frame.proofs.Meaning.{line_asks, line_bad}
use Rattle.calls.specs.Arrays.{Held}
use Rattle.drive.specs.Recorder.{Ready, called_line}
use Rattle.drive.specs.Asking.{format_unmade, unmade, sizes_asked}
use Rattle.drive.proofs.Held.{held_sizes}
use Rattle.drive.proofs.Requests.{asked_operation, asked_sizes}
use Rattle.drive.proofs.Ways.{bad_line, format_asked, call_asked, limits_broken, beyond_arrays, format_called, unformatted, call_called}

-- ---- a call that is made is made at sizes that the arrays have room for

format_held : (z : Sizes) → format_unmade z ≡ 0 → Held z
unfolding format_unmade
format_held z = go (limits z) refl (too_large z) refl
  where
    go : (l : Bool) → limits z ≡ l → (t : Bool) → too_large z ≡ t → ◌≡◌ {A = ℕ} (if not l then 1 else (if t then 0xF1 else 0)) 0 → Held z
    go false h t g k = absurd (omega (arith, k))
    go true h true g k = absurd (omega (arith, k))
    go true h false g k = held_sizes z h g

module _ (t : Bool) (kept : Sizes) (ready : Ready t kept) where
  kept_held : ◌≡◌ {A = ℕ} (if t then 0 else 3) 0 → Held kept
  kept_held = go t refl
    where
      go : (u : Bool) → t ≡ u → ◌≡◌ {A = ℕ} (if u then 0 else 3) 0 → Held kept
      go true h k = ready h
      go false h k = absurd (omega (arith, k))

  pub asked_held : (q : Request) → unmade t q ≡ 0 → Held (sizes_asked q kept)
  unfolding unmade sizes_asked
  asked_held (Format n z) k = format_held z k
  asked_held (Read n b off len) k = kept_held k
  asked_held (Write n b off placed) k = kept_held k
  asked_held (Erase n) k = kept_held k
  asked_held (Drain n) k = kept_held k
  asked_held (Recover n) k = kept_held k

-- ---- what a line does

module _ (r : Recorder) (line : List ℕ) (fits : line_fits line ≡ true) where
  abbrev f : List ℕ
  f = bytes_of line

  -- no call is made, and the number is printed
  abbrev Unmade : Request → Type 0
  Unmade q = (unmade r.formatted q ≡ 0 → ⊥) → on_line r line ≡ no_call (unmade r.formatted q) r

  -- the call is made
  abbrev Made : Request → Type 0
  Made q = unmade r.formatted q ≡ 0 → on_line r line ≡ called_line (sizes_asked q r.sizes) (is_format q) r f

  module _ (n : ℕ) (z : Sizes) (e : Format n z ≡ frame_request f) where
    format_way : on_line r line ≡ format_line r f
    format_way = format_asked r line fits (eq-eqb (operation f) 1 (asked_sizes line n z e).0)

    format-unmade : Unmade (Format n z)
    unfolding unmade format_unmade
    format-unmade = go (limits z) refl (too_large z) refl
      where
        own : z ≡ format_sizes f
        own = (asked_sizes line n z e).1

        go : (l : Bool) → limits z ≡ l → (t : Bool) → too_large z ≡ t → Unmade (Format n z)
        go false h t g k = rw h (format_way ∙ limits_broken r f (ap limits (sym own) ∙ h))
        go true h true g k = rw (h, g) (format_way ∙ beyond_arrays r f (ap limits (sym own) ∙ h) (ap too_large (sym own) ∙ g))
        go true h false g k = absurd (k (rw (h, g)))

    format-made : Made (Format n z)
    unfolding unmade format_unmade sizes_asked is_format
    format-made = go (limits z) refl (too_large z) refl
      where
        own : z ≡ format_sizes f
        own = (asked_sizes line n z e).1

        go : (l : Bool) → limits z ≡ l → (t : Bool) → too_large z ≡ t → Made (Format n z)
        go false h t g k = absurd (omega (arith, rw h at k))
        go true h true g k = absurd (omega (arith, rw (h, g) at k))
        go true h false g k =
            format_way ∙ (format_called r f (asked_sizes line n z e).0 (ap limits (sym own) ∙ h) (ap too_large (sym own) ∙ g) ∙ ap (λ (y : Sizes). called_line y true r f) (sym own))

  -- the lines 02 to 06
  module _ (q : Request) (e : q ≡ frame_request f) (other : is_format q ≡ false) where
    call_way : on_line r line ≡ call_line r f
    call_way = call_asked r line fits (asked_operation line e ∙ other)

    call-unmade : (◌≡◌ {A = ℕ} (if r.formatted then 0 else 3) 0 → ⊥) → on_line r line ≡ no_call (if r.formatted then 0 else 3) r
    call-unmade = go r.formatted refl
      where
        go : (t : Bool) → r.formatted ≡ t → (◌≡◌ {A = ℕ} (if t then 0 else 3) 0 → ⊥) → on_line r line ≡ no_call (if t then 0 else 3) r
        go true h k = absurd (k refl)
        go false h k = call_way ∙ unformatted r f h

    call-made : ◌≡◌ {A = ℕ} (if r.formatted then 0 else 3) 0 → on_line r line ≡ called_line r.sizes false r f
    call-made = go r.formatted refl
      where
        go : (t : Bool) → r.formatted ≡ t → ◌≡◌ {A = ℕ} (if t then 0 else 3) 0 → on_line r line ≡ called_line r.sizes false r f
        go true h k = call_way ∙ call_called r f h
        go false h k = absurd (omega (arith, k))

  pub line_unmade : (q : Request) → q ≡ frame_request f → Unmade q
  unfolding unmade is_format
  line_unmade (Format n z) e = format-unmade n z e
  line_unmade (Read n b off len) e = call-unmade (Read n b off len) e refl
  line_unmade (Write n b off placed) e = call-unmade (Write n b off placed) e refl
  line_unmade (Erase n) e = call-unmade (Erase n) e refl
  line_unmade (Drain n) e = call-unmade (Drain n) e refl
  line_unmade (Recover n) e = call-unmade (Recover n) e refl

  pub line_made : (q : Request) → q ≡ frame_request f → Made q
  unfolding unmade sizes_asked is_format
  line_made (Format n z) e = format-made n z e
  line_made (Read n b off len) e = call-made (Read n b off len) e refl
  line_made (Write n b off placed) e = call-made (Write n b off placed) e refl
  line_made (Erase n) e = call-made (Erase n) e refl
  line_made (Drain n) e = call-made (Drain n) e refl
  line_made (Recover n) e = call-made (Recover n) e refl

-- ---- the same of what `asks` tells of a line's request, if it has one

-- number, sizes, and whether it is a format
abbrev pub Told : (t : Bool) (kept : Sizes) → Option Request → (n : ℕ) (z : Sizes) (format : Bool) → Type 0
Told t kept o n z format = MatchOption o ((n ≡ 0xF0) × (z ≡ kept) × (format ≡ false)) (λ q. (n ≡ unmade t q) × (z ≡ sizes_asked q kept) × (format ≡ is_format q))

-- no refusal is told
pub none_told : (r : Result (Unit {0}) Refusal) → ((e : Refusal) → r ≡ Err e → ⊥) → number r ≡ 0
none_told (Ok passed) h = refl
none_told (Err e) h = absurd (h e refl)

pub request_told : (t : Bool) (kept : Sizes) (o : Option Request) (n : ℕ) (z : Sizes) (format : Bool) → Told t kept o n z format → n ≡ 0 → is_some o ≡ true
request_told t kept (Some q) n z format told e = refl
request_told t kept None n z format told e = absurd (omega (arith, told.0, e))

module _ (r : Recorder) (line : List ℕ) where
  pub line_refused : (o : Option Request) → o ≡ request_of line → (n : ℕ) (z : Sizes) (format : Bool) → Told r.formatted r.sizes o n z format → (n ≡ 0 → ⊥)
      → on_line r line ≡ no_call n r
  line_refused None e n z format told k = bad_line r line (line_bad line e) ∙ ap (λ (n : ℕ). no_call n r) (sym told.0)
  line_refused (Some q) e n z format told k =
      let asks = line_asks line e in
      line_unmade r line asks.0 q asks.1 (λ none. k (told.0 ∙ none)) ∙ ap (λ (n : ℕ). no_call n r) (sym told.0)

  pub record Called (q : Request) (z : Sizes) (format : Bool) : Type 0 where
    pub asks : (line_fits line ≡ true) × (q ≡ frame_request (bytes_of line))
    pub held : Ready r.formatted r.sizes → Held z
    pub calls : on_line r line ≡ called_line z format r (bytes_of line)

  pub line_called : (o : Option Request) → o ≡ request_of line → (n : ℕ) (z : Sizes) (format : Bool) → Told r.formatted r.sizes o n z format → n ≡ 0
      → (q : Request) → o ≡ Some q → Called q z format
  line_called o e n z format told k q is =
      let own : Told r.formatted r.sizes (Some q) n z format = rw is at told in
      let asks = line_asks line (sym is ∙ e) in
      let none : unmade r.formatted q ≡ 0 = sym own.0 ∙ k in
      let made = line_made r line asks.0 q asks.1 none in
      record {
        asks = asks;
        held = λ ready. rw own.1 (asked_held r.formatted r.sizes ready q none);
        calls = made ∙ (ap (λ (y : Sizes). called_line y (is_format q) r (bytes_of line)) (sym own.1) ∙ ap (λ (t : Bool). called_line z t r (bytes_of line)) (sym own.2));
      }
