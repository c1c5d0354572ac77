-- What a request says of the line that asks for it.
use mathlib.Core.Path.{◌≡◌, refl, ap, ◌∙◌}
use mathlib.Core.Bool.{Bool, true, false}
use mathlib.Core.List.{List, []}
use Prim.Native.Nat.{ℕ, ◌+◌, ◌<◌}
use native.Mathlib.Omega.{arith}
use lib.ListN.{length, take, drop}
use lib.Dec.{eqb}
use Rattle.std.specs.Prelude.{if◌then◌else◌}
use Rattle.lists.specs.Lists.{all}
use Rattle.model.specs.declared.Sizes.{Sizes}
use Rattle.model.specs.Sizes.{Device}
use Rattle.model.specs.Spare.{two}
use Rattle.model.specs.Calls.{lent_buffer, call}
use Rattle.model.specs.Driving.{is_digit, bytes_of, operation, allowance, call_of}
use Rattle.model.proofs.Digits.{byte_small}
use Rattle.state.specs.declared.State.{State}
use Rattle.state.specs.View.{view_of}
use Rattle.outcome.specs.declared.Outcome.{Outcome}
use Rattle.outcome.specs.Handed.{Handed, handed_back, handed}
use Rattle.frame.specs.declared.Request.{Request}
use Rattle.frame.specs.declared.Request.TheVariants.{Format, Read, Write, Erase, Drain, Recover}
use Rattle.frame.specs.Request.{format_from, read_from, write_from, bare_from, frame_request}
use Rattle.frame.proofs.Meaning.{call_from, allowance_of, frame_call, frame_allowance}
use Rattle.calls.specs.declared.Made.{Made}
use Rattle.calls.specs.Arrays.{seen}
use Rattle.calls.specs.Framed.{Framed}

-- the fields that are two bytes wide
pub two_small : (line : List ℕ) (i : ℕ) → all is_digit line ≡ true → two (bytes_of line) i < 65536
unfolding two
two_small line i e = omega (arith, byte_small line i e, byte_small line (i + 1) e)

-- the fields of a read or a write that stand in narrower numbers, and how many the data of a write are
abbrev pub Narrow : List ℕ → Request → Type 0
Narrow f (Format n sizes) = Unit {0}
Narrow f (Read n b off len) = (b < 65536) × (len < 65536)
Narrow f (Write n b off placed) = (b < 65536) × (placed.length ≡ length (drop placed.at f))
Narrow f (Erase n) = Unit {0}
Narrow f (Drain n) = Unit {0}
Narrow f (Recover n) = Unit {0}

frame_narrow : (f : List ℕ) → ((i : ℕ) → two f i < 65536) → Narrow f (frame_request f)
unfolding frame_request format_from read_from write_from bare_from
frame_narrow f h = go (eqb (operation f) 1) (eqb (operation f) 2) (eqb (operation f) 3) (eqb (operation f) 4) (eqb (operation f) 5)
  where
    go : (t u v w s : Bool) → Narrow f
        (if t then format_from (allowance f) f
        else (if u then read_from (allowance f) f
        else (if v then write_from (allowance f) f
        else (if w then Erase (allowance f)
        else (if s then Drain (allowance f) else Recover (allowance f))))))
    go true u v w s = tt
    go false true v w s = (h 3, h 7)
    go false false true w s = (h 3, refl)
    go false false false true s = tt
    go false false false false true = tt
    go false false false false false = tt

module _ (line : List ℕ) {r q : Request} (framed : Framed r line) (e : q ≡ r) where
  asks : q ≡ frame_request (bytes_of line)
  asks = e ∙ framed.asks

  asked_call : (z : Sizes) → call_from z (bytes_of line) q ≡ call_of z (bytes_of line)
  asked_call z = ap (call_from z (bytes_of line)) asks ∙ frame_call (bytes_of line) z

  asked_allowance : allowance_of q ≡ allowance (bytes_of line)
  asked_allowance = ap allowance_of asks ∙ frame_allowance (bytes_of line)

  pub asked_narrow : Narrow (bytes_of line) q
  asked_narrow = rw asks (frame_narrow (bytes_of line) (λ i. two_small line i framed.digits))

  -- what an entry hands back of the request's call is what the line's call gives
  pub asked_made : (z : Sizes) (s : State) (d : Device) {n : ℕ} {h : Handed} → n ≡ length (lent_buffer (call_from z (bytes_of line) q))
      → h ≡ seen (handed s (call (allowance_of q) (call_from z (bytes_of line) q) (view_of s) d))
      → (h ≡ seen (handed s (call (allowance (bytes_of line)) (call_of z (bytes_of line)) (view_of s) d))) × (n ≡ length (lent_buffer (call_of z (bytes_of line))))
  asked_made z s d l m = (m ∙ rw (asked_call z, asked_allowance), l ∙ rw (asked_call z))

  -- a call that reads nothing hands back none of the lent buffer
  pub unread_made : (z : Sizes) (s : State) (d after : Device) (buffer : List ℕ) {m : Made} {o : Outcome} → (m.outcome ≡ o) × (m.read ≡ 0) → 0 ≡ length (lent_buffer (call_from z (bytes_of line) q))
      → handed_back after [] o ≡ handed s (call (allowance_of q) (call_from z (bytes_of line) q) (view_of s) d)
      → (seen (handed_back after (take m.read buffer) m.outcome) ≡ seen (handed s (call (allowance (bytes_of line)) (call_of z (bytes_of line)) (view_of s) d)))
      × (m.read ≡ length (lent_buffer (call_of z (bytes_of line))))
  unread_made z s d after buffer un l h = rw (un.0, un.1) (asked_made z s d l (ap seen h))
