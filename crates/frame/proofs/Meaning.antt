-- What a line's request says of the line, in the definitions' terms: whether the line fits, the call, its allowance.
use mathlib.Core.Path.{◌≡◌, refl, ◌∙◌}
use mathlib.Core.Bool.{Bool, true, false}
use mathlib.Core.List.{List}
use Prim.Native.Nat.{ℕ}
use lib.ListN.{drop, replicate}
use lib.Dec.{eqb}
use Rattle.std.specs.Prelude.{if◌then◌else◌, Some, None}
use Rattle.model.specs.declared.Sizes.{Sizes}
use Rattle.model.specs.Calls.{Call, format_call, read_call, write_call, erase_call, drain_call, recover_call}
use Rattle.model.specs.Driving.{bytes_of, operation, allowance, line_fits, call_of}
use Rattle.frame.specs.declared.Request.{Request}
use Rattle.frame.specs.declared.Request.TheVariants.{Format, Read, Write, Erase, Drain, Recover}
use Rattle.frame.specs.Request.{format_from, read_from, write_from, bare_from, frame_request, request_of, is_format}

-- the call, at the sizes of the last Done format, of a frame with a write's data
unfoldable pub call_from : Sizes → List ℕ → Request → Call
call_from z f (Format n sizes) = format_call sizes
call_from z f (Read n b off len) = read_call b off (replicate len 0)
call_from z f (Write n b off placed) = write_call b off (drop placed.at f)
call_from z f (Erase n) = erase_call
call_from z f (Drain n) = drain_call
call_from z f (Recover n) = recover_call z

unfoldable pub allowance_of : Request → ℕ
allowance_of (Format n sizes) = n
allowance_of (Read n b off len) = n
allowance_of (Write n b off placed) = n
allowance_of (Erase n) = n
allowance_of (Drain n) = n
allowance_of (Recover n) = n

-- ---- a frame's request

-- the first whose test holds, or the last
abbrev chosen : {A : Type 0} → (t u v w s : Bool) → (a b c d e f : A) → A
chosen t u v w s a b c d e f = if t then a else (if u then b else (if v then c else (if w then d else (if s then e else f))))

through : {A B : Type 0} (g : A → B) (t u v w s : Bool) (a b c d e f : A)
    → g (chosen t u v w s a b c d e f) ≡ chosen t u v w s (g a) (g b) (g c) (g d) (g e) (g f)
through g true u v w s a b c d e f = refl
through g false true v w s a b c d e f = refl
through g false false true w s a b c d e f = refl
through g false false false true s a b c d e f = refl
through g false false false false true a b c d e f = refl
through g false false false false false a b c d e f = refl

alike : {A : Type 0} (t u v w s : Bool) (a : A) → chosen t u v w s a a a a a a ≡ a
alike true u v w s a = refl
alike false true v w s a = refl
alike false false true w s a = refl
alike false false false true s a = refl
alike false false false false true a = refl
alike false false false false false a = refl

first : (t u v w s : Bool) → chosen t u v w s true false false false false false ≡ t
first true u v w s = refl
first false u v w s = alike false u v w s false

module _ (f : List ℕ) where
  abbrev is : ℕ → Bool
  is n = eqb (operation f) n

  -- what is said of a request is said of each that the frame may ask for
  each : {B : Type 0} (g : Request → B)
      → g (frame_request f)
      ≡ chosen (is 1) (is 2) (is 3) (is 4) (is 5)
      (g (format_from (allowance f) f))
      (g (read_from (allowance f) f))
      (g (write_from (allowance f) f))
      (g (Erase (allowance f)))
      (g (Drain (allowance f)))
      (g (Recover (allowance f)))
  unfolding frame_request bare_from
  each g = through g (is 1) (is 2) (is 3) (is 4) (is 5) _ _ _ _ _ _

  pub frame_call : (z : Sizes) → call_from z f (frame_request f) ≡ call_of z f
  unfolding call_from call_of format_from read_from write_from
  frame_call z = each (call_from z f)

  pub frame_allowance : allowance_of (frame_request f) ≡ allowance f
  unfolding allowance_of format_from read_from write_from
  frame_allowance = each allowance_of ∙ alike (is 1) (is 2) (is 3) (is 4) (is 5) (allowance f)

  pub frame_format : is_format (frame_request f) ≡ eqb (operation f) 1
  unfolding is_format format_from read_from write_from
  frame_format = each is_format ∙ first (is 1) (is 2) (is 3) (is 4) (is 5)

-- a line with a request fits, and asks what its frame asks
pub line_asks : (line : List ℕ) {q : Request} → Some q ≡ request_of line → (line_fits line ≡ true) × (q ≡ frame_request (bytes_of line))
unfolding request_of
line_asks line {q} e = go (line_fits line) e
  where
    go : (t : Bool) → Some q ≡ (if t then Some (frame_request (bytes_of line)) else None) → (t ≡ true) × (q ≡ frame_request (bytes_of line))
    go true k = (refl, cc)
    go false k = (cc, cc)

-- one without does not
pub line_bad : (line : List ℕ) → None ≡ request_of line → line_fits line ≡ false
unfolding request_of
line_bad line e = go (line_fits line) e
  where
    go : (t : Bool) → None ≡ (if t then Some (frame_request (bytes_of line)) else None) → t ≡ false
    go true k = cc
    go false k = refl
