-- What a line's request says of the line.
use mathlib.Core.Path.{◌≡◌, refl, sym, ap, ◌∙◌}
use mathlib.Core.Bool.{Bool, true, false}
use mathlib.Core.List.{List}
use Prim.Native.Nat.{ℕ, ◌≤◌}
use native.Mathlib.Omega.{arith}
use borrow.Author.Tests.{eqb-true, leb-true}
use lib.ListN.{length, drop, replicate, length-replicate}
use lib.Dec.{eqb}
use Rattle.std.specs.Prelude.{if◌then◌else◌}
use Rattle.lists.specs.Lists.{all}
use Rattle.lists.proofs.Tests.{every_at}
use Rattle.model.specs.declared.Sizes.{Sizes}
use Rattle.model.specs.Spare.{two}
use Rattle.model.specs.Calls.{format_call, read_call, write_call, erase_call, drain_call, recover_call, lent_buffer}
use Rattle.model.specs.Driving.{is_digit, bytes_of, operation, allowance, format_sizes, line_fits, call_of}
use Rattle.model.proofs.Digits.{bytes_length}
use Rattle.frame.specs.declared.Request.{Request}
use Rattle.frame.specs.declared.Request.TheVariants.{Format, Read, Write, Erase, Drain, Recover}
use Rattle.frame.specs.Request.{frame_request, is_format}
use Rattle.frame.proofs.Asked.{format_asked}
use Rattle.frame.proofs.Fits.{fits_digits}
use Rattle.frame.proofs.Meaning.{frame_format}
use Rattle.calls.specs.Framed.{Framed}
use Rattle.calls.proofs.Asked.{two_small}
use Rattle.drive.specs.Asking.{unmade, sizes_asked}

module _ (line : List ℕ) {q : Request} (e : q ≡ frame_request (bytes_of line)) where
  -- a line is a format where its request is
  pub asked_operation : eqb (operation (bytes_of line)) 1 ≡ is_format q
  asked_operation = sym (frame_format (bytes_of line)) ∙ ap is_format (sym e)

  -- a line that fits is a frame with its request
  pub asked_framed : line_fits line ≡ true → Framed q line
  unfolding line_fits
  asked_framed fits = record {
    digits = fits_digits line fits;
    short = omega (arith, leb-true (length line) 512 (every_at _ fits 2), bytes_length line);
    asks = e;
  }

-- a format's sizes
pub asked_sizes : (line : List ℕ) (n : ℕ) (z : Sizes) → Format n z ≡ frame_request (bytes_of line) → (operation (bytes_of line) ≡ 1) × (z ≡ format_sizes (bytes_of line))
unfolding is_format
asked_sizes line n z e =
    let f = bytes_of line in
    let one : operation f ≡ 1 = eqb-true (operation f) 1 (asked_operation line e) in
    let same : Format n z ≡ Format (allowance f) (format_sizes f) = e ∙ format_asked f one in
    (one, cc)

-- a request that is no format
pub other_request : (t : Bool) (kept : Sizes) (q : Request) → ((n : ℕ) (z : Sizes) → q ≡ Format n z → ⊥)
    → (unmade t q ≡ (if t then 0 else 3)) × (sizes_asked q kept ≡ kept) × (is_format q ≡ false)
unfolding unmade sizes_asked is_format
other_request t kept (Format n z) f = absurd (f n z refl)
other_request t kept (Read n b off len) _ = (refl, refl, refl)
other_request t kept (Write n b off placed) _ = (refl, refl, refl)
other_request t kept (Erase n) _ = (refl, refl, refl)
other_request t kept (Drain n) _ = (refl, refl, refl)
other_request t kept (Recover n) _ = (refl, refl, refl)

-- the bytes that a line may read
pub read_short : (z : Sizes) (line : List ℕ) → all is_digit line ≡ true → length (lent_buffer (call_of z (bytes_of line))) ≤ 65535
unfolding call_of lent_buffer
read_short z line e =
    let op = operation (bytes_of line) in
    go (eqb op 1) (eqb op 2) (eqb op 3) (eqb op 4) (eqb op 5)
  where
    go : (t u v w s : Bool) → length (lent_buffer
        (if t then format_call (format_sizes (bytes_of line))
        else (if u then read_call (two (bytes_of line) 3) (two (bytes_of line) 5) (replicate (two (bytes_of line) 7) 0)
        else (if v then write_call (two (bytes_of line) 3) (two (bytes_of line) 5) (drop 7 (bytes_of line))
        else (if w then erase_call
        else (if s then drain_call else recover_call z)))))) ≤ 65535
    go true u v w s = omega arith
    go false true v w s = omega (arith, length-replicate {A = ℕ} (two (bytes_of line) 7) 0, two_small line 7 e)
    go false false true w s = omega arith
    go false false false true s = omega arith
    go false false false false true = omega arith
    go false false false false false = omega arith
