-- What stands beyond the program's buffer cannot change its output.
use mathlib.Core.Path.{◌≡◌, refl, ap}
use mathlib.Core.Bool.{Bool, true, false}
use mathlib.Core.List.{List, []}
use Prim.Native.Nat.{ℕ, ◌+◌, ◌*◌, ◌-◌, ◌≤◌}
use native.Mathlib.Omega.{arith}
use borrow.Author.Tests.{ne_eqb, eqb-true, lt-leb, leb-true, leb-false}
use lib.ListN.{length, take, drop, length-take, length-drop}
use lib.Seq.{take_all, take-take, get_or-take}
use lib.Dec.{leb, eqb}
use Rattle.std.specs.Prelude.{if◌then◌else◌}
use Rattle.lists.proofs.Arrays.{drop-take}
use Rattle.model.specs.declared.Sizes.{Sizes}
use Rattle.model.specs.Tests.{first_failed}
use Rattle.model.specs.Sizes.{flash_size, bucket_size}
use Rattle.model.specs.Driving.{bytes_of, sizes_at, lines_of, shown}
use Rattle.model.specs.Mail.{text_fault}
use Rattle.model.proofs.Limits.{limits_of}
use Rattle.geometry.proofs.Passed.{products}
use Rattle.rewrite.specs.Rewrite.{sizes_line, sizes_bytes, sizes_of, first_tests, rewritten_text, rewritten, LongInput}
use Rattle.rewrite.proofs.Few.{span, none_given}
use Rattle.rewrite.proofs.Long.{front_alike, faultless_short}
use Rattle.rewrite.proofs.Output.{in_limits, in_room}

-- the characters of a line for each page, and of one line more
abbrev lines_room : Sizes → ℕ
lines_room z = (z.c * z.p + 1) * (span z + 1)

-- a text behind the first line that is longer than these
module _ (z : Sizes) (text : List ℕ) (n : ℕ) (long : lines_room z ≤ n) (more : n ≤ length text) where
  faulty : text_fault z text ≡ 0 → ⊥
  unfolding text_fault lines_of
  faulty q = omega (arith, faultless_short z text (z.c * z.p) [] [] (none_given z) q)

  text_alike : (sizes : List ℕ) → rewritten_text z sizes (take n text) ≡ rewritten_text z sizes text
  unfolding rewritten_text text_fault lines_of
  text_alike sizes =
      let alike = front_alike z text n (z.c * z.p) [] [] (none_given z) (omega arith) in
      rw (alike.0, alike.1, ne_eqb (text_fault z text) 0 faulty)

-- an input that is longer than n bytes, which the first line is
module _ (input : List ℕ) (n : ℕ) (long : 19 ≤ n) (more : n ≤ length input) where
  front : take 18 (take n input) ≡ take 18 input
  front = take-take 18 n input (omega arith)

  line_alike : sizes_line (take n input) ≡ sizes_line input
  unfolding sizes_line
  line_alike = rw (front, get_or-take n input 18 0 (omega arith), lt-leb (length (take n input)) 18 (omega (arith, length-take n input)), lt-leb (length input) 18 (omega arith))

  bytes_alike : sizes_bytes (take n input) ≡ sizes_bytes input
  unfolding sizes_bytes
  bytes_alike = ap bytes_of front

  sizes_alike : sizes_of (take n input) ≡ sizes_of input
  unfolding sizes_of
  sizes_alike = ap (λ (bs : List ℕ). sizes_at bs 0) bytes_alike

  first_alike : first_failed (first_tests (take n input)) ≡ first_failed (first_tests input)
  unfolding first_tests
  first_alike = rw (line_alike, sizes_alike)

  front_enough : (first_failed (first_tests input) ≡ 0 → 19 + lines_room (sizes_of input) ≤ n) → rewritten (take n input) ≡ rewritten input
  unfolding rewritten
  front_enough room = rw (first_alike, sizes_alike, bytes_alike, drop-take 19 n input) (go (eqb (first_failed (first_tests input)) 0) refl)
    where
      go : (t : Bool) → eqb (first_failed (first_tests input)) 0 ≡ t
          → (if t then rewritten_text (sizes_of input) (sizes_bytes input) (take (n - 19) (drop 19 input)) else shown (first_failed (first_tests input)) 1 [])
          ≡ (if t then rewritten_text (sizes_of input) (sizes_bytes input) (drop 19 input) else shown (first_failed (first_tests input)) 1 [])
      go true q =
          let fits = room (eqb-true (first_failed (first_tests input)) 0 q) in
          text_alike (sizes_of input) (drop 19 input) (n - 19) (omega arith) (omega (arith, length-drop 19 input)) (sizes_bytes input)
      go false q = refl

whole : (input : List ℕ) (n : ℕ) → 19 ≤ n → (first_failed (first_tests input) ≡ 0 → 19 + lines_room (sizes_of input) ≤ n) → rewritten (take n input) ≡ rewritten input
whole input n long room = go (leb (length input) n) refl
  where
    go : (t : Bool) → leb (length input) n ≡ t → rewritten (take n input) ≡ rewritten input
    go true q = ap rewritten (take_all n input (leb-true (length input) n q))
    go false q = front_enough input n long (omega (arith, leb-false (length input) n q)) room

most_room : (input : List ℕ) → first_failed (first_tests input) ≡ 0 → 19 + lines_room (sizes_of input) ≤ 2738234
unfolding flash_size bucket_size
most_room input none =
    let l = limits_of (sizes_of input) (in_limits input none) in
    omega (arith, (products l).pages, l.s_high, in_room input none)

pub long_input : LongInput
unfolding LongInput
long_input input = whole input 2738234 (omega arith) (most_room input)
