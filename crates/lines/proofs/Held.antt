-- Bytes laid behind those that are held of a line.
use mathlib.Core.Path.{◌≡◌, sym, ap, ◌∙◌}
use mathlib.Core.List.{List, ◌++◌, append_assoc}
use Prim.Native.Nat.{ℕ, ◌+◌, ◌-◌, ◌<◌, ◌≤◌, min}
use native.Mathlib.Omega.{arith}
use native.Mathlib.Decide.{dec_lt}
use lib.ListN.{length, take, drop, length-append}
use lib.Seq.{take_at, take_all, take-append-add, length-take-le}
use Rattle.lists.specs.Lists.{splice}

module _ (line : List ℕ) (held : ℕ) where
  held_more : (bytes : List ℕ) → held + length bytes ≤ length line → take (held + length bytes) (splice line held bytes) ≡ take held line ++ bytes
  unfolding splice
  held_more bytes h =
      let e : length (take held line) ≡ held = length-take-le held line (omega arith) in
      let l : length (take held line ++ bytes) ≡ held + length bytes = length-append (take held line) bytes ∙ ap (λ (n : ℕ). n + length bytes) e in
      ap (take (held + length bytes)) (sym (append_assoc (take held line) bytes (drop (held + length bytes) line)))
      ∙ take_at (take held line ++ bytes) (drop (held + length bytes) line) (held + length bytes) l

  -- as many as there is room for
  pub held_cut : held ≤ length line → (bytes : List ℕ) (taken : ℕ) → taken ≡ min (length bytes) (length line - held)
      → take (held + taken) (splice line held (take taken bytes)) ≡ take (length line) (take held line ++ bytes)
  held_cut h bytes taken m =
      let e : length (take held line) ≡ held = length-take-le held line h in
      let k : length (take taken bytes) ≡ taken = length-take-le taken bytes (omega arith) in
      let f : length (take held line) + (length line - held) ≡ length line = omega arith in
      (rw k at (held_more (take taken bytes) (omega arith)))
      ∙ (ap (λ (l : List ℕ). take held line ++ l) (alike (dec_lt (length line - held) (length bytes))) ∙ sym (rw f at (take-append-add (take held line) bytes (length line - held))))
    where
      alike : Dec (length line - held < length bytes) → take taken bytes ≡ take (length line - held) bytes
      alike (yes s) = let e : taken ≡ length line - held = omega arith in rw e
      alike (no s) = rw (take_all taken bytes (omega arith), take_all (length line - held) bytes (omega arith))
