-- The spare bytes of a page as two numbers: numbers that are the same have the same bytes.
use mathlib.Core.Path.{◌≡◌, sym, ◌∙◌}
use mathlib.Core.Logic.{⊎_elim}
use mathlib.Core.List.{List}
use Prim.Native.Nat.{ℕ, zero, suc, ◌+◌, ◌-◌, ◌*◌, ◌≤◌, ◌<◌}
use native.Mathlib.Omega.{arith}
use lib.ListN.{get_or}
use lib.Dec.{ltb}
use borrow.Author.Tests.{ltb-true, ltb-false}
use Rattle.lists.specs.Lists.{part}
use Rattle.lists.proofs.Tests.{true_or_false}
use Rattle.lists.proofs.Parts.{get_d_part}
use Rattle.model.specs.Spare.{ordinal}
use Rattle.rules.specs.Pages.{low_first}

-- numbers that are the same have the same bytes
digits : (a b c d : ℕ) → a * 256 + b ≡ c * 256 + d → b < 256 → d < 256 → (a ≡ c) × (b ≡ d)
digits a b c d e h g = (omega arith, omega arith)

module _ (l : List ℕ) (bytes : (i : ℕ) → get_or l i 0 < 256) where
  low_same : (i j n : ℕ) → low_first l i n ≡ low_first l j n → (k : ℕ) → k < n → get_or l (i + k) 0 ≡ get_or l (j + k) 0
  unfolding low_first
  low_same i j zero e k h = absurd (omega arith)
  low_same i j (suc n) e zero h =
      let a : i + 0 ≡ i = omega arith in
      let b : j + 0 ≡ j = omega arith in
      rw (a, b) (digits _ _ _ _ e (bytes i) (bytes j)).1
  low_same i j (suc n) e (suc k) h =
      let a : i + suc k ≡ i + 1 + k = omega arith in
      let b : j + suc k ≡ j + 1 + k = omega arith in
      rw (a, b) (low_same (i + 1) (j + 1) n (digits _ _ _ _ e (bytes i) (bytes j)).0 k (omega arith))

  -- an ordinal more by one: the first byte, the second, and the six behind them
  low_next : (i j : ℕ) → get_or l (j + 1) 0 + 1 < 256 → low_first l i 8 ≡ low_first l j 8 + 256
      → (get_or l i 0 ≡ get_or l j 0) × (get_or l (i + 1) 0 ≡ get_or l (j + 1) 0 + 1) × (low_first l (i + 1 + 1) 6 ≡ low_first l (j + 1 + 1) 6)
  unfolding low_first
  low_next i j h e =
      let a = digits (low_first l (i + 1) 7) (get_or l i 0) (low_first l (j + 1) 7 + 1) (get_or l j 0) (omega (arith, e)) (bytes i) (bytes j) in
      let b = digits (low_first l (i + 1 + 1) 6) (get_or l (i + 1) 0) (low_first l (j + 1 + 1) 6) (get_or l (j + 1) 0 + 1) (omega (arith, a.0)) (bytes (i + 1)) h in
      (a.1, b.1, b.0)

  six_below : (i : ℕ) → low_first l i 6 < 281474976710656
  unfolding low_first
  six_below i = omega (arith, bytes i, bytes (i + 1), bytes (i + 1 + 1), bytes (i + 1 + 1 + 1), bytes (i + 1 + 1 + 1 + 1), bytes (i + 1 + 1 + 1 + 1 + 1))

  -- the next ordinal does not leave its byte
  pub next_below : (i : ℕ) → get_or l (i + 1) 0 + 1 < 256 → low_first l i 8 + 256 < 18446744073709551616
  unfolding low_first
  next_below i h = omega (arith, bytes i, six_below (i + 1 + 1))

  -- the page that starts at an index, and the page behind it
  module _ (at : ℕ) (less : get_or l (at + 1) 0 + 1 < 256) (first : low_first l (at + 16) 8 ≡ low_first l at 8 + 256)
      (second : low_first l (at + 16 + 8) 8 ≡ low_first l (at + 8) 8) where
    start : (get_or l (at + 16) 0 ≡ get_or l at 0) × (get_or l (at + 16 + 1) 0 ≡ get_or l (at + 1) 0 + 1) × (low_first l (at + 16 + 1 + 1) 6 ≡ low_first l (at + 1 + 1) 6)
    start = low_next (at + 16) at less first

    pub next_ordinal : ordinal (part l (at + 16) 16) ≡ ordinal (part l at 16) + 1
    unfolding ordinal
    next_ordinal = rw (get_d_part l (at + 16) 16 1 (omega arith), get_d_part l at 16 1 (omega arith)) start.1

    byte : (k : ℕ) → k < 16 → (k ≡ 1 → ⊥) → get_or l (at + 16 + k) 0 ≡ get_or l (at + k) 0
    byte zero h n =
        let a : at + 16 + 0 ≡ at + 16 = omega arith in
        let b : at + 0 ≡ at = omega arith in
        rw (a, b) start.0
    byte (suc zero) h n = absurd (n (omega arith))
    byte (suc (suc k)) h n = ⊎_elim
        (λ t. let a : at + 16 + suc (suc k) ≡ at + 16 + 1 + 1 + k = omega arith in
        let b : at + suc (suc k) ≡ at + 1 + 1 + k = omega arith in
        rw (a, b) (low_same (at + 16 + 1 + 1) (at + 1 + 1) 6 start.2 k (ltb-true _ _ t)))
        (λ t. let g : 6 ≤ k = ltb-false _ _ t in
        let a : at + 16 + suc (suc k) ≡ at + 16 + 8 + (k - 6) = omega (arith, g) in
        let b : at + suc (suc k) ≡ at + 8 + (k - 6) = omega (arith, g) in
        rw (a, b) (low_same (at + 16 + 8) (at + 8) 8 second (k - 6) (omega (arith, h))))
        (true_or_false (ltb k 6))

    -- the ordinal and the pages of its log
    pub next_bytes : (get_or l (at + 16 + 1) 0 ≡ get_or l (at + 1) 0 + 1) × (get_or l (at + 16 + 2) 0 ≡ get_or l (at + 2) 0)
    next_bytes = (start.1, byte 2 (omega arith) (λ e. omega arith))

    pub same_byte : (k : ℕ) → k < 16 → (k ≡ 1 → ⊥) → get_or (part l at 16) k 0 ≡ get_or (part l (at + 16) 16) k 0
    same_byte k h n = get_d_part l at 16 k h ∙ (sym (byte k h n) ∙ sym (get_d_part l (at + 16) 16 k h))
