-- Numbers in bytes, high byte first.
use Rattle.std.specs.Prelude.{ℕ, zero, suc, ◌+◌, ◌*◌, ◌/◌, ◌%◌, ◌^◌, Bool, List, [], ◌∷◌, ◌++◌, get_or, ltb}

-- the number n in w bytes
unfoldable pub number_bytes : (w n : ℕ) → List ℕ
number_bytes zero n = []
number_bytes (suc w) n = number_bytes w (n / 256) ++ (n % 256 ∷ [])

-- the number that the first w bytes of l say
unfoldable pub number_in : (w : ℕ) → List ℕ → ℕ
number_in zero l = 0
number_in (suc w) l = number_in w l * 256 + get_or l w 0

-- the number has room in w bytes
unfoldable pub in_bytes : (w n : ℕ) → Bool
in_bytes w n = ltb n (256 ^ w)
