-- Sizes: limits and lengths. Chip and disk, and where pages and units lie.
use Rattle.std.specs.Prelude.{ℕ, ◌+◌, ◌-◌, ◌*◌, ◌/◌, Bool, List, [], ◌∷◌, length, leb, eqb}
use Rattle.lists.specs.Lists.{every, within}
use Rattle.model.specs.declared.Sizes.{Sizes}

-- The chip's data bytes, its spare areas, and the disk.
pub record Device : Type 0 where
  pub flash : List ℕ
  pub spare : List ℕ
  pub disk : List ℕ

-- "Limits: S 4 to 1,024, P 1 to 64, C 3 to 256, B 1 to 65,535, R and W 1 to 64"; "so R + W + 3 ≤ C"
unfoldable pub limits : Sizes → Bool
limits z = every
    (within 4 1024 z.s
    ∷ within 1 64 z.p
    ∷ within 3 256 z.c
    ∷ within 1 65535 z.b
    ∷ within 1 64 z.r
    ∷ within 1 64 z.w
    ∷ leb (z.r + z.w + 3) z.c ∷ [])

-- the data bytes of a bucket: P × S
unfoldable pub bucket_size : Sizes → ℕ
bucket_size z = z.p * z.s

-- "Set aside the last two cache buckets as an erase ledger": the others stand in queues, and the ledger's lower bucket has the number behind them
unfoldable pub body : Sizes → ℕ
body z = z.c - 2

-- "a lent length is its own of C × P × S, C × P × 16, B × P × S"
unfoldable pub flash_size : Sizes → ℕ
flash_size z = z.c * bucket_size z

unfoldable pub spare_size : Sizes → ℕ
spare_size z = z.c * z.p * 16

unfoldable pub disk_size : Sizes → ℕ
disk_size z = z.b * bucket_size z

unfoldable pub lengths : Sizes → Device → Bool
lengths z d = every
    (eqb (length d.flash) (flash_size z)
    ∷ eqb (length d.spare) (spare_size z)
    ∷ eqb (length d.disk) (disk_size z) ∷ [])

-- page k of the cache bucket c, counted over the whole chip
unfoldable pub page_index : Sizes → ℕ → ℕ → ℕ
page_index z c k = c * z.p + k

-- "A log of n bytes takes n / S pages, rounded up."
unfoldable pub pages_for : Sizes → ℕ → ℕ
pages_for z n = (n + z.s - 1) / z.s
