-- A queue is seen as the list of its first `len` cache buckets.
use Rattle.std.specs.Prelude.{ℕ, List, length, take}
use Rattle.lists.specs.Arrays.{padded}
use Rattle.fifo.specs.declared.Fifo.{Fifo}

abbrev pub list_of : Fifo → List ℕ
list_of q = take q.len q.items

-- the one struct of a list: zeros in the unused places
abbrev pub fifo_of : List ℕ → Fifo
fifo_of l = record { items = padded 256 0 l; len = length l }
