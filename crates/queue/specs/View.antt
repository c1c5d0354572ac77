-- A queue is seen as the list of its first `len` entries.
use Rattle.std.specs.Prelude.{ℕ, false, Option, List, length, take, find, eqb}
use Rattle.lists.specs.Arrays.{padded}
use Rattle.model.specs.declared.Entry.{Entry}
use Rattle.queue.specs.declared.Queue.{Queue}

abbrev pub entries_of : Queue → List Entry
entries_of q = take q.len q.items

-- what the logic reads past an array's end
abbrev pub no_entry : Entry
no_entry = record { back = 0; cache = 0; priority = 0; blank = 0; marked = false }

-- the one struct of a list: zeros in the unused places
abbrev pub queue_of : List Entry → Queue
queue_of l = record { items = padded 64 no_entry l; len = length l }

-- b's record, if the queue holds b
abbrev pub found : ℕ → List Entry → Option Entry
found b l = find (λ e. eqb e.back b) l
