-- Number 5 in parts: what it says of the queues, of the spare fields, and of the numbers.
use Rattle.std.specs.Prelude.{Bool, true, false, [], ◌∷◌, length, leb, ltb}
use Rattle.lists.specs.Lists.{every, all, distinct}
use Rattle.model.specs.declared.Sizes.{Sizes}
use Rattle.model.specs.declared.Entry.{Entry}
use Rattle.model.specs.Sizes.{Device}
use Rattle.model.specs.State.{State, backs, read_agrees, write_agrees, all_blank, top_epoch}

-- no queue "is too long, maps a back-end bucket twice"
unfoldable pub queues_fit : State → Bool
queues_fit s = every
    (leb (length s.reads) s.sizes.r
    ∷ leb (length s.writes) s.sizes.w
    ∷ distinct (backs s.reads)
    ∷ distinct (backs s.writes) ∷ [])

-- an entry of the write queue, or of the read queue
abbrev pub agrees : Sizes → Device → Bool → Entry → Bool
agrees z d true = write_agrees z d
agrees z d false = read_agrees z d

-- none "disagrees with spare fields, a queued read bucket is incomplete, a free bucket has a non-blank page, a priority is above P", and no "kept count differs"
unfoldable pub tags_agree : State → Device → Bool
tags_agree s d = every
    (all (read_agrees s.sizes d) s.reads
    ∷ all (write_agrees s.sizes d) s.writes
    ∷ all (all_blank s.sizes d) s.free ∷ [])

-- neither "the write count above 15, or next epoch is 0, is not above all present or exceeds 4,294,967,296"
unfoldable pub numbers_fit : State → Device → Bool
numbers_fit s d = every
    (leb s.accepted 15
    ∷ leb 1 s.next
    ∷ ltb (top_epoch s.sizes d) s.next
    ∷ leb s.next 4294967296 ∷ [])
