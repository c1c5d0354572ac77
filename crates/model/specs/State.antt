-- The engine's state, its queues, and number 5.
use Rattle.std.specs.Prelude.{ℕ, ◌*◌, max, Bool, true, false, not, ◌&&◌, ◌||◌, List, [], ◌∷◌, ◌++◌, map, length, leb, ltb, eqb, if◌then◌else◌}
use Rattle.lists.specs.Lists.{every, times, all_below, max_below, all, keep, distinct}
use Rattle.model.specs.declared.Sizes.{Sizes}
use Rattle.model.specs.declared.Entry.{Entry}
use Rattle.model.specs.Sizes.{Device, body}
use Rattle.model.specs.Spare.{programmed, epoch}
use Rattle.model.specs.Image.{complete, is_write, back_of, blanks, epoch_of}
use Rattle.model.specs.Ledger.{ledger_tag, one_in_use}

-- "The state holds the sizes, a running mark, read and write queues, GC and free queues, priorities, the count of accepted writes and the next epoch."
-- The first of the read queue is the least recent, the first of each other queue the first in.
pub record State : Type 0 where
  pub sizes : Sizes
  pub running : Bool
  pub reads : List Entry
  pub writes : List Entry
  pub gc : List ℕ
  pub free : List ℕ
  pub accepted : ℕ
  pub next : ℕ

-- a state that was never formatted: no sizes, no bucket in a queue, not running
abbrev pub unformatted : State
unformatted = record { sizes = record { s = 0; p = 0; c = 0; b = 0; r = 0; w = 0 }; running = false; reads = []; writes = []; gc = []; free = []; accepted = 0; next = 0 }

-- the same state, not running
unfoldable pub stopped : State → State
stopped s = record { sizes = s.sizes; running = false; reads = s.reads; writes = s.writes; gc = s.gc; free = s.free; accepted = s.accepted; next = s.next }

-- the same state with other queues
unfoldable pub moved : State → (reads writes : List Entry) → (gc free : List ℕ) → State
moved s r w g f = record { sizes = s.sizes; running = s.running; reads = r; writes = w; gc = g; free = f; accepted = s.accepted; next = s.next }

-- the same state with another write count and next epoch
abbrev pub numbered : State → (accepted next : ℕ) → State
numbered s a n = record { sizes = s.sizes; running = s.running; reads = s.reads; writes = s.writes; gc = s.gc; free = s.free; accepted = a; next = n }

-- "A finished format or recovery leaves the state running, at its sizes, with write count 0."
abbrev pub started : Sizes → (reads writes : List Entry) → (gc free : List ℕ) → (next : ℕ) → State
started z r w g f n = record { sizes = z; running = true; reads = r; writes = w; gc = g; free = f; accepted = 0; next = n }

-- ---- queues of back-end buckets

-- a new record of a bucket with n blank pages: they are its priority, and "the count of blank pages" is kept "beside the priority"; it has no mark
unfoldable pub entry : (b c n : ℕ) → Entry
entry b c n = record { back = b; cache = c; priority = n; blank = n; marked = false }

-- the same record with another priority
unfoldable pub with_priority : ℕ → Entry → Entry
with_priority p e = record { back = e.back; cache = e.cache; priority = p; blank = e.blank; marked = e.marked }

-- the same record with another mark
unfoldable pub with_mark : Bool → Entry → Entry
with_mark t e = record { back = e.back; cache = e.cache; priority = e.priority; blank = e.blank; marked = t }

unfoldable pub is_of : ℕ → Entry → Bool
is_of b e = eqb e.back b

-- the back-end bucket b is in the queue
unfoldable pub holds : ℕ → List Entry → Bool
holds b [] = false
holds b (e ∷ l) = if is_of b e then true else holds b l

-- its record there, or one of zeros
unfoldable pub record_of : ℕ → List Entry → Entry
record_of b [] = entry 0 0 0
record_of b (e ∷ l) = if is_of b e then e else record_of b l

-- its cache bucket, or 0
unfoldable pub cache_of : ℕ → List Entry → ℕ
cache_of b l = (record_of b l).cache

-- the count of blank pages kept there, or 0
unfoldable pub blank_of : ℕ → List Entry → ℕ
blank_of b l = (record_of b l).blank

-- its cache bucket, if it has one
unfoldable pub caches_of : ℕ → List Entry → List ℕ
caches_of b l = if holds b l then cache_of b l ∷ [] else []

-- its mark: "whether its logs are all in the read bucket"
unfoldable pub is_marked : ℕ → List Entry → Bool
is_marked b l = (record_of b l).marked

-- b's record gets this mark
unfoldable pub remarked : ℕ → Bool → Entry → Entry
remarked b t e = if is_of b e then with_mark t e else e

unfoldable pub is_other : ℕ → Entry → Bool
is_other b e = not (is_of b e)

-- the queue without b
unfoldable pub without : ℕ → List Entry → List Entry
without b l = keep (is_other b) l

unfoldable pub cache_bucket : Entry → ℕ
cache_bucket e = e.cache

unfoldable pub back_bucket : Entry → ℕ
back_bucket e = e.back

unfoldable pub caches : List Entry → List ℕ
caches l = map cache_bucket l

unfoldable pub backs : List Entry → List ℕ
backs l = map back_bucket l

-- ---- number 5

-- all cache buckets in queues, queue after queue
unfoldable pub queued : State → List ℕ
queued s = caches s.reads ++ (caches s.writes ++ (s.gc ++ s.free))

unfoldable pub is_below : ℕ → ℕ → Bool
is_below n c = ltb c n

unfoldable pub once_in : List ℕ → ℕ → Bool
once_in l c = eqb (times c l) 1

-- "queues hold each cache bucket once", and "Ledger buckets stand in no queue": so their lengths add up to n, and no number is above
unfoldable pub each_once : ℕ → List ℕ → Bool
each_once n l = every (eqb (length l) n ∷ all (is_below n) l ∷ all_below n (once_in l) ∷ [])

module _ (z : Sizes) (d : Device) where
  -- a read queue's entry: the spare fields agree and the bucket is complete
  unfoldable pub read_agrees : Entry → Bool
  read_agrees e = complete z d e.cache && eqb (back_of z d e.cache) e.back

  -- the kept count is "the count worked out afresh from the spare areas"
  unfoldable pub count_agrees : Entry → Bool
  count_agrees e = eqb e.blank (blanks z d e.cache)

  -- a write queue's entry: the spare fields agree, the priority is not above P, and the kept count agrees
  unfoldable pub write_agrees : Entry → Bool
  write_agrees e = every (is_write z d e.cache ∷ eqb (back_of z d e.cache) e.back ∷ leb e.priority z.p ∷ count_agrees e ∷ [])

  -- a free bucket has blank pages alone
  unfoldable pub all_blank : ℕ → Bool
  all_blank c = eqb (blanks z d c) z.p

-- "Number 5 covers a mark set without a read bucket."
unfoldable pub mark_fits : (reads : List Entry) → Entry → Bool
mark_fits reads e = not e.marked || holds e.back reads

-- the epoch of the entry on page i of the ledger, or 0
unfoldable pub entry_epoch : Sizes → Device → ℕ → ℕ
entry_epoch z d i = if programmed (ledger_tag z d i) then epoch (ledger_tag z d i) else 0

-- the largest epoch of a bucket on the chip, or 0; "Entries count towards the next epoch"
unfoldable pub top_epoch : Sizes → Device → ℕ
top_epoch z d = max (max_below (body z) (epoch_of z d)) (max_below (2 * z.p) (entry_epoch z d))

-- number 5: none of "queues do not hold each cache bucket once, a queue is too long, maps a back-end bucket twice or disagrees with
-- spare fields, a queued read bucket is incomplete, a free bucket has a non-blank page, a priority is above P, the write count above 15,
-- or next epoch is 0, is not above all present or exceeds 4,294,967,296", no "kept count differs", no "mark set without a read bucket", and not "two
-- in use" of the ledger's buckets
unfoldable pub state_fits : State → Device → Bool
state_fits s d = every
    (each_once (body s.sizes) (queued s)
    ∷ leb (length s.reads) s.sizes.r
    ∷ leb (length s.writes) s.sizes.w
    ∷ distinct (backs s.reads)
    ∷ distinct (backs s.writes)
    ∷ all (read_agrees s.sizes d) s.reads
    ∷ all (write_agrees s.sizes d) s.writes
    ∷ all (all_blank s.sizes d) s.free
    ∷ leb s.accepted 15
    ∷ leb 1 s.next
    ∷ ltb (top_epoch s.sizes d) s.next
    ∷ leb s.next 4294967296
    ∷ all (mark_fits s.reads) s.writes
    ∷ one_in_use s.sizes d ∷ [])
