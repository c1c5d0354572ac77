-- The form of a state: its bytes, numbers high byte first. Its head, then its queues, each a count and so many rows.
use Rattle.std.specs.Prelude.{ℕ, Bool, true, false, not, ◌&&◌, List, [], ◌∷◌, ◌++◌, map, length, drop, get_or, leb, eqb, if◌then◌else◌}
use Rattle.lists.specs.Lists.{every, all}
use Rattle.model.specs.declared.Sizes.{Sizes}
use Rattle.model.specs.declared.Entry.{Entry}
use Rattle.model.specs.State.{State}
use Rattle.form.specs.Numbers.{in_bytes}
use Rattle.form.specs.Rows.{width, row_bytes, row_in, row_fits, table_bytes, table_in, table_fits, behind}

-- ---- the head: S (2) P (1) C (2) B (2) R (1) W (1), running (1), write count (1), next epoch (8)

abbrev pub size_widths : List ℕ
size_widths = 2 ∷ 1 ∷ 2 ∷ 2 ∷ 1 ∷ 1 ∷ []

abbrev pub head_widths : List ℕ
head_widths = size_widths ++ (1 ∷ 1 ∷ 8 ∷ [])

unfoldable pub size_numbers : Sizes → List ℕ
size_numbers z = z.s ∷ z.p ∷ z.c ∷ z.b ∷ z.r ∷ z.w ∷ []

-- a mark is 0 or 1
unfoldable pub mark : Bool → ℕ
mark b = if b then 1 else 0

unfoldable pub head_numbers : State → List ℕ
head_numbers s = size_numbers s.sizes ++ (mark s.running ∷ s.accepted ∷ s.next ∷ [])

-- ---- rows of the queues

-- a write queue's entry: back-end bucket (2), cache bucket (1), priority (1), mark (1), blank pages (1); a read queue's has the buckets alone
unfoldable pub entry_widths : (write : Bool) → List ℕ
entry_widths true = 2 ∷ 1 ∷ 1 ∷ 1 ∷ 1 ∷ []
entry_widths false = 2 ∷ 1 ∷ []

unfoldable pub entry_numbers : (write : Bool) → Entry → List ℕ
entry_numbers true e = e.back ∷ e.cache ∷ e.priority ∷ mark e.marked ∷ e.blank ∷ []
entry_numbers false e = e.back ∷ e.cache ∷ []

unfoldable pub entry_from : List ℕ → Entry
entry_from ns = record { back = get_or ns 0 0; cache = get_or ns 1 0; priority = get_or ns 2 0; marked = eqb (get_or ns 3 0) 1; blank = get_or ns 4 0 }

-- a row of the write queue that says an entry: its mark is 0 or 1
unfoldable pub is_entry : List ℕ → Bool
is_entry ns = leb (get_or ns 3 0) 1

-- an entry of which a row of the read queue says all
unfoldable pub is_plain : Entry → Bool
is_plain e = eqb e.priority 0 && eqb e.blank 0 && not e.marked

-- a bucket of the GC or the free queue (1)
abbrev pub bucket_widths : List ℕ
bucket_widths = 1 ∷ []

unfoldable pub bucket_numbers : ℕ → List ℕ
bucket_numbers c = c ∷ []

unfoldable pub bucket_from : List ℕ → ℕ
bucket_from ns = get_or ns 0 0

-- ---- state to bytes

unfoldable pub entries_form : (write : Bool) → List Entry → List ℕ
entries_form write l = table_bytes 1 (entry_widths write) (map (entry_numbers write) l)

unfoldable pub buckets_form : List ℕ → List ℕ
buckets_form l = table_bytes 2 bucket_widths (map bucket_numbers l)

unfoldable pub form_of : State → List ℕ
form_of s = row_bytes head_widths (head_numbers s)
    ++ (entries_form false s.reads
    ++ (entries_form true s.writes
    ++ (buckets_form s.gc ++ buckets_form s.free)))

-- a state that has a form: its sizes and counts have room in their bytes, and its read queue, in which no priority, mark or blank page counts, has none
unfoldable pub has_form : State → Bool
has_form s = every
    (row_fits size_widths (size_numbers s.sizes)
    ∷ leb (length s.reads) 64
    ∷ leb (length s.writes) 64
    ∷ leb (length s.gc) 256
    ∷ leb (length s.free) 256
    ∷ all is_plain s.reads ∷ [])

-- its other numbers are those of their types, as in every struct
unfoldable pub entry_typed : Entry → Bool
entry_typed e = row_fits (entry_widths true) (entry_numbers true e)

unfoldable pub typed : State → Bool
typed s = every
    (in_bytes 1 s.accepted
    ∷ in_bytes 8 s.next
    ∷ all entry_typed s.reads
    ∷ all entry_typed s.writes
    ∷ all (in_bytes 1) s.gc
    ∷ all (in_bytes 1) s.free ∷ [])

-- ---- bytes to state

-- the bytes from each queue's count on
unfoldable pub from_reads : List ℕ → List ℕ
from_reads l = drop (width head_widths) l

unfoldable pub from_writes : List ℕ → List ℕ
from_writes l = behind 1 (entry_widths false) (from_reads l)

unfoldable pub from_gc : List ℕ → List ℕ
from_gc l = behind 1 (entry_widths true) (from_writes l)

unfoldable pub from_free : List ℕ → List ℕ
from_free l = behind 2 bucket_widths (from_gc l)

-- l is the form of a state: running mark and marks are 0 or 1, each queue is there and no longer than it may be, and nothing stands behind the last
unfoldable pub is_form : List ℕ → Bool
is_form l = every
    (leb (width head_widths) (length l)
    ∷ leb (get_or (row_in head_widths l) 6 0) 1
    ∷ all is_entry (table_in 1 (entry_widths true) (from_writes l))
    ∷ table_fits 1 (entry_widths false) 64 (from_reads l)
    ∷ table_fits 1 (entry_widths true) 64 (from_writes l)
    ∷ table_fits 2 bucket_widths 256 (from_gc l)
    ∷ table_fits 2 bucket_widths 256 (from_free l)
    ∷ eqb (length (behind 2 bucket_widths (from_free l))) 0 ∷ [])

unfoldable pub sizes_from : List ℕ → Sizes
sizes_from h = record { s = get_or h 0 0; p = get_or h 1 0; c = get_or h 2 0; b = get_or h 3 0; r = get_or h 4 0; w = get_or h 5 0 }

unfoldable pub entries_in : (write : Bool) → List ℕ → List Entry
entries_in write l = map entry_from (table_in 1 (entry_widths write) l)

unfoldable pub buckets_in : List ℕ → List ℕ
buckets_in l = map bucket_from (table_in 2 bucket_widths l)

-- the state whose form l is
unfoldable pub state_in : List ℕ → State
state_in l =
    let h = row_in head_widths l in
    record {
      sizes = sizes_from h;
      running = eqb (get_or h 6 0) 1;
      reads = entries_in false (from_reads l);
      writes = entries_in true (from_writes l);
      gc = buckets_in (from_gc l);
      free = buckets_in (from_free l);
      accepted = get_or h 7 0;
      next = get_or h 8 0;
    }
