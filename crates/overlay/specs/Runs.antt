-- Where the bytes of a whole lie: what a page's log covers, runs, and what is made of a run.
use Rattle.std.specs.Prelude.{ℕ, ◌+◌, ◌-◌, ◌*◌, ◌≤◌, ◌<◌, ◌≡◌, Bool, true, false, is_some, unwrap_or, ◌⊎◌, ◌≢◌, List, length, get_or, if◌then◌else◌}
use Rattle.lists.specs.Lists.{member, empty, splice, part}
use Rattle.lists.proofs.Parts.{Apart}
use Rattle.model.specs.declared.Sizes.{Sizes}
use Rattle.model.specs.Sizes.{bucket_size}
use Rattle.model.specs.Image.{merge_to}
use Rattle.model.specs.Recover.{merge_all}
use Rattle.overlay.specs.declared.Extent.{Extent}
use Rattle.overlay.specs.declared.Run.{Run}
use Rattle.overlay.specs.Window.{Readable, chip}

-- n bytes of the flash from an index on lie in the cache bucket c
pub record Inside (z : Sizes) (c at n : ℕ) : Type 0 where
  pub bucket : c < z.c
  pub low : c * bucket_size z ≤ at
  pub high : at + n ≤ c * bucket_size z + bucket_size z

-- page k of the bucket c lays nothing
pub record LaysNone (z : Sizes) (spare : List ℕ) (c k : ℕ) : Type 0 where
  pub beside : (flash base : List ℕ) → Readable z flash spare → length base ≡ bucket_size z → (i : ℕ)
      → get_or (merge_to z (chip flash spare) c base (k + 1)) i 0 ≡ get_or (merge_to z (chip flash spare) c base k) i 0

-- page k of the bucket c lays the bytes of the extent, and leaves all others as the pages before it do
pub record Lays (z : Sizes) (spare : List ℕ) (c k : ℕ) (e : Extent) : Type 0 where
  pub inside : e.low < e.high → Inside z c e.at (e.high - e.low)
  pub over : (flash base : List ℕ) → Readable z flash spare → length base ≡ bucket_size z → (i : ℕ) → e.low ≤ i → i < e.high
      → get_or (merge_to z (chip flash spare) c base (k + 1)) i 0 ≡ get_or flash (e.at + (i - e.low)) 0
  pub beside : (flash base : List ℕ) → Readable z flash spare → length base ≡ bucket_size z → (i : ℕ) → (i < e.low) ⊎ (e.high ≤ i)
      → get_or (merge_to z (chip flash spare) c base (k + 1)) i 0 ≡ get_or (merge_to z (chip flash spare) c base k) i 0

-- the pages of the bucket c from page n on lay nothing before x
pub record EndsBy (z : Sizes) (spare : List ℕ) (c x n : ℕ) : Type 0 where
  pub most : n ≤ z.p
  pub rest : (flash base : List ℕ) → Readable z flash spare → length base ≡ bucket_size z → (i : ℕ) → i < x
      → get_or (merge_to z (chip flash spare) c base z.p) i 0 ≡ get_or (merge_to z (chip flash spare) c base n) i 0

-- whether a log covers the run's bytes, and where they lie then
abbrev pub covered : Run → Bool
covered r = is_some r.at

abbrev pub place_of : Run → ℕ
place_of r = unwrap_or r.at 0

-- the bytes from the run's start up to x: those that the logs of the listed buckets lay lie in one of these buckets, or they lay none
pub record Runs (z : Sizes) (spare list : List ℕ) (from x : ℕ) (r : Run) : Type 0 where
  pub some : r.start < x
  pub least : from ≤ r.start
  pub inside : (covered r) ≡ true → (c : ℕ) × (member c list ≡ true) × Inside z c (place_of r) (x - r.start)
  pub over : (covered r) ≡ true → (flash base : List ℕ) → Readable z flash spare → length base ≡ bucket_size z → (i : ℕ) → r.start ≤ i → i < x
      → get_or (merge_all z (chip flash spare) list base) i 0 ≡ get_or flash ((place_of r) + (i - r.start)) 0
  pub beside : (covered r) ≡ false → (flash base : List ℕ) → Readable z flash spare → length base ≡ bucket_size z → (i : ℕ) → r.start ≤ i → i < x
      → get_or (merge_all z (chip flash spare) list base) i 0 ≡ get_or base i 0

-- ---- a run, put where it belongs

-- a run up to x lies where it is said to: in a window that shows the whole from an index on, in a flash and under the logs, of so many bytes
pub record Laid (r : Run) (x from flash under window : ℕ) : Type 0 where
  pub first : from ≤ r.start
  pub some : r.start < x
  pub last : x ≤ from + window
  pub stored : (covered r) ≡ true → (place_of r) + (x - r.start) ≤ flash
  pub lent : (under ≡ 0) ⊎ (x ≤ under)

-- into a window; with nothing lent to lie under the logs, it shows that already
unfoldable pub lent_over : Run → (x from : ℕ) → (flash under window : List ℕ) → List ℕ
lent_over r x from flash under window =
    if (covered r) then splice window (r.start - from) (part flash (place_of r) (x - r.start))
    else (if empty under then window else splice window (r.start - from) (part under r.start (x - r.start)))

-- the same within a flash, where the whole begins at one index, and what lies under the logs at another if nothing is lent; no run meets its place
pub record Moves (r : Run) (x base to under flash : ℕ) : Type 0 where
  pub some : r.start < x
  pub last : to + x ≤ flash
  pub stored : (covered r) ≡ true → ((place_of r) + (x - r.start) ≤ flash) × Apart (to + r.start) (x - r.start) (place_of r) (x - r.start)
  pub lent : ((under ≡ 0) × (base + x ≤ flash) × Apart (to + r.start) (x - r.start) (base + r.start) (x - r.start)) ⊎ (x ≤ under)

-- into the flash itself, where the whole begins at an index; with nothing lent to lie under the logs, that begins at another index there
unfoldable pub moved_over : Run → (x base to : ℕ) → (under flash : List ℕ) → List ℕ
moved_over r x base to under flash =
    splice flash (to + r.start)
    (if (covered r) then part flash (place_of r) (x - r.start)
    else (if empty under then part flash (base + r.start) (x - r.start) else part under r.start (x - r.start)))

-- ---- all runs

-- what lies under the logs is lent, or the window shows it
abbrev pub Shows : (whole under : List ℕ) (from : ℕ) (window : List ℕ) → Type 0
Shows whole under from window = (under ≡ whole) ⊎ ((empty under ≡ true) × (window ≡ part whole from (length window)))

-- what lies under the logs: the bytes lent, or those of a cache bucket
abbrev pub beneath : Sizes → (flash : List ℕ) (base : ℕ) (under : List ℕ) → List ℕ
beneath z flash base under = if empty under then part flash (base * bucket_size z) (bucket_size z) else under

-- a cache bucket beside those that bytes are taken from
pub record Aside (z : Sizes) (list : List ℕ) (base : ℕ) (under : List ℕ) (target : ℕ) : Type 0 where
  pub unlisted : member target list ≡ false
  pub lent : (length under ≡ bucket_size z) ⊎ ((length under ≡ 0) × (base ≢ target))
