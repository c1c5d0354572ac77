-- Write, read, drain and format: each a step, or a plan from nothing.
use Rattle.std.specs.Prelude.{ℕ, ◌+◌, ◌-◌, ◌/◌, Bool, true, false, not, ◌&&◌, ◌||◌, List, [], ◌∷◌, ◌++◌, map, length, drop, get_or, leb, ltb, eqb, if◌then◌else◌, Option, Some, None}
use Rattle.lists.specs.Lists.{below, head, keep, concat_map, sort_by}
use Rattle.model.specs.declared.Sizes.{Sizes}
use Rattle.model.specs.declared.Entry.{Entry}
use Rattle.model.specs.Sizes.{Device, body, pages_for}
use Rattle.model.specs.Stores.{Store, erase, bucket_bytes, unit_stores}
use Rattle.model.specs.Spare.{read_kind, write_kind, dirty_kind}
use Rattle.model.specs.Image.{epoch_of, is_dirty, blanks}
use Rattle.model.specs.State.{State, moved, numbered, started, entry, with_priority, is_of, holds, cache_of, caches_of, is_marked, remarked, without, caches}
use Rattle.model.specs.Steps.{Plan, Step, nothing, ◌then◌, move, make_room, taken, log_stores, merged, copy, evict}

-- "fewer than two epochs left"; the last next epoch at which a write is taken
abbrev pub last_epoch : ℕ
last_epoch = 4294967294

-- ---- write

-- "all priorities are halved, rounding down"; the kept count is not
unfoldable pub halved : Entry → Entry
halved e = with_priority (e.priority / 2) e

-- b's record after a log that leaves it n blank pages; it has no mark, since "a log .. clears the mark"
unfoldable pub prioritised : (b n : ℕ) → Entry → Entry
prioritised b n e = if is_of b e then entry b e.cache n else e

-- "Priority becomes the blank pages left."
unfoldable pub recorded : (b n : ℕ) → State → State
recorded b n s = moved s s.reads (map (prioritised b n) s.writes) s.gc s.free

-- "After every 16th accepted write since format or recovery all priorities are halved."
unfoldable pub counted : State → State
counted s =
    let full = leb 15 s.accepted in
    numbered (moved s s.reads (if full then map halved s.writes else s.writes) s.gc s.free) (if full then 0 else s.accepted + 1) s.next

unfoldable pub accept : (b n : ℕ) → State → State
accept b n s = counted (recorded b n s)

-- the free head is taken as b's Write bucket, last in the queue
unfoldable pub take_write : ℕ → State → State
take_write b s = taken (moved s s.reads (s.writes ++ (entry b (head s.free) 0 ∷ [])) s.gc s.free)

-- the places that the write queue has for b, and the records that stand in them
abbrev pub quota : Sizes → State → ℕ → ℕ
quota z s b = z.w

abbrev pub rivals : State → ℕ → List Entry
rivals s b = s.writes

module _ (z : Sizes) (d : Device) where
  -- "the smallest priority, then smallest epoch"
  unfoldable pub goes_first : Entry → Entry → Bool
  goes_first e f = ltb e.priority f.priority || (eqb e.priority f.priority && ltb (epoch_of z d e.cache) (epoch_of z d f.cache))

  unfoldable pub least_of : Entry → List Entry → Entry
  least_of best [] = best
  least_of best (e ∷ l) = least_of (if goes_first e best then e else best) l

  unfoldable pub victim : List Entry → ℕ
  victim l = (least_of (get_or l 0 (entry 0 0 0)) (drop 1 l)).back

  -- b is in the write queue with n blank pages or more
  unfoldable pub fits : (b n : ℕ) → State → Bool
  fits b n s = holds b s.writes && leb n (blanks z d (cache_of b s.writes))

  -- "if the back-end bucket is in the write queue without enough blank pages, evict its bucket. If it is absent and the queue is full, evict the
  -- smallest priority, then smallest epoch; the arrival is no candidate."
  unfoldable pub outgoing : ℕ → State → Option ℕ
  outgoing b s =
      if holds b s.writes then Some b
      else (if leb (quota z s b) (length (rivals s b)) then Some (victim (rivals s b)) else None)

module _ (z : Sizes) where
  -- what gives way, if anything does, is evicted
  unfoldable pub evict_any : Option ℕ → Step
  evict_any None = nothing
  evict_any (Some v) = evict z v

  unfoldable pub make_way : ℕ → Step
  make_way b s d = evict_any (outgoing z d b s) s d

  -- the log behind the pages of b's Write bucket
  unfoldable pub append_log : (b off : ℕ) → List ℕ → Step
  append_log b off bytes s d =
      let w = cache_of b s.writes in
      record {
        stores = log_stores z w (z.p - blanks z d w) write_kind (epoch_of z d w) b off bytes;
        state = accept b (blanks z d w - pages_for z (length bytes)) s;
      }

  -- the log in a bucket just taken
  unfoldable pub start_log : (b off : ℕ) → List ℕ → Step
  start_log b off bytes s d = record {
    stores = log_stores z (head s.free) 0 write_kind s.next b off bytes;
    state = accept b (z.p - pages_for z (length bytes)) (take_write b s);
  }

  -- "Allocate if needed, program the log."
  unfoldable pub write : (b off : ℕ) → List ℕ → Step
  write b off bytes s d =
      if fits z d b (pages_for z (length bytes)) s then append_log b off bytes s d
      else (make_way b then make_room z then start_log b off bytes) s d

-- ---- read

-- "made most recent, no store"
unfoldable pub touch : ℕ → State → State
touch b s = moved s (without b s.reads ++ map (λ c. entry b c 0) (caches_of b s.reads)) s.writes s.gc s.free

-- b has a read bucket, and no log that is not in it
unfoldable pub is_current : ℕ → State → Bool
is_current b s = holds b s.reads && (not (holds b s.writes) || is_marked b s.writes)

-- b's record, if it has one, is marked
unfoldable pub set_mark : ℕ → State → State
set_mark b s = moved s s.reads (map (remarked b true) s.writes) s.gc s.free

-- the least recent read bucket joins GC; "losing the read bucket .. clears the mark"
unfoldable pub without_oldest : State → State
without_oldest s =
    let oldest = get_or s.reads 0 (entry 0 0 0) in
    moved s (drop 1 s.reads) (map (remarked oldest.back false) s.writes) (s.gc ++ (oldest.cache ∷ [])) s.free

module _ (z : Sizes) where
  -- "if the queue is full evict the least recent to GC (Dirty: write its P units first)"
  unfoldable pub drop_oldest : Step
  drop_oldest s d =
      let oldest = get_or s.reads 0 (entry 0 0 0) in
      if ltb (length s.reads) z.r then nothing s d
      else record {
        stores = if is_dirty z d oldest.cache then unit_stores z oldest.back (bucket_bytes z d oldest.cache) else [];
        state = without_oldest s;
      }

  -- a copy of b takes the place of b's read bucket, if it has one
  unfoldable pub make_place : ℕ → Step
  make_place b s d = if holds b s.reads then nothing s d else drop_oldest s d

  -- "allocate and program, Read on a write miss, else Dirty"; "a read that programs a Dirty bucket sets" the mark
  unfoldable pub read_copy : ℕ → List ℕ → Step
  read_copy b bytes s =
      let kind = if holds b s.writes then dirty_kind else read_kind in
      (make_place b then copy z kind b bytes then move (set_mark b)) s

  -- "Read hit and write miss: made most recent, no store. Both hit: allocate, program all pages as Dirty, old read bucket to GC. Read miss: .. With
  -- fewer than two epochs left it answers without storing or moving anything."
  -- A read that finds all logs in the read bucket "acts as a read hit and write miss".
  unfoldable pub read : ℕ → Step
  read b s d =
      if ltb last_epoch s.next then nothing s d
      else (if is_current b s then move (touch b) s d else read_copy b (merged z s d b) s d)

-- ---- drain

module _ (z : Sizes) (d : Device) (s : State) where
  -- b has a Write or Dirty bucket
  unfoldable pub unclean : ℕ → Bool
  unclean b = holds b s.writes || (holds b s.reads && is_dirty z d (cache_of b s.reads))

  unfoldable pub drain_stores : ℕ → List Store
  drain_stores b = unit_stores z b (merged z s d b)

  unfoldable pub is_unclean : Entry → Bool
  is_unclean e = unclean e.back

  unfoldable pub is_clean : Entry → Bool
  is_clean e = not (is_unclean e)

  -- "then all their read buckets by epoch, then Write buckets by epoch, join GC"
  unfoldable pub drained : List ℕ
  drained = sort_by (epoch_of z d) (caches (keep is_unclean s.reads)) ++ sort_by (epoch_of z d) (caches s.writes)

-- "in rising back-end number, each bucket with a Write or Dirty bucket has its merged bytes written to its P units; .. Other Read buckets stay."
unfoldable pub drain : Sizes → Step
drain z s d = record {
  stores = concat_map (drain_stores z d s) (keep (unclean z d s) (below z.b));
  state = moved s (keep (is_clean z d s) s.reads) [] (s.gc ++ drained z d s) s.free;
}

-- ---- format

-- "erase all buckets in rising order; free queue in rising order; next epoch 1"; "Format erases directly", and all C
unfoldable pub format : Sizes → Plan
format z = record { stores = map erase (below z.c); state = started z [] [] [] (below (body z)) 1 }
