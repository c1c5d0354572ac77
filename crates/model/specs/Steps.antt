-- Plans, and the steps that operations share: merged bytes, Erase step, Allocate, a whole copy, Evict.
-- A step sees the chip and the disk as the steps before it leave them.
use Rattle.std.specs.Prelude.{ℕ, ◌+◌, ◌-◌, List, [], ◌∷◌, ◌++◌, length, drop, leb, if◌then◌else◌}
use Rattle.lists.specs.Lists.{row, head, empty, ff}
use Rattle.model.specs.declared.Sizes.{Sizes}
use Rattle.model.specs.Sizes.{Device, pages_for}
use Rattle.model.specs.Stores.{Store, program, erase, apply_all, bucket_bytes, disk_bytes, page_bytes, unit_stores}
use Rattle.model.specs.Spare.{dirty_kind, tag_bytes, entry_tag}
use Rattle.model.specs.Image.{epoch_of, blanks, merge}
use Rattle.model.specs.Ledger.{in_use, other_of}
use Rattle.model.specs.State.{State, moved, numbered, entry, holds, cache_of, caches_of, is_marked, without}

-- the stores of an operation, in order, and the state once all are made
pub record Plan : Type 0 where
  pub stores : List Store
  pub state : State

-- what a step plans, from a state and the chip and disk as they are then
abbrev pub Step : Type 0
Step = State → Device → Plan

unfoldable pub nothing : Step
nothing s d = record { stores = []; state = s }

infixr 20 ◌then◌
-- one step, and the next from the state, chip and disk that it leaves
unfoldable pub ◌then◌ : Step → Step → Step
◌then◌ f g s d =
    let p = f s d in
    let q = g p.state (apply_all s.sizes d p.stores) in
    record { stores = p.stores ++ q.stores; state = q.state }

-- a step that makes no store
unfoldable pub move : (State → State) → Step
move f s d = nothing (f s) d

-- the GC head, once erased, is last in the free queue
unfoldable pub freed : State → State
freed s = moved s s.reads s.writes (drop 1 s.gc) (s.free ++ (head s.gc ∷ []))

-- "Take the free head; it gets the next epoch, which rises by 1."
unfoldable pub taken : State → State
taken s = numbered (moved s s.reads s.writes s.gc (drop 1 s.free)) s.accepted (s.next + 1)

-- b's Write bucket joins GC
unfoldable pub drop_write : ℕ → State → State
drop_write b s = moved s s.reads (without b s.writes) (s.gc ++ caches_of b s.writes) s.free

-- the free head is taken as b's read bucket, the most recent; the old one joins GC
unfoldable pub take_copy : ℕ → State → State
take_copy b s =
    taken (moved s (without b s.reads ++ (entry b (head s.free) 0 ∷ [])) s.writes (s.gc ++ caches_of b s.reads) s.free)

module _ (z : Sizes) where
  -- page o of a log of b in the cache bucket c, whose first page is page `first` there
  unfoldable pub log_store : (c first kind epoch b off : ℕ) → List ℕ → ℕ → Store
  log_store c first k e b off bytes o =
      program c (first + o) (page_bytes z bytes o) (tag_bytes k o (pages_for z (length bytes)) e b off (length bytes))

  -- "Pages of a bucket are programmed in rising order."
  unfoldable pub log_stores : (c first kind epoch b off : ℕ) → List ℕ → List Store
  log_stores c first k e b off bytes = row (pages_for z (length bytes)) (log_store c first k e b off bytes)

  -- "over the read bucket, or over the disk if there is none"
  unfoldable pub base_bytes : State → Device → ℕ → List ℕ
  base_bytes s d b = if holds b s.reads then bucket_bytes z d (cache_of b s.reads) else disk_bytes z d b

  -- the bytes of the back-end bucket b: its Write bucket's complete logs over its base
  unfoldable pub merged : State → Device → ℕ → List ℕ
  merged s d b = if holds b s.writes then merge z d (cache_of b s.writes) (base_bytes s d b) else base_bytes s d b

  -- "one ledger page is programmed": page k of the ledger bucket l, "data FF"
  unfoldable pub entry_store : Device → (l k x : ℕ) → Store
  entry_store d l k x = program l k (ff z.s) (entry_tag (epoch_of z d x) x)

  -- "A full ledger bucket hands over to the other, and is erased after the first entry there and before the named erase."
  unfoldable pub entry_stores : Device → ℕ → List Store
  entry_stores d x =
      let l = in_use z d in
      if leb 1 (blanks z d l) then entry_store d l (z.p - blanks z d l) x ∷ [] else entry_store d (other_of z l) 0 x ∷ erase l ∷ []

  -- "Before any other bucket is erased, one ledger page is programmed"
  unfoldable pub noted_erase : Device → ℕ → List Store
  noted_erase d x = entry_stores d x ++ (erase x ∷ [])

  -- "Erase step: erase the GC head, put it last in the free queue. Idle, with no store, if and only if the GC queue is empty."
  unfoldable pub erase_step : Step
  erase_step s d =
      if empty s.gc then nothing s d else record { stores = noted_erase d (head s.gc); state = freed s }

  -- "Allocate: if the free queue is empty, do the erase step first." Then the bucket is the free head, and its epoch the next one.
  unfoldable pub make_room : Step
  make_room s d = if empty s.free then erase_step s d else nothing s d

  -- a log in the free head, as b's read bucket
  unfoldable pub fill_copy : (kind b : ℕ) → List ℕ → Step
  fill_copy k b bytes s d = record { stores = log_stores (head s.free) 0 k s.next b 0 bytes; state = take_copy b s }

  -- allocate, program all P pages; "A copy just programmed is most recent."
  unfoldable pub copy : (kind b : ℕ) → List ℕ → Step
  copy k b bytes = make_room then fill_copy k b bytes

  -- "write all P units in rising order"
  unfoldable pub write_out : ℕ → List ℕ → Step
  write_out b bytes s d = record { stores = unit_stores z b bytes; state = s }

  -- "Evict a Write bucket. With a read bucket: allocate, program all P pages as Dirty, which takes over the mapping as most recent; old read
  -- bucket, then Write bucket, join GC. Without: write all P units in rising order; the Write bucket joins GC."
  -- An eviction that finds all logs in the read bucket "makes no Dirty bucket" and "just sends the Write bucket to GC".
  unfoldable pub evict : ℕ → Step
  evict b s d =
      let bytes = merged s d b in
      ((if is_marked b s.writes then nothing else (if holds b s.reads then copy dirty_kind b bytes else write_out b bytes))
      then move (drop_write b)) s d
