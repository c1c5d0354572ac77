-- Recover: which copies and Write buckets of an image are kept, what is written to the disk, and the state.
use Rattle.std.specs.Prelude.{ℕ, ◌+◌, Bool, not, ◌&&◌, ◌||◌, List, [], ◌∷◌, ◌++◌, map, length, ltb, eqb, if◌then◌else◌}
use Rattle.lists.specs.Lists.{below, all_below, head, empty, any, keep, member, concat_map, sort_by}
use Rattle.model.specs.declared.Sizes.{Sizes}
use Rattle.model.specs.declared.Entry.{Entry}
use Rattle.model.specs.Sizes.{Device, body}
use Rattle.model.specs.Stores.{Store, erase, apply_all, tag_of, bucket_bytes, disk_bytes, unit_stores}
use Rattle.model.specs.Spare.{blank}
use Rattle.model.specs.Image.{used, epoch_of, back_of, is_write, is_copy, is_dirty, complete, blanks, merge}
use Rattle.model.specs.Ledger.{named}
use Rattle.model.specs.State.{started, entry, top_epoch}
use Rattle.model.specs.Steps.{Plan}

module _ (z : Sizes) (d : Device) where
  -- the cache buckets that pass a test, rising
  unfoldable pub buckets : (ℕ → Bool) → List ℕ
  buckets t = keep t (below (body z))

  unfoldable pub by_epoch : List ℕ → List ℕ
  by_epoch l = sort_by (epoch_of z d) l

  unfoldable pub is_newer : ℕ → ℕ → Bool
  is_newer c e = ltb (epoch_of z d c) (epoch_of z d e)

  -- one of the n newest of the list: fewer than n are newer
  unfoldable pub among_newest : ℕ → List ℕ → ℕ → Bool
  among_newest n l c = ltb (length (keep (is_newer c) l)) n

  unfoldable pub newest : ℕ → List ℕ → List ℕ
  newest n l = keep (among_newest n l) l

  unfoldable pub is_write_of : ℕ → ℕ → Bool
  is_write_of b c = is_write z d c && eqb (back_of z d c) b

  unfoldable pub is_copy_of : ℕ → ℕ → Bool
  is_copy_of b c = complete z d c && eqb (back_of z d c) b

  -- "for each back-end bucket the newest complete Read or Dirty bucket is its copy"
  unfoldable pub gives_way : ℕ → ℕ → Bool
  gives_way c e = not (is_copy_of (back_of z d c) e) || not (is_newer c e)

  unfoldable pub is_chosen : ℕ → Bool
  is_chosen c = complete z d c && all_below (body z) (gives_way c)

  unfoldable pub is_chosen_of : ℕ → ℕ → Bool
  is_chosen_of b c = is_chosen c && eqb (back_of z d c) b

  -- the copy of b, if it has one
  unfoldable pub chosen : ℕ → List ℕ
  chosen b = buckets (is_chosen_of b)

  -- the only Write bucket of its back-end bucket
  unfoldable pub is_no_other : ℕ → ℕ → Bool
  is_no_other w e = not (is_write_of (back_of z d w) e) || eqb e w

  unfoldable pub is_only : ℕ → Bool
  is_only w = is_write z d w && all_below (body z) (is_no_other w)

  -- "superseded and incomplete copies"
  unfoldable pub is_old_copy : ℕ → Bool
  is_old_copy c = is_copy z d c && not (is_chosen c)

  -- the logs of several Write buckets, one bucket after the other
  unfoldable pub merge_all : List ℕ → List ℕ → List ℕ
  merge_all [] base = base
  merge_all (w ∷ ws) base = merge_all ws (merge z d w base)

  -- "all its Write buckets by rising epoch lie over that, or over the disk"
  unfoldable pub recovered : ℕ → List ℕ
  recovered b = merge_all (by_epoch (buckets (is_write_of b))) (if empty (chosen b) then disk_bytes z d b else bucket_bytes z d (head (chosen b)))

  -- "Blank buckets are free"
  unfoldable pub is_free : ℕ → Bool
  is_free c = blank (tag_of z d c 0)

  -- "A bucket with a spoiled page and no programmed one"
  unfoldable pub is_spent : ℕ → Bool
  is_spent c = not (is_free c) && not (used z d c)

  -- a Dirty bucket of b, unsaved once it is dropped
  unfoldable pub is_unsaved_of : ℕ → ℕ → Bool
  is_unsaved_of b c = is_dirty z d c && eqb (back_of z d c) b

  -- places in the recovered queues
  unfoldable pub kept_read : ℕ → Entry
  kept_read c = entry (back_of z d c) c 0

  -- a new record: recovery counts the blank pages and "clears the mark"
  unfoldable pub kept_write : ℕ → Entry
  kept_write w = entry (back_of z d w) w (blanks z d w)

  -- ---- what is kept and what is dropped

  -- "Two or more Write buckets: write the merged units, drop them and the copy. Of those with one, keep the W newest; for the rest do the same."
  unfoldable pub kept_writes : List ℕ
  kept_writes = newest z.w (buckets is_only)

  unfoldable pub is_dropped_write : ℕ → Bool
  is_dropped_write w = is_write z d w && not (member w kept_writes)

  -- the merged units of b are written, its copy and its Write buckets dropped
  unfoldable pub flushed : ℕ → Bool
  flushed b = any (is_write_of b) (buckets is_dropped_write)

  -- "Of remaining copies keep the R newest"
  unfoldable pub is_remaining : ℕ → Bool
  is_remaining c = is_chosen c && not (flushed (back_of z d c))

  unfoldable pub kept_copies : List ℕ
  kept_copies = newest z.r (buckets is_remaining)

  unfoldable pub is_dropped_copy : ℕ → Bool
  is_dropped_copy c = is_chosen c && not (member c kept_copies)

  -- "write the units of a dropped Dirty one (its own bytes)"
  unfoldable pub unsaved : ℕ → Bool
  unsaved b = any (is_unsaved_of b) (buckets is_dropped_copy)

  -- the back-end buckets whose units are written, and the bytes
  unfoldable pub is_rescued : ℕ → Bool
  is_rescued b = flushed b || unsaved b

  unfoldable pub rescued : ℕ → List ℕ
  rescued b = if flushed b then recovered b else bucket_bytes z d (head (chosen b))

  unfoldable pub rescue_stores : ℕ → List Store
  rescue_stores b = unit_stores z b (rescued b)

  -- "These disk writes go in rising back-end number." A bucket without a programmed page "goes first to GC, by bucket number". "GC: superseded and
  -- incomplete copies, then dropped copies, then dropped Write buckets, each by epoch. Blank buckets are free, rising. Kept copies by epoch, newest most recent; the write queue by epoch; priority is blank pages"
  unfoldable pub rebuilt : (next : ℕ) → Plan
  rebuilt n = record {
    stores = concat_map rescue_stores (keep is_rescued (below z.b));
    state = started z (map kept_read (by_epoch kept_copies)) (map kept_write (by_epoch kept_writes))
        (buckets is_spent ++ (by_epoch (buckets is_old_copy) ++ (by_epoch (buckets is_dropped_copy) ++ by_epoch (buckets is_dropped_write)))) (buckets is_free) n;
  }

-- ---- the erase ledger

-- "Recovery first erases each named bucket once, rising, then both ledger buckets, without entries."
unfoldable pub swept : Sizes → Device → List ℕ
swept z d = keep (named z d) (below (body z)) ++ (body z ∷ (body z + 1) ∷ [])

-- then the rest, on the chip as it is then; "next epoch is the highest plus 1, or 1", with buckets and entries "as it found them"
unfoldable pub recover : Sizes → Device → Plan
recover z d =
    let erases = map erase (swept z d) in
    let p = rebuilt z (apply_all z d erases) (top_epoch z d + 1) in
    record { stores = erases ++ p.stores; state = p.state }
