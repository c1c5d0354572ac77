-- What recovery chooses is what it chooses on every device with the same spare area.
use Prim.Native.Nat.{ℕ}
use mathlib.Core.Path.{◌≡◌, fun_ext}
use mathlib.Core.List.{List}
use Rattle.model.specs.declared.Sizes.{Sizes}
use Rattle.model.specs.Sizes.{Device}
use Rattle.model.specs.Stores.{tag_of}
use Rattle.model.specs.Image.{back_of, is_write, is_copy, page_programmed, complete}
use Rattle.model.specs.Recover.{buckets, by_epoch, is_newer, among_newest, newest, is_write_of, is_copy_of, gives_way, is_chosen, is_chosen_of, chosen, is_no_other, is_only, is_old_copy, is_free, is_spent, is_unsaved_of, kept_read, kept_write, kept_writes, is_dropped_write, flushed, is_remaining, kept_copies, is_dropped_copy, unsaved, is_rescued, rebuilt}
use Rattle.image.specs.Chip.{spare_only}
use Rattle.image.proofs.SameSpare.{same_head, same-used, same-epoch, same_dirty, same-blanks}

module _ (z : Sizes) (d : Device) where
  abbrev o : Device
  o = spare_only d.spare

  -- ---- buckets

  same_back : (c : ℕ) → back_of z o c ≡ back_of z d c
  unfolding back_of
  same_back c = rw (same_head z d c)

  same_write : (c : ℕ) → is_write z o c ≡ is_write z d c
  unfolding is_write
  same_write c = rw (same-used z d c, same_head z d c)

  same_copy : (c : ℕ) → is_copy z o c ≡ is_copy z d c
  unfolding is_copy
  same_copy c = rw (same-used z d c, same_head z d c)

  same-complete : (c : ℕ) → complete z o c ≡ complete z d c
  unfolding complete page_programmed tag_of
  same-complete c = rw (same_copy c)

  same-write_of : (b c : ℕ) → is_write_of z o b c ≡ is_write_of z d b c
  unfolding is_write_of
  same-write_of b c = rw (same_write c, same_back c)

  same-copy_of : (b c : ℕ) → is_copy_of z o b c ≡ is_copy_of z d b c
  unfolding is_copy_of
  same-copy_of b c = rw (same-complete c, same_back c)

  same-spent : (c : ℕ) → is_spent z o c ≡ is_spent z d c
  unfolding is_spent is_free tag_of
  same-spent c = rw (same-used z d c)

  -- ---- by epoch

  same_order : (l : List ℕ) → by_epoch z o l ≡ by_epoch z d l
  unfolding by_epoch
  same_order l = rw (fun_ext (same-epoch z d))

  same_newer : (c e : ℕ) → is_newer z o c e ≡ is_newer z d c e
  unfolding is_newer
  same_newer c e = rw (same-epoch z d c, same-epoch z d e)

  same_among : (n : ℕ) (l : List ℕ) (c : ℕ) → among_newest z o n l c ≡ among_newest z d n l c
  unfolding among_newest
  same_among n l c = rw (fun_ext (same_newer c))

  same-newest : (n : ℕ) (l : List ℕ) → newest z o n l ≡ newest z d n l
  unfolding newest
  same-newest n l = rw (fun_ext (same_among n l))

  pub same_logs : (b : ℕ) → by_epoch z o (buckets z o (is_write_of z o b)) ≡ by_epoch z d (buckets z d (is_write_of z d b))
  unfolding buckets
  same_logs b = rw (fun_ext (same-write_of b)) (same_order _)

  -- ---- the copy of each back-end bucket

  same_way : (c e : ℕ) → gives_way z o c e ≡ gives_way z d c e
  unfolding gives_way
  same_way c e = rw (same_back c, same-copy_of (back_of z d c) e, same_newer c e)

  same-is_chosen : (c : ℕ) → is_chosen z o c ≡ is_chosen z d c
  unfolding is_chosen
  same-is_chosen c = rw (same-complete c, fun_ext (same_way c))

  same-chosen_of : (b c : ℕ) → is_chosen_of z o b c ≡ is_chosen_of z d b c
  unfolding is_chosen_of
  same-chosen_of b c = rw (same-is_chosen c, same_back c)

  pub same_chosen : (b : ℕ) → chosen z o b ≡ chosen z d b
  unfolding chosen buckets
  same_chosen b = rw (fun_ext (same-chosen_of b))

  same_old : (c : ℕ) → is_old_copy z o c ≡ is_old_copy z d c
  unfolding is_old_copy
  same_old c = rw (same_copy c, same-is_chosen c)

  -- ---- kept and dropped Write buckets

  same_no_other : (w e : ℕ) → is_no_other z o w e ≡ is_no_other z d w e
  unfolding is_no_other
  same_no_other w e = rw (same_back w, same-write_of (back_of z d w) e)

  same-only : (w : ℕ) → is_only z o w ≡ is_only z d w
  unfolding is_only
  same-only w = rw (same_write w, fun_ext (same_no_other w))

  same-kept_writes : kept_writes z o ≡ kept_writes z d
  unfolding kept_writes buckets
  same-kept_writes = rw (fun_ext same-only) (same-newest z.w _)

  same_dropped_write : (w : ℕ) → is_dropped_write z o w ≡ is_dropped_write z d w
  unfolding is_dropped_write
  same_dropped_write w = rw (same_write w, same-kept_writes)

  pub same-flushed : (b : ℕ) → flushed z o b ≡ flushed z d b
  unfolding flushed buckets
  same-flushed b = rw (fun_ext (same-write_of b), fun_ext same_dropped_write)

  -- ---- kept and dropped copies

  same_remaining : (c : ℕ) → is_remaining z o c ≡ is_remaining z d c
  unfolding is_remaining
  same_remaining c = rw (same-is_chosen c, same_back c, same-flushed (back_of z d c))

  same-kept_copies : kept_copies z o ≡ kept_copies z d
  unfolding kept_copies buckets
  same-kept_copies = rw (fun_ext same_remaining) (same-newest z.r _)

  same_dropped_copy : (c : ℕ) → is_dropped_copy z o c ≡ is_dropped_copy z d c
  unfolding is_dropped_copy
  same_dropped_copy c = rw (same-is_chosen c, same-kept_copies)

  same-unsaved_of : (b c : ℕ) → is_unsaved_of z o b c ≡ is_unsaved_of z d b c
  unfolding is_unsaved_of
  same-unsaved_of b c = rw (same_dirty z d c, same_back c)

  pub same-rescued : (b : ℕ) → is_rescued z o b ≡ is_rescued z d b
  unfolding is_rescued unsaved buckets
  same-rescued b = rw (same-flushed b, fun_ext (same-unsaved_of b), fun_ext same_dropped_copy)

  -- ---- the queues

  same-kept_read : (c : ℕ) → kept_read z o c ≡ kept_read z d c
  unfolding kept_read
  same-kept_read c = rw (same_back c)

  same-kept_write : (c : ℕ) → kept_write z o c ≡ kept_write z d c
  unfolding kept_write
  same-kept_write c = rw (same_back c, same-blanks z d c)

  pub same_state : (next : ℕ) → (rebuilt z o next).state ≡ (rebuilt z d next).state
  unfolding rebuilt by_epoch buckets is_free tag_of
  same_state next = rw (
    fun_ext (same-epoch z d),
    fun_ext same-kept_read,
    same-kept_copies,
    fun_ext same-kept_write,
    same-kept_writes,
    fun_ext same-spent,
    fun_ext same_old,
    fun_ext same_dropped_copy,
    fun_ext same_dropped_write,
  )
