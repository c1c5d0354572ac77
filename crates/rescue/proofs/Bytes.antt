-- The rescued bytes: what lies under the logs.
use Prim.Native.Nat.{ℕ, ◌*◌, ◌<◌}
use mathlib.Core.Path.{◌≡◌, refl, sym, ap, ◌∙◌}
use mathlib.Core.Bool.{Bool, true, false}
use mathlib.Core.List.{List, [], Memᴰ}
use native.Mathlib.Omega.{arith}
use lib.ListN.{length}
use Rattle.std.specs.Prelude.{if◌then◌else◌}
use Rattle.lists.specs.Lists.{head, empty, member, part}
use Rattle.lists.proofs.Tests.{or_right}
use Rattle.lists.proofs.Counts.{mem_times, head_in}
use Rattle.lists.proofs.Orders.{times_sort}
use Rattle.model.specs.declared.Sizes.{Sizes}
use Rattle.model.specs.Sizes.{Device, bucket_size, disk_size, body}
use Rattle.model.specs.Stores.{bucket_bytes, disk_bytes}
use Rattle.model.specs.Image.{epoch_of, is_write}
use Rattle.model.specs.Recover.{buckets, by_epoch, is_write_of, is_chosen, chosen, merge_all, recovered, is_dropped_write, flushed, unsaved, is_rescued, rescued, rescue_stores}
use Rattle.model.proofs.Limits.{on_chip}
use Rattle.model.proofs.Frames.{Lengths, length_bucket, length_disk}
use Rattle.model.proofs.Formed.{Formed, formed_of}
use Rattle.model.proofs.MergeBytes.{length-merge_all}
use Rattle.model.proofs.RecoverChoice.{in_buckets, dropped_copy, unsaved_by, chosen_in, head-chosen}
use Rattle.geometry.specs.Geometry.{device}
use Rattle.geometry.proofs.Passed.{lengths_of}
use Rattle.image.specs.Chip.{spare_only}
use Rattle.rules.proofs.SameSpare.{same-body-fits}
use Rattle.overlay.specs.Window.{Readable, chip}
use Rattle.overlay.proofs.SameChip.{same-merge-all}
use Rattle.classes.specs.Columns.{nowhere, in_order, column}
use Rattle.classes.proofs.SameSpare.{same_logs, same_chosen, same-flushed}
use Rattle.rescue.specs.Sources.{Recoverable}
use Rattle.rescue.specs.Beside.{beside}
use Rattle.rescue.proofs.Standing.{flushed-stands, logs_beside, copy-beside}

-- what lies under the logs of b: its copy, or the disk's bytes
abbrev pub base_bytes : Sizes → Device → ℕ → List ℕ
base_bytes z d b = if empty (chosen z d b) then disk_bytes z d b else bucket_bytes z d (head (chosen z d b))

module _ {z : Sizes} {flash spare : List ℕ} (readable : Readable z flash spare) (disk : List ℕ) (disk_length : length disk ≡ disk_size z) (b : ℕ) (back : b < z.b) where
  abbrev d : Device
  d = device flash spare disk

  abbrev o : Device
  o = spare_only spare

  low : b < nowhere
  low = omega (arith, readable.limits.b_high)

  formed : Formed z o
  formed = formed_of z o readable.body_formed

  lengths : Lengths z d
  lengths = lengths_of (record { flash_length = readable.flash_length; spare_length = readable.spare_length; disk_length = disk_length })

  pub base_size : length (base_bytes z d b) ≡ bucket_size z
  base_size = go (empty (chosen z d b)) refl
    where
      go : (t : Bool) → empty (chosen z d b) ≡ t → length (if t then disk_bytes z d b else bucket_bytes z d (head (chosen z d b))) ≡ bucket_size z
      go true e = length_disk z d lengths b back
      go false e = length_bucket z d lengths (head (chosen z d b)) (on_chip z _ (chosen_in z d b (head (chosen z d b)) (head_in (chosen z d b) e)).1)

  -- by the columns
  pub base_stands : {order copies : List ℕ} → order ≡ in_order z o → copies ≡ column z o (is_chosen z o)
      → (if member b copies then part flash (head (beside b copies order) * bucket_size z) (bucket_size z) else disk_bytes z d b) ≡ base_bytes z d b
  unfolding bucket_bytes
  base_stands order_is copies_are = rw (order_is, copies_are) (copy-beside z o b low formed (bucket_bytes z d) (disk_bytes z d b) ∙ rw (same_chosen z d b))

  no_logs : merge_all z (chip flash spare) [] (base_bytes z d b) ≡ base_bytes z d b
  unfolding merge_all
  no_logs = refl

  rescued-merged : flushed z o b ≡ true → merge_all z (chip flash spare) (by_epoch z o (buckets z o (is_write_of z o b))) (base_bytes z d b) ≡ rescued z d b
  unfolding rescued recovered
  rescued-merged h = rw (same_logs z d b, sym (same-flushed z d b) ∙ h) (same-merge-all z d _ _)

  -- without logs, b has lost its copy
  rescued_own : flushed z o b ≡ false → is_rescued z o b ≡ true → base_bytes z d b ≡ rescued z d b
  unfolding rescued is_rescued
  rescued_own h lost =
      let w = unsaved_by z o b (or_right (flushed z o b) (unsaved z o b) lost h) in
      let some = (head-chosen z o formed b w.0 w.1 (dropped_copy z o w.0 w.2).0 w.4).0 in
      rw (sym (ap empty (same_chosen z d b)) ∙ some, sym (same-flushed z d b) ∙ h)

  -- the logs of a flushed back-end bucket lie over what it has, and no logs over that of another
  pub rescued_laid : {order writes dropped : List ℕ} → order ≡ in_order z o → writes ≡ column z o (is_write z o) → dropped ≡ column z o (is_dropped_write z o) → is_rescued z o b ≡ true
      → merge_all z (chip flash spare) (if member b dropped then beside b writes order else []) (base_bytes z d b) ≡ rescued z d b
  rescued_laid order_is writes_are dropped-are lost = rw (order_is, writes_are, dropped-are, flushed-stands z o b low, logs_beside z o b low) (go (flushed z o b) refl)
    where
      go : (t : Bool) → flushed z o b ≡ t → merge_all z (chip flash spare) (if t then by_epoch z o (buckets z o (is_write_of z o b)) else []) (base_bytes z d b) ≡ rescued z d b
      go true h = rescued-merged h
      go false h = no_logs ∙ rescued_own h lost

  pub rescued_size : is_rescued z o b ≡ true → length (rescued z d b) ≡ bucket_size z
  unfolding by_epoch
  rescued_size lost = go (flushed z o b) refl
    where
      logs : List ℕ
      logs = by_epoch z o (buckets z o (is_write_of z o b))

      below : (w : ℕ) → Memᴰ w logs → w < body z
      below w m = (in_buckets z o (is_write_of z o b) w (omega (arith, mem_times w logs m, times_sort (epoch_of z o) w (buckets z o (is_write_of z o b))))).1

      go : (t : Bool) → flushed z o b ≡ t → length (rescued z d b) ≡ bucket_size z
      go true h = ap length (sym (rescued-merged h) ∙ same-merge-all z d logs (base_bytes z d b))
          ∙ length-merge_all z d (omega (arith, readable.limits.s_low)) lengths (formed_of z d (sym (same-body-fits z d) ∙ readable.body_formed)) logs below (base_bytes z d b) base_size
      go false h = ap length (sym (rescued_own h lost)) ∙ base_size

-- the stores depend on the disk's bytes of b, and on no other
pub stores_same : (z : Sizes) (flash spare before after : List ℕ) (b : ℕ) → disk_bytes z (device flash spare after) b ≡ disk_bytes z (device flash spare before) b
    → rescue_stores z (device flash spare after) b ≡ rescue_stores z (device flash spare before) b
unfolding rescue_stores rescued recovered bucket_bytes
stores_same z flash spare before after b same =
    let d = device flash spare before in
    let e = device flash spare after in
    let logs = by_epoch z d (buckets z d (is_write_of z d b)) in
    rw (
      sym (same-flushed z e b) ∙ same-flushed z d b,
      sym (same_chosen z e b) ∙ same_chosen z d b,
      sym (same_logs z e b) ∙ same_logs z d b,
      same,
      sym (same-merge-all z e logs (base_bytes z d b)) ∙ same-merge-all z d logs (base_bytes z d b),
    )

pub readable_of : {z : Sizes} {flash spare disk : List ℕ} → Recoverable z flash spare disk → Readable z flash spare
readable_of sound = record {
  limits = sound.limits;
  flash_length = sound.lent.flash_length;
  spare_length = sound.lent.spare_length;
  body_formed = sound.body_formed;
}
