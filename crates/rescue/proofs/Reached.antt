-- How far recovery has come with the units that it writes.
use Prim.Native.Nat.{ℕ, ◌+◌, ◌≤◌, ◌<◌}
use mathlib.Core.Path.{◌≡◌, refl, sym, ap, ◌∙◌}
use mathlib.Core.Bool.{true}
use mathlib.Core.List.{List}
use native.Mathlib.Omega.{arith}
use lib.ListN.{length}
use Rattle.lists.specs.Lists.{row, keep, below, member, concat_map}
use Rattle.lists.proofs.Rows.{concat_more}
use Rattle.model.specs.declared.Sizes.{Sizes}
use Rattle.model.specs.Sizes.{Device, disk_size}
use Rattle.model.specs.Stores.{Store, disk_bytes}
use Rattle.model.specs.Recover.{is_rescued, rescued, rescue_stores}
use Rattle.geometry.specs.Geometry.{device}
use Rattle.geometry.proofs.Passed.{lengths_of}
use Rattle.image.specs.Chip.{spare_only}
use Rattle.overlay.specs.Window.{Readable}
use Rattle.meter.specs.declared.Meter.{Meter}
use Rattle.meter.specs.Run.{Run, running, run_all}
use Rattle.meter.proofs.Runs.{run_append}
use Rattle.units.proofs.Kept.{Kept, units_kept}
use Rattle.order.specs.Order.{next_of}
use Rattle.lists.proofs.Filters.{take_more}
use Rattle.order.proofs.Next.{next, next_passes, next_kept}
use Rattle.classes.specs.Columns.{column}
use Rattle.classes.proofs.SameSpare.{same-rescued}
use Rattle.rescue.specs.Beside.{is_unwritten}
use Rattle.rescue.proofs.Standing.{rescued-stands}
use Rattle.rescue.proofs.Bytes.{rescued_size, stores_same}

-- from each rescued one to the next, by the column of what is to be written
module _ {z : Sizes} {flash spare : List ℕ} (readable : Readable z flash spare) (disk : List ℕ) {unwritten : List ℕ}
    (unwritten_are : unwritten ≡ column z (spare_only spare) (is_unwritten z (spare_only spare))) (from : ℕ) {r : ℕ} (e : r ≡ next_of from z.b unwritten) where
  abbrev d : Device
  d = device flash spare disk

  same : (x : ℕ) → x < z.b → is_rescued z d x ≡ member x unwritten
  same x h = sym (same-rescued z d x) ∙ rescued-stands z (spare_only spare) x (omega (arith, readable.limits.b_high)) ∙ rw unwritten_are

  pub next_high : r ≤ z.b
  next_high = rw e (next from z.b unwritten).high

  pub next_low : from ≤ z.b → from ≤ r
  next_low h = rw e ((next from z.b unwritten).low h)

  pub next_rescued : r < z.b → is_rescued z d r ≡ true
  next_rescued h = rw e (next_passes (is_rescued z d) unwritten z.b same from (rw e at h))

  pub none_between : from ≤ z.b → keep (is_rescued z d) (below r) ≡ keep (is_rescued z d) (below from)
  none_between h = rw e (next_kept (is_rescued z d) unwritten z.b same from h)

module _ (z : Sizes) (flash spare disk : List ℕ) (m : Meter) where
  abbrev entry : Device
  entry = device flash spare disk

  -- the stores for the rescued back-end buckets below b
  abbrev stores_below : ℕ → List Store
  stores_below b = concat_map (rescue_stores z entry) (keep (is_rescued z entry) (below b))

  -- their units were asked for, and the disk is as it was from b on
  pub record Reached (b : ℕ) (now : List ℕ) (left : Meter) : Type 0 where
    pub run_is : running flash spare now left ≡ run_all z (stores_below b) (running flash spare disk m)
    pub disk_same : (x : ℕ) → b ≤ x → disk_bytes z (device flash spare now) x ≡ disk_bytes z entry x

  pub reached_first : (b : ℕ) → keep (is_rescued z entry) (below b) ≡ keep (is_rescued z entry) (below 0) → Reached b disk m
  unfolding run_all concat_map keep below row
  reached_first b e = record { run_is = rw e; disk_same = λ x h. refl }

  -- one more, and on to the next
  pub reached_more : Readable z flash spare → (b n : ℕ) (now after : List ℕ) (left rest : Meter) → Reached b now left → b < z.b → is_rescued z entry b ≡ true
      → length now ≡ disk_size z → running flash spare after rest ≡ run_all z (rescue_stores z (device flash spare now) b) (running flash spare now left)
      → b < n → keep (is_rescued z entry) (below n) ≡ keep (is_rescued z entry) (below (b + 1)) → Reached n after rest
  unfolding rescue_stores
  reached_more readable b n now after left rest h hb t len e k skip = record {
    run_is = e ∙ ap (λ (ss : List Store). run_all z ss (running flash spare now left)) (stores_same z flash spare disk now b (h.disk_same b (omega arith)))
        ∙ ap (run_all z (rescue_stores z entry b)) h.run_is
        ∙ sym (run_append z (stores_below b) (rescue_stores z entry b) (running flash spare disk m))
        ∙ ap (λ (ss : List Store). run_all z ss (running flash spare disk m)) (sym (ap (concat_map (rescue_stores z entry)) (skip ∙ take_more (is_rescued z entry) b t) ∙ concat_more (rescue_stores z entry) (keep (is_rescued z entry) (below b)) b));
    disk_same = λ x q. ap (λ (v : Run). disk_bytes z v.device x) e ∙ frame.others x (λ v. omega arith) ∙ h.disk_same x (omega arith);
  }
    where
      frame : Kept z b (device flash spare now) (run_all z (rescue_stores z (device flash spare now) b) (running flash spare now left)).device
      frame = units_kept z b (rescued z (device flash spare now) b) hb (rescued_size readable now len b hb (same-rescued z entry b ∙ t)) (running flash spare now left)
          (lengths_of (record { flash_length = readable.flash_length; spare_length = readable.spare_length; disk_length = len }))
