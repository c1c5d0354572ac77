-- The bytes of a copy: as many as a bucket has, and those that the queues say, also once the room is erased.
use mathlib.Core.Path.{◌≡◌, refl, sym, ap, ◌∙◌}
use mathlib.Core.Bool.{true}
use mathlib.Core.List.{List}
use Prim.Native.Nat.{ℕ, ◌≤◌, ◌<◌}
use lib.ListN.{length}
use borrow.Author.Tests.{ltb-true}
use Rattle.std.specs.Prelude.{◌≢◌, Option, Some, None, IfSome}
use Rattle.lists.specs.Lists.{all, times}
use Rattle.lists.proofs.Counts.{all_in}
use Rattle.model.specs.declared.Sizes.{Sizes}
use Rattle.model.specs.declared.Entry.{Entry}
use Rattle.model.specs.Sizes.{Device, bucket_size, body}
use Rattle.model.specs.State.{State, is_below, caches_of}
use Rattle.model.specs.Steps.{log_stores, base_bytes, merged}
use Rattle.model.specs.Recover.{merge_all}
use Rattle.model.proofs.Limits.{on_chip}
use Rattle.model.proofs.Show.{Same}
use Rattle.model.proofs.Frames.{length_bucket, length_disk}
use Rattle.geometry.specs.Geometry.{device, Lent}
use Rattle.geometry.proofs.Passed.{lengths_of}
use Rattle.rules.proofs.SameSpare.{same-body-fits}
use Rattle.overlay.specs.Window.{Readable}
use Rattle.overlay.proofs.SameChip.{same-merge-all}
use Rattle.overlay.proofs.Found.{merge-all-length}
use Rattle.queue.specs.View.{found}
use Rattle.queue.proofs.Found.{found_some, found_none, found_each}
use Rattle.meter.specs.declared.Meter.{Meter}
use Rattle.meter.specs.Run.{Run, running, run_all}
use Rattle.meter.proofs.Runs.{run_append}
use Rattle.steps.specs.Ready.{Ready}
use Rattle.gather.specs.Sources.{Sources}
use Rattle.gather.proofs.Gathered.{merged-all}
use Rattle.steps.proofs.Inside.{listed_inside}
use Rattle.copying.specs.Fresh.{room_of, erases, fresh_stores, Single}
use Rattle.copying.specs.Laid.{under_bytes, listed_bytes, Laid}
use Rattle.copying.proofs.Aside.{no_read, no_write, not_listed}
use Rattle.copying.proofs.Unmoved.{listed_same, Unmoved, formed}
use Rattle.copying.proofs.Emptied.{erases_unmoved}
use Rattle.copying.proofs.Copied.{room_inside}

module _ {z : Sizes} {list : List ℕ} {base : Option Entry} {b target : ℕ} {flash spare disk : List ℕ} (laid : Laid z list base b target flash spare disk) where
  abbrev d : Device
  d = device flash spare disk

  pub readable : Readable z flash spare
  readable = record { limits = laid.limits; flash_length = laid.lent.flash_length; spare_length = laid.lent.spare_length; body_formed = laid.body_formed }

  under_size : length (under_bytes z d base b) ≡ bucket_size z
  unfolding under_bytes
  under_size = at base laid.read
    where
      at : (o : Option Entry) → IfSome o (λ copy. copy.cache < body z) → length (under_bytes z d o b) ≡ bucket_size z
      at (Some copy) inside = length_bucket z d (lengths_of laid.lent) copy.cache (on_chip z copy.cache inside)
      at None inside = length_disk z d (lengths_of laid.lent) b laid.back

  pub listed_size : length (listed_bytes z d list base b) ≡ bucket_size z
  listed_size = ap length (sym (same-merge-all z d list (under_bytes z d base b))) ∙ merge-all-length readable list laid.logs (under_bytes z d base b) under_size

-- what lies under the logs, by what a search of the read queue finds
under_found : (z : Sizes) (s : State) (d : Device) (b : ℕ) → under_bytes z d (found b s.reads) b ≡ base_bytes z s d b
unfolding under_bytes base_bytes
under_found z s d b = go (found b s.reads) refl
  where
    go : (o : Option Entry) → found b s.reads ≡ o → under_bytes z d o b ≡ base_bytes z s d b
    go (Some copy) k = let own = found_some b s.reads copy k in rw (own.held, own.cache)
    go None k = rw (found_none b s.reads k).held

-- the room's erase was asked for, and the entry before it
module _ {s : State} {b : ℕ} {flash spare disk flash' spare' disk' : List ℕ} (sources : Sources s b flash spare disk) (ready : Ready s) (single : Single s) (m : Meter) {m' : Meter}
    (ran : running flash' spare' disk' m' ≡ run_all s.sizes (erases s.sizes (device flash spare disk) (room_of s)) (running flash spare disk m)) where
  unmoved : Unmoved s.sizes sources.limits.p_low (room_of s).bucket (device flash spare disk) (device flash' spare' disk')
  unmoved =
      rw (ap (λ (r : Run). r.device) ran)
      (erases_unmoved s.sizes sources.limits (room_of s) (room_inside s.sizes s (device flash spare disk) ready) (running flash spare disk m) (lengths_of sources.lent))

  listed : all (is_below (body s.sizes)) (caches_of b s.writes) ≡ true
  listed = listed_inside (body s.sizes) b s.writes sources.write

  pub laid_in : Lent s.sizes flash' spare' disk' → Laid s.sizes (caches_of b s.writes) (found b s.reads) b (room_of s).bucket flash' spare' disk'
  laid_in lent = record {
    limits = sources.limits;
    lent = lent;
    body_formed = same-body-fits s.sizes (device flash' spare' disk') ∙ formed s.sizes sources.limits.p_low unmoved (sym (same-body-fits s.sizes (device flash spare disk)) ∙ sources.body_formed);
    back = sources.back;
    bucket = on_chip s.sizes _ (room_inside s.sizes s (device flash spare disk) ready);
    logs = listed;
    logs_aside = not_listed s ready single b;
    read = found_each b s.reads (λ copy. copy.cache < body s.sizes) (λ copy own. rw (← own.cache) sources.read);
    read_aside = found_each b s.reads (λ copy. copy.cache ≢ (room_of s).bucket) (λ copy own. rw (← own.cache) (no_read s ready single b own.held));
  }

  written : (c : ℕ) → 1 ≤ times c (caches_of b s.writes) → c < body s.sizes
  unfolding is_below
  written c t = ltb-true c (body s.sizes) (all_in (is_below (body s.sizes)) (caches_of b s.writes) listed c t)

  pub copy_bytes : listed_bytes s.sizes (device flash' spare' disk') (caches_of b s.writes) (found b s.reads) b ≡ merged s.sizes s (device flash spare disk) b
  copy_bytes =
      listed_same s.sizes sources.limits.p_low (device flash spare disk) (device flash' spare' disk') (found b s.reads) b
      (found_each b s.reads (λ copy. Same s.sizes (device flash spare disk) (device flash' spare' disk') copy.cache)
      (λ copy own. rw (← own.cache) (unmoved.others _ sources.read (no_read s ready single b own.held))))
      (unmoved.disk b)
      (caches_of b s.writes)
      (λ c t. unmoved.others c (written c t) (no_write s ready single b c t))
      ∙ ap (merge_all s.sizes (device flash spare disk) (caches_of b s.writes)) (under_found s.sizes s (device flash spare disk) b)
      ∙ sym (merged-all s.sizes s (device flash spare disk) b)

  -- and then the pages
  pub copy_run : (k : ℕ) {r : Run}
      → r ≡ run_all s.sizes (log_stores s.sizes (room_of s).bucket 0 k (room_of s).epoch b 0 (listed_bytes s.sizes (device flash' spare' disk') (caches_of b s.writes) (found b s.reads) b)) (running flash' spare' disk' m')
      → r ≡ run_all s.sizes (fresh_stores s.sizes (device flash spare disk) (room_of s) k b 0 (merged s.sizes s (device flash spare disk) b)) (running flash spare disk m)
  unfolding fresh_stores
  copy_run k h =
      h
      ∙ ap (λ (bytes : List ℕ). run_all s.sizes (log_stores s.sizes (room_of s).bucket 0 k (room_of s).epoch b 0 bytes) (running flash' spare' disk' m')) copy_bytes
      ∙ ap (run_all s.sizes (log_stores s.sizes (room_of s).bucket 0 k (room_of s).epoch b 0 (merged s.sizes s (device flash spare disk) b))) ran
      ∙ sym (run_append s.sizes (erases s.sizes (device flash spare disk) (room_of s)) _ (running flash spare disk m))
