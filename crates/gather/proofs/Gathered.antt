-- Where the bytes of a back-end bucket are; base and merged bytes are as many as a bucket has.
use Rattle.model.proofs.Limits.{on_chip}
use Prim.Native.Nat.{ℕ, ◌*◌, ◌<◌}
use mathlib.Core.Path.{◌≡◌, refl, sym, ap, ◌∙◌}
use mathlib.Core.Bool.{Bool, true, false}
use mathlib.Core.List.{List, [], ◌∷◌}
use native.Mathlib.Nat.{le_refl}
use lib.ListN.{length}
use Rattle.std.specs.Prelude.{Option, Some, None, MatchOption, if◌then◌else◌}
use Rattle.lists.specs.Lists.{part}
use Rattle.model.specs.declared.Sizes.{Sizes}
use Rattle.model.specs.Sizes.{Device, bucket_size, body}
use Rattle.model.specs.Stores.{bucket_bytes, disk_bytes}
use Rattle.model.specs.Image.{body_fits, merge}
use Rattle.model.specs.State.{State, holds, cache_of, caches_of}
use Rattle.model.specs.Steps.{base_bytes, merged}
use Rattle.model.specs.Recover.{merge_all}
use Rattle.model.proofs.Frames.{Lengths, length_bucket, length_disk}
use Rattle.geometry.specs.Geometry.{device, Lent}
use Rattle.geometry.proofs.Passed.{lengths_of}
use Rattle.overlay.specs.Window.{chip, Readable}
use Rattle.overlay.proofs.Logs.{merged-length}
use Rattle.overlay.proofs.SameChip.{same-merge, same-merge-all}
use Rattle.image.specs.Chip.{spare_only}
use Rattle.steps.specs.Ready.{Orderly}
use Rattle.steps.proofs.Inside.{cache_inside}
use Rattle.steps.proofs.Kept.{body-some}
use Rattle.gather.specs.Sources.{Sources}

-- the cache buckets of an orderly state are such as stand in queues
pub sources_of : {s : State} {b : ℕ} {flash spare disk : List ℕ} → Orderly s → body_fits s.sizes (spare_only spare) ≡ true → b < s.sizes.b
    → Lent s.sizes flash spare disk → Sources s b flash spare disk
sources_of {s} {b} o formed back lent = record {
  limits = o.limits;
  lent = lent;
  body_formed = formed;
  back = back;
  read = cache_inside (body s.sizes) b s.reads o.reads (body-some o);
  write = cache_inside (body s.sizes) b s.writes o.writes (body-some o);
}

module _ {s : State} {b : ℕ} {flash spare disk : List ℕ} (sources : Sources s b flash spare disk) where
  pub readable : Readable s.sizes flash spare
  readable = record {
    limits = sources.limits;
    flash_length = sources.lent.flash_length;
    spare_length = sources.lent.spare_length;
    body_formed = sources.body_formed;
  }

  lengths : Lengths s.sizes (device flash spare disk)
  lengths = lengths_of sources.lent

  pub base_size : length (base_bytes s.sizes s (device flash spare disk) b) ≡ bucket_size s.sizes
  unfolding base_bytes
  base_size = at (holds b s.reads)
    where
      at : (t : Bool)
          → length (if t then bucket_bytes s.sizes (device flash spare disk) (cache_of b s.reads) else disk_bytes s.sizes (device flash spare disk) b)
          ≡ bucket_size s.sizes
      at true = length_bucket s.sizes (device flash spare disk) lengths (cache_of b s.reads) (on_chip s.sizes _ sources.read)
      at false = length_disk s.sizes (device flash spare disk) lengths b sources.back

  pub merged_size : length (merged s.sizes s (device flash spare disk) b) ≡ bucket_size s.sizes
  unfolding merged merge
  merged_size = at (holds b s.writes)
    where
      base : List ℕ
      base = base_bytes s.sizes s (device flash spare disk) b

      at : (t : Bool) → length (if t then merge s.sizes (device flash spare disk) (cache_of b s.writes) base else base) ≡ bucket_size s.sizes
      at true =
          ap length (sym (same-merge s.sizes (device flash spare disk) (cache_of b s.writes) base))
          ∙ merged-length readable sources.write base base_size s.sizes.p (le_refl s.sizes.p)
      at false = base_size

-- a list of none or of one that two look at
pub listed : (o : Option ℕ) {list caches : List ℕ} → MatchOption o (caches ≡ []) (λ c. caches ≡ c ∷ []) → MatchOption o (list ≡ []) (λ c. list ≡ c ∷ []) → list ≡ caches
listed None p q = q ∙ sym p
listed (Some c) p q = q ∙ sym p

-- the logs of the Write bucket, if there is one, lie over the base
pub merged-all : (z : Sizes) (s : State) (d : Device) (b : ℕ) → merged z s d b ≡ merge_all z d (caches_of b s.writes) (base_bytes z s d b)
unfolding merged merge_all caches_of
merged-all z s d b = at (holds b s.writes)
  where
    at : (t : Bool) → (if t then merge z d (cache_of b s.writes) (base_bytes z s d b) else base_bytes z s d b) ≡ merge_all z d (if t then cache_of b s.writes ∷ [] else []) (base_bytes z s d b)
    at true = refl
    at false = refl

-- the merged bytes by where the base lies
module _ (z : Sizes) (s : State) (flash spare disk : List ℕ) (b : ℕ) {list : List ℕ} (logs : list ≡ caches_of b s.writes) where
  laid : merge_all z (chip flash spare) list (base_bytes z s (device flash spare disk) b) ≡ merged z s (device flash spare disk) b
  laid =
      ap (λ (l : List ℕ). merge_all z (chip flash spare) l (base_bytes z s (device flash spare disk) b)) logs
      ∙ same-merge-all z (device flash spare disk) (caches_of b s.writes) (base_bytes z s (device flash spare disk) b)
      ∙ sym (merged-all z s (device flash spare disk) b)

  pub over_read : {c : ℕ} → holds b s.reads ≡ true → c ≡ cache_of b s.reads → merge_all z (chip flash spare) list (part flash (c * bucket_size z) (bucket_size z)) ≡ merged z s (device flash spare disk) b
  unfolding base_bytes bucket_bytes
  over_read h e = rw (e) (rw h at laid)

  pub over_disk : holds b s.reads ≡ false → merge_all z (chip flash spare) list (part disk (b * bucket_size z) (bucket_size z)) ≡ merged z s (device flash spare disk) b
  unfolding base_bytes disk_bytes
  over_disk h = rw h at laid
