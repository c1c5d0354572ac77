-- The merged bytes of a back-end bucket are the plain disk's.
use Prim.Native.Nat.{ℕ, ◌+◌, ◌*◌, ◌≤◌, ◌<◌}
use mathlib.Core.Path.{◌≡◌, refl, sym, ap, ◌∙◌}
use mathlib.Core.Logic.{◌⊎◌, inl, inr}
use mathlib.Core.Bool.{true, false, true≢false}
use mathlib.Core.List.{List}
use native.Mathlib.Omega.{arith}
use lib.ListN.{length, get_or}
use lib.Seq.{ext_get_or}
use Rattle.lists.specs.Lists.{part}
use Rattle.lists.proofs.Tests.{true_or_false}
use Rattle.lists.proofs.Parts.{get_d_part, length-part-fits}
use Rattle.model.specs.declared.Sizes.{Sizes}
use Rattle.model.specs.Sizes.{Device, bucket_size, body}
use Rattle.model.specs.Stores.{bucket_bytes, disk_bytes}
use Rattle.model.specs.Image.{merge}
use Rattle.model.specs.State.{State, holds, cache_of}
use Rattle.model.specs.Steps.{base_bytes, merged}
use Rattle.model.specs.Promise.{disk_place}
use Rattle.model.proofs.Limits.{on_chip}
use Rattle.model.proofs.Views.{Lay, top, bare, SafeAt, copied, uncopied}
use Rattle.model.proofs.Safe.{gives_of, found, view, plain_at, Safe}
use Rattle.model.proofs.Frames.{Lengths, row_fits_lem, length_bucket, length_disk}
use Rattle.model.proofs.Show.{gives_same, holds_same}
use Rattle.model.proofs.MergeBytes.{or_else, length-merge, get_d_merge}
use Rattle.model.proofs.Formed.{Formed}
use Rattle.model.proofs.FormedKept.{chip_formed}
use Rattle.model.proofs.Buckets.{gives_found}
use Rattle.model.proofs.Queues.{Maps, absent, maps_times}
use Rattle.model.proofs.QueuesErased.{gone, gone_disk}
use Rattle.model.proofs.Inside.{Inside, lens, in_chip, gc_below, swept_safe, read_same, write_same, who_gives, who_holds}

module _ (z : Sizes) (s : State) (d : Device) (b : ℕ) where
  pub base_copy : (c : ℕ) → Maps s.reads b c → base_bytes z s d b ≡ bucket_bytes z d c
  unfolding base_bytes
  base_copy c m = rw (m.held, m.is)

  pub base_disk : holds b s.reads ≡ false → base_bytes z s d b ≡ disk_bytes z d b
  unfolding base_bytes
  base_disk n = rw n

  merged_logs : (w : ℕ) → Maps s.writes b w → merged z s d b ≡ merge z d w (base_bytes z s d b)
  unfolding merged
  merged_logs w m = rw (m.held, m.is)

  merged_base : holds b s.writes ≡ false → merged z s d b ≡ base_bytes z s d b
  unfolding merged
  merged_base n = rw n

-- ---- lengths

module _ (z : Sizes) (s_pos : 1 ≤ z.s) (d : Device) (L : Lengths z d) (F : Formed z d) (s : State) (reads_in : (b c : ℕ) → Maps s.reads b c → c < body z)
    (writes_in : (b c : ℕ) → Maps s.writes b c → c < body z) (b : ℕ) (hb : b < z.b) where
  length_base : length (base_bytes z s d b) ≡ bucket_size z
  length_base = go (true_or_false (holds b s.reads))
    where
      go : (holds b s.reads ≡ true) ⊎ (holds b s.reads ≡ false) → length (base_bytes z s d b) ≡ bucket_size z
      go (inl h) =
          let m : Maps s.reads b (cache_of b s.reads) = record { held = h; is = refl } in
          ap length (base_copy z s d b (cache_of b s.reads) m) ∙ length_bucket z d L (cache_of b s.reads) (on_chip z (cache_of b s.reads) (reads_in b (cache_of b s.reads) m))
      go (inr n) = ap length (base_disk z s d b n) ∙ length_disk z d L b hb

  merge_byte : (w : ℕ) → Maps s.writes b w → (i : ℕ) → get_or (merged z s d b) i 0 ≡ or_else (found z d w z.p i) (get_or (base_bytes z s d b) i 0)
  merge_byte w m i =
      ap (λ (l : List ℕ). get_or l i 0) (merged_logs z s d b w m) ∙ get_d_merge z d s_pos L F w (writes_in b w m) (base_bytes z s d b) length_base i

  pub merged-length : length (merged z s d b) ≡ bucket_size z
  merged-length = go (true_or_false (holds b s.writes))
    where
      go : (holds b s.writes ≡ true) ⊎ (holds b s.writes ≡ false) → length (merged z s d b) ≡ bucket_size z
      go (inr n) = ap length (merged_base z s d b n) ∙ length_base
      go (inl h) =
          let w = cache_of b s.writes in
          let m : Maps s.writes b w = record { held = h; is = refl } in
          ap length (merged_logs z s d b w m) ∙ length-merge z d s_pos L F w (writes_in b w m) (base_bytes z s d b) length_base

-- ---- bytes

module _ (z : Sizes) (p_pos : 1 ≤ z.p) (s_pos : 1 ≤ z.s) (plain : List ℕ) (s : State) (d : Device) (j : Inside z plain s d) (b : ℕ) (hb : b < z.b) where
  reads_in : (b' c : ℕ) → Maps s.reads b' c → c < body z
  reads_in b' c m = in_chip z plain s d j c (omega (arith, maps_times s.reads b' c m))

  writes_in : (b' c : ℕ) → Maps s.writes b' c → c < body z
  writes_in b' c m = in_chip z plain s d j c (omega (arith, maps_times s.writes b' c m))

  pub length_merged : length (merged z s d b) ≡ bucket_size z
  length_merged = merged-length z s_pos d (lens z plain s d j) (chip_formed z j.chip) s reads_in writes_in b hb

  logs_over : (w : ℕ) → Maps s.writes b w → (i : ℕ) → get_or (merged z s d b) i 0 ≡ or_else (found z d w z.p i) (get_or (base_bytes z s d b) i 0)
  logs_over w m i = merge_byte z s_pos d (lens z plain s d j) (chip_formed z j.chip) s reads_in writes_in b hb w m i

  -- the base, as the chip with the GC queue erased shows it
  based : (i : ℕ) → SafeAt (view z (gone z d s.gc)) b (plain_at z plain b)
      → (f : ℕ → ℕ) × (f i ≡ get_or (base_bytes z s d b) i 0) × Lay (view z (gone z d s.gc)) b f i (plain_at z plain b i)
  based i (copied c nw l ld) =
      let m = who_holds z plain s d j p_pos c b nw.0 in (
        (λ x. get_or (bucket_bytes z (gone z d s.gc) c) x 0),
        ap (λ (l : List ℕ). get_or l i 0) ((read_same z plain s d j b c m).bytes_same ∙ sym (base_copy z s d b c m)),
        l i,
      )
  based i (uncopied n l) = (
    (λ x. get_or (disk_bytes z (gone z d s.gc) b) x 0),
    ap (λ (l : List ℕ). get_or l i 0) (gone_disk z s.gc (gc_below z plain s d j) d (lens z plain s d j) b ∙ sym (base_disk z s d b (none_read (true_or_false (holds b s.reads))))),
    l i,
  )
    where
      none_read : (holds b s.reads ≡ true) ⊎ (holds b s.reads ≡ false) → holds b s.reads ≡ false
      none_read (inr q) = q
      none_read (inl h) =
          let c = cache_of b s.reads in
          let m : Maps s.reads b c = record { held = h; is = refl } in
          absurd (true≢false (sym (holds_same z p_pos d (gone z d s.gc) c (read_same z plain s d j b c m) b ∙ j.reads.copies b c m) ∙ n c))

  pub merged-plain : (i : ℕ) → get_or (merged z s d b) i 0 ≡ plain_at z plain b i
  unfolding Safe or_else
  merged-plain i = go (based i (swept_safe z plain s d j b)) (true_or_false (holds b s.writes))
    where
      found_is : (w : ℕ) → Maps s.writes b w → gives_of z (gone z d s.gc) w b i ≡ found z d w z.p i
      found_is w m =
          gives_same z p_pos d (gone z d s.gc) w (write_same z plain s d j b w m) b i
          ∙ gives_found z d w b i (writes_in b w m) (j.writes.logs b w m).0 (j.writes.logs b w m).1

      lay : (f : ℕ → ℕ) → f i ≡ get_or (base_bytes z s d b) i 0 → Lay (view z (gone z d s.gc)) b f i (plain_at z plain b i)
          → (holds b s.writes ≡ true) ⊎ (holds b s.writes ≡ false) → get_or (merged z s d b) i 0 ≡ plain_at z plain b i
      lay f ef (top c e n) (inr q) = absurd (absent q (who_gives z plain s d j p_pos c b i (plain_at z plain b i) e))
      lay f ef (bare n e) (inr q) = ap (λ (l : List ℕ). get_or l i 0) (merged_base z s d b q) ∙ (sym ef ∙ e)
      lay f ef (top c e n) (inl h) =
          let m = who_gives z plain s d j p_pos c b i (plain_at z plain b i) e in
          logs_over c m i ∙ rw (sym (found_is c m) ∙ e)
      lay f ef (bare n e) (inl h) =
          let w = cache_of b s.writes in
          let m : Maps s.writes b w = record { held = h; is = refl } in
          logs_over w m i ∙ rw (sym (found_is w m) ∙ n w) (sym ef ∙ e)

      go : (f : ℕ → ℕ) × (f i ≡ get_or (base_bytes z s d b) i 0) × Lay (view z (gone z d s.gc)) b f i (plain_at z plain b i)
          → (holds b s.writes ≡ true) ⊎ (holds b s.writes ≡ false) → get_or (merged z s d b) i 0 ≡ plain_at z plain b i
      go t q = lay t.0 t.1 t.2 q

  -- what a read gives
  pub read_plain : (off n : ℕ) → off + n ≤ bucket_size z → part (merged z s d b) off n ≡ part plain (disk_place z b off) n
  unfolding disk_place plain_at
  read_plain off n h = ext_get_or 0 (part (merged z s d b) off n) (part plain (b * bucket_size z + off) n) (merged-length ∙ sym plain-length) (λ i hi.
      let hi' : i < n = omega (arith, merged-length) in
      get_d_part (merged z s d b) off n i hi' ∙ (merged-plain (off + i) ∙ (get_d_part plain (b * bucket_size z) (bucket_size z) (off + i) (omega arith)
      ∙ (ap (λ (x : ℕ). get_or plain x 0) (omega arith) ∙ sym (get_d_part plain (b * bucket_size z + off) n i hi')))))
    where
      merged-length : length (part (merged z s d b) off n) ≡ n
      merged-length = length-part-fits (merged z s d b) off n (rw length_merged h)

      plain-length : length (part plain (b * bucket_size z + off) n) ≡ n
      plain-length = length-part-fits plain (b * bucket_size z + off) n (rw j.plain-length (omega (arith, row_fits_lem b z.b (bucket_size z) hb)))
