-- While the units of one back-end bucket after the other are written, the bytes of those ahead stay as they were.
use Prim.Native.Nat.{ℕ, ◌≤◌, ◌<◌}
use mathlib.Core.Path.{◌≡◌, sym, ap, ◌∙◌}
use mathlib.Core.Bool.{Bool, true, false}
use mathlib.Core.List.{List}
use native.Mathlib.Omega.{arith}
use Rattle.std.specs.Prelude.{if◌then◌else◌}
use Rattle.model.specs.declared.Sizes.{Sizes}
use Rattle.model.specs.Sizes.{Device}
use Rattle.model.specs.Stores.{bucket_bytes, disk_bytes, unit_stores}
use Rattle.model.specs.Image.{merge}
use Rattle.model.specs.State.{State, holds, cache_of}
use Rattle.model.specs.Steps.{base_bytes, merged}
use Rattle.model.specs.Operations.{drain_stores}
use Rattle.geometry.specs.Geometry.{device}
use Rattle.geometry.proofs.Passed.{lengths_of}
use Rattle.meter.specs.declared.Meter.{Meter}
use Rattle.meter.specs.Run.{Run, running, run_all}
use Rattle.units.proofs.Kept.{units_kept}
use Rattle.overlay.proofs.SameChip.{same-merge}
use Rattle.gather.specs.Sources.{Sources}
use Rattle.gather.proofs.Gathered.{merged_size}

-- the disk has its bytes from the back-end bucket b on still
pub record Ahead (z : Sizes) (flash spare : List ℕ) (b : ℕ) (before now : List ℕ) : Type 0 where
  pub same : (x : ℕ) → b ≤ x → disk_bytes z (device flash spare now) x ≡ disk_bytes z (device flash spare before) x

module _ {z : Sizes} {flash spare before now : List ℕ} {b : ℕ} (s : State) (ahead : Ahead z flash spare b before now) where
  abbrev d : Device
  d = device flash spare before

  abbrev e : Device
  e = device flash spare now

  base_ahead : base_bytes z s e b ≡ base_bytes z s d b
  unfolding base_bytes bucket_bytes
  base_ahead = rw (ahead.same b (omega arith))

  merge-ahead : (c : ℕ) (base : List ℕ) → merge z e c base ≡ merge z d c base
  merge-ahead c base = sym (same-merge z e c base) ∙ same-merge z d c base

  merged-ahead : merged z s e b ≡ merged z s d b
  unfolding merged
  merged-ahead = at (holds b s.writes)
    where
      at : (t : Bool)
          → (if t then merge z e (cache_of b s.writes) (base_bytes z s e b) else base_bytes z s e b)
          ≡ (if t then merge z d (cache_of b s.writes) (base_bytes z s d b) else base_bytes z s d b)
      at true = merge-ahead (cache_of b s.writes) (base_bytes z s e b) ∙ ap (merge z d (cache_of b s.writes)) base_ahead
      at false = base_ahead

  pub stores_ahead : unit_stores z b (merged z s e b) ≡ drain_stores z d s b
  unfolding drain_stores
  stores_ahead = ap (unit_stores z b) merged-ahead

-- past the units of b
pub ahead_more : {s : State} {b : ℕ} {flash spare before now after : List ℕ} {rest : Meter} (left : Meter) → Sources s b flash spare now
    → running flash spare after rest ≡ run_all s.sizes (unit_stores s.sizes b (merged s.sizes s (device flash spare now) b)) (running flash spare now left)
    → Ahead s.sizes flash spare b before now → (n : ℕ) → b < n → Ahead s.sizes flash spare n before after
ahead_more {s} {b} {flash} {spare} {before} {now} left from run ahead n h =
    let z = s.sizes in
    let kept = units_kept z b (merged z s (device flash spare now) b) from.back (merged_size from) (running flash spare now left) (lengths_of from.lent) in
    record { same = λ x g. ap (λ (r : Run). disk_bytes z r.device x) run ∙ kept.others x (λ q. omega arith) ∙ ahead.same x (omega arith) }
