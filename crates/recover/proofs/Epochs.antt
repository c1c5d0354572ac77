-- The epochs of a spare area of bytes: four bytes each.
use Prim.Native.Nat.{ℕ, ◌+◌, ◌*◌, ◌≤◌, ◌<◌}
use mathlib.Core.Path.{◌≡◌, refl}
use mathlib.Core.Bool.{Bool, true, false}
use mathlib.Core.List.{List}
use native.Mathlib.Omega.{arith}
use lib.ListN.{get_or}
use Rattle.std.specs.Prelude.{if◌then◌else◌}
use Rattle.lists.proofs.Parts.{get_d_part}
use Rattle.model.specs.declared.Sizes.{Sizes}
use Rattle.model.specs.Sizes.{body, page_index}
use Rattle.model.specs.Stores.{tag_of}
use Rattle.model.specs.Spare.{two, four, programmed, epoch}
use Rattle.model.specs.Image.{used, epoch_of}
use Rattle.model.specs.Ledger.{ledger_tag}
use Rattle.model.specs.State.{entry_epoch, top_epoch}
use Rattle.model.proofs.Heads.{head_page}
use Rattle.model.proofs.Formed.{top_least, epoch-used, epoch_unused}
use Rattle.image.specs.Chip.{spare_only}

module _ (z : Sizes) (some : 1 ≤ z.p) (spare : List ℕ) (bytes : (i : ℕ) → get_or spare i 0 < 256) where
  tag_byte : (c k i : ℕ) → i < 16 → get_or (tag_of z (spare_only spare) c k) i 0 < 256
  unfolding tag_of
  tag_byte c k i h = rw (get_d_part spare (page_index z c k * 16) 16 i h) (bytes (page_index z c k * 16 + i))

  tag-epoch : (c k : ℕ) → epoch (tag_of z (spare_only spare) c k) ≤ 4294967295
  unfolding epoch four two
  tag-epoch c k = omega (arith, tag_byte c k 4 (omega arith), tag_byte c k 5 (omega arith), tag_byte c k 6 (omega arith), tag_byte c k 7 (omega arith))

  epoch-fits : (c : ℕ) → epoch_of z (spare_only spare) c ≤ 4294967295
  epoch-fits c = go (used z (spare_only spare) c) refl
    where
      go : (t : Bool) → used z (spare_only spare) c ≡ t → epoch_of z (spare_only spare) c ≤ 4294967295
      go true e = let h = head_page z some (spare_only spare) c in rw (epoch-used z (spare_only spare) c e, h.is) (tag-epoch c h.page)
      go false e = rw (epoch_unused z (spare_only spare) c e) (omega arith)

  entry-fits : (i : ℕ) → entry_epoch z (spare_only spare) i ≤ 4294967295
  unfolding entry_epoch ledger_tag
  entry-fits i = go (programmed (tag_of z (spare_only spare) (body z) i))
    where
      go : (t : Bool) → (if t then epoch (tag_of z (spare_only spare) (body z) i) else 0) ≤ 4294967295
      go true = tag-epoch (body z) i
      go false = omega arith

  pub top_fits : top_epoch z (spare_only spare) ≤ 4294967295
  top_fits = top_least z (spare_only spare) 4294967295 (λ c h. epoch-fits c) (λ i h. entry-fits i)
