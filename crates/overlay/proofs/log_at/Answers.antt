use Rattle.overlay.proofs.Found.{place, lays_nothing, lays_log}
use Rattle.overlay.specs.Window.{Tagged, LogPlace}
use Rattle.spare.specs.declared.Fields.{Fields}
use Rattle.spare.specs.Fields.{fields}
use Rattle.lists.specs.Lists.{part}
use Rattle.model.specs.declared.Sizes.{Sizes}
use Rattle.image.specs.Chip.{spare_only}
use Rattle.geometry.proofs.Places.{page_spare, bucket_data}
use Rattle.geometry.proofs.Passed.{products}
use Rattle.model.proofs.Limits.{on_chip}
use Rattle.model.specs.Image.{ends_log}
use Rattle.model.specs.Stores.{tag_of}
use Rattle.model.specs.Sizes.{bucket_size, flash_size, page_index, body}
use native.Mathlib.Omega.{arith}
use mathlib.Core.Bool.{true}
use mathlib.Core.Path.{◌≡◌, sym, ◌∙◌}
use Prim.Native.Nat.{ℕ, ◌+◌, ◌-◌, ◌*◌, ◌≤◌, ◌<◌}
use mathlib.Core.List.{List}
use lib.ListN.{length}
use Rattle.overlay.proofs.log_at.Goals as goal

module _ {z : Sizes} {spare : List ℕ} {c k : ℕ} (tagged : Tagged z spare) (asked : (c < body z) × (k < z.p)) where
  inside : (c * z.p + k) * 16 + 16 ≤ length spare
  inside = omega (arith, page_spare z c k (on_chip z c asked.0) asked.1, tagged.spare_length)

  -- a complete log ends there
  module _ {f : Fields} (says : f ≡ fields (part spare ((c * z.p + k) * 16) 16)) (complete : ends_log z (spare_only spare) c k ≡ true) where
    laid : LogPlace z k f
    unfolding tag_of page_index
    laid = rw says (place tagged asked.0 asked.1 complete)

    -- where its bytes lie
    laid_at : c * (z.p * z.s) + (k + 1 - f.pages) * z.s ≤ 16777216
    unfolding bucket_size flash_size
    laid_at = omega (arith, laid.stored, (products tagged.limits).flash, bucket_data z c (on_chip z c asked.0))

pub returns-then-not-ends_log : goal.returns-then-not-ends_log
returns-then-not-ends_log c = let p = c.requires in
    lays_nothing p.tagged p.c_bound.0 p.c_bound.1 (sym c.ends_log.ensures ∙ c.if-not-ends_log.true)

pub overflow_mul-c : goal.overflow_mul-c
overflow_mul-c c = omega (arith, inside c.requires.tagged c.requires.c_bound)

pub overflow_add-c : goal.overflow_add-c
overflow_add-c c = omega (arith, inside c.requires.tagged c.requires.c_bound)

pub fields_at-f-requires : goal.fields_at-f-requires
fields_at-f-requires c = omega (arith, inside c.requires.tagged c.requires.c_bound)

pub overflow_sub-first : goal.overflow_sub-first
overflow_sub-first c = omega (arith, (laid c.requires.tagged c.requires.c_bound c.fields_at-f.ensures (sym c.ends_log.ensures ∙ c.if-not-ends_log.false)).pages)

pub overflow_mul-at : goal.overflow_mul-at
overflow_mul-at c = omega (arith, products c.requires.tagged.limits)

pub overflow_mul-at-2 : goal.overflow_mul-at-2
overflow_mul-at-2 c = omega (arith, laid_at c.requires.tagged c.requires.c_bound c.fields_at-f.ensures (sym c.ends_log.ensures ∙ c.if-not-ends_log.false))

pub overflow_mul-at-3 : goal.overflow_mul-at-3
overflow_mul-at-3 c = omega (arith, laid_at c.requires.tagged c.requires.c_bound c.fields_at-f.ensures (sym c.ends_log.ensures ∙ c.if-not-ends_log.false))

pub overflow_add-at : goal.overflow_add-at
overflow_add-at c = omega (arith, laid_at c.requires.tagged c.requires.c_bound c.fields_at-f.ensures (sym c.ends_log.ensures ∙ c.if-not-ends_log.false))

pub returns : goal.returns
unfolding tag_of page_index bucket_size
returns c = let p = c.requires in
    rw c.fields_at-f.ensures (lays_log p.tagged p.c_bound.0 p.c_bound.1 (sym c.ends_log.ensures ∙ c.if-not-ends_log.false))
