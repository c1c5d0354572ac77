use Prim.Native.Nat.{ℕ, ◌+◌, ◌-◌, ◌*◌, ◌≤◌, ◌<◌}
use mathlib.Core.List.{List}
use mathlib.Core.Path.{◌≡◌}
use native.Mathlib.Omega.{arith}
use lib.ListN.{length}
use borrow.Rule.Slice.PartMut.{mid_of}
use Rattle.overlay.proofs.Logs.{in_flash}
use Rattle.overlay.specs.Window.{LogPlace, log_part}
use Rattle.geometry.proofs.Passed.{products}
use Rattle.model.specs.declared.Sizes.{Sizes}
use Rattle.spare.specs.declared.Fields.{Fields}
use Rattle.model.specs.Sizes.{bucket_size, flash_size}
use Rattle.lists.proofs.Lent.{lent_part, lent_length}
use Rattle.merge.proofs.lay_log.Goals as goal

-- where the log's bytes begin, and how many they are
abbrev start : Sizes → (c k : ℕ) → Fields → ℕ
start z c k f = c * (z.p * z.s) + (k + 1 - f.pages) * z.s

abbrev count : Fields → ℕ
count f = f.last + 1

module _ {z : Sizes} {k : ℕ} {f : Fields} (flash : List ℕ) (c : ℕ)
    (flash_length : length flash ≡ flash_size z) (on_chip : c < z.c) (log : LogPlace z k f) where
  -- they lie within the flash
  bounds : start z c k f + count f ≤ length flash
  unfolding bucket_size
  bounds = omega (arith, in_flash z flash c _ flash_length on_chip log.stored)

  -- and within the bucket that they are laid over
  place : f.offset + length (mid_of (start z c k f) ((start z c k f + count f) - start z c k f) flash) ≤ bucket_size z
  place = rw (lent_length flash (start z c k f) (count f) bounds) log.place

pub overflow_mul-bucket : goal.overflow_mul-bucket
overflow_mul-bucket c = omega (arith, products c.requires.limits)

pub overflow_mul-start : goal.overflow_mul-start
overflow_mul-start c = omega (arith, bounds c.args.flash.now c.args.c c.requires.flash_len c.requires.c_lt_c c.requires.log_place)

pub overflow_mul-start-2 : goal.overflow_mul-start-2
overflow_mul-start-2 c = omega (arith, bounds c.args.flash.now c.args.c c.requires.flash_len c.requires.c_lt_c c.requires.log_place)

pub overflow_add-start : goal.overflow_add-start
overflow_add-start c = omega (arith, bounds c.args.flash.now c.args.c c.requires.flash_len c.requires.c_lt_c c.requires.log_place)

pub overflow_add-end-2 : goal.overflow_add-end-2
overflow_add-end-2 c = omega (arith, bounds c.args.flash.now c.args.c c.requires.flash_len c.requires.c_lt_c c.requires.log_place)

pub slice_bounds-lay-end : goal.slice_bounds-lay-end
slice_bounds-lay-end c = omega (arith, bounds c.args.flash.now c.args.c c.requires.flash_len c.requires.c_lt_c c.requires.log_place)

pub lay-requires : goal.lay-requires
unfolding bucket_size
lay-requires c = let a = c.args in let p = c.requires in
    let inside = place a.flash.now a.c p.flash_len p.c_lt_c p.log_place in
    record { window_bound = omega (arith, c.requires.window_bound); bytes_bound = omega (arith, inside) }

pub returns : goal.returns
unfolding bucket_size log_part
returns c = λ whole e shows. let a = c.args in let p = c.requires in
    let inside = place a.flash.now a.c p.flash_len p.c_lt_c p.log_place in
    let shown : a.from + length a.window.now ≤ length whole = omega (arith, e, p.window_bound) in
    rw (lent_part a.flash.now (start a.z a.c a.k a.f) (count a.f)) at (c.lay.ensures whole shown (rw e inside) shows)
