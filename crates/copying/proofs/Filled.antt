-- The pages of a copy that an allowance lets be made are one splice into the room, and all of them are the whole copy.
use Prim.Native.Nat.{ℕ, ◌+◌, ◌*◌, ◌≤◌, ◌<◌, min}
use mathlib.Core.Path.{◌≡◌, sym, ap, ◌∙◌}
use mathlib.Core.Bool.{Bool, true, false, ◌||◌, true≢false}
use mathlib.Core.List.{List}
use native.Mathlib.Nat.{add-zero, mul_assoc}
use native.Mathlib.Omega.{arith}
use lib.ListN.{length, take}
use lib.Seq.{take_all}
use lib.Dec.{ltb}
use borrow.Author.Tests.{ltb-false}
use Rattle.lists.specs.Lists.{splice, part}
use Rattle.lists.proofs.Parts.{part_same}
use Rattle.model.specs.declared.Sizes.{Sizes}
use Rattle.model.specs.Sizes.{bucket_size, page_index, pages_for}
use Rattle.model.specs.Steps.{log_stores}
use Rattle.model.proofs.Limits.{Limits, pages_whole}
use Rattle.geometry.specs.Geometry.{Lent}
use Rattle.geometry.proofs.Places.{bucket_data, bucket_spare}
use Rattle.meter.specs.declared.Meter.{Meter}
use Rattle.meter.specs.Run.{running, allowed, spent, run_all}
use Rattle.log_pages.specs.declared.Log.{Log}
use Rattle.log_pages.specs.Logs.{tags, all_stores}
use Rattle.log_pages.proofs.Spliced.{pages_spliced}

module _ (z : Sizes) (limits : Limits z) (log : Log) (begins : log.first ≡ 0) (inside : log.bucket < z.c) (bytes : List ℕ) (size : length bytes ≡ bucket_size z) where
  all-pages : pages_for z (length bytes) ≡ z.p
  all-pages = ap (pages_for z) size ∙ pages_whole z (omega (arith, limits.s_low))

  all_whole : z.p * z.s ≤ length bytes
  unfolding bucket_size
  all_whole = omega (arith, size)

  start : page_index z log.bucket log.first * z.s ≡ log.bucket * bucket_size z
  unfolding page_index bucket_size
  start = rw (begins, add-zero, mul_assoc)

  module _ (flash spare disk : List ℕ) (lent : Lent z flash spare disk) (m : Meter) where
    bucket_inside : log.bucket * bucket_size z + bucket_size z ≤ length flash
    unfolding bucket_size
    bucket_inside = omega (arith, bucket_data z log.bucket inside, lent.flash_length)

    tags_inside : page_index z log.bucket log.first * 16 + z.p * 16 ≤ length spare
    unfolding page_index
    tags_inside = rw (begins, add-zero) (omega (arith, bucket_spare z log.bucket inside, lent.spare_length))

    data_inside : page_index z log.bucket log.first * z.s + z.p * z.s ≤ length flash
    unfolding bucket_size
    data_inside = rw start bucket_inside

    pub copy_spliced : run_all z (all_stores z log bytes) (running flash spare disk m)
        ≡ running (splice flash (log.bucket * bucket_size z) (take (allowed z.p m * z.s) bytes)) (splice spare (page_index z log.bucket log.first * 16) (tags z log (bucket_size z) (allowed z.p m))) disk (spent z.p m)
    unfolding log_stores
    copy_spliced =
        rw (all-pages, ← start, ← size)
        (pages_spliced z log bytes flash spare disk m z.p all_whole data_inside tags_inside z.p (omega arith))

    neither : (t u : Bool) → (t || u) ≡ false → u ≡ false
    neither true u h = absurd (true≢false h)
    neither false u h = h

    -- unless it was cut, all pages are made
    pub copy_whole : (spent z.p m).cut ≡ false → part (splice flash (log.bucket * bucket_size z) (take (allowed z.p m * z.s) bytes)) (log.bucket * bucket_size z) (bucket_size z) ≡ bytes
    unfolding spent bucket_size
    copy_whole h =
        let enough : z.p ≤ m.left = ltb-false m.left z.p (neither m.cut (ltb m.left z.p) h) in
        let made : min m.left z.p ≡ z.p = omega arith in
        rw (made, take_all (z.p * z.s) bytes (omega (arith, size)))
        (ap (part (splice flash (log.bucket * (z.p * z.s)) bytes) (log.bucket * (z.p * z.s))) (sym size)
        ∙ part_same flash (log.bucket * (z.p * z.s)) bytes (omega (arith, size, bucket_inside)))
