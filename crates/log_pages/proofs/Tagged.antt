-- The spare bytes of a log's pages, one behind the other.
use Prim.Native.Nat.{ℕ, zero, suc, ◌+◌, ◌*◌, ◌≤◌}
use mathlib.Core.Path.{◌≡◌, refl}
use mathlib.Core.List.{List}
use native.Mathlib.Omega.{arith}
use lib.ListN.{length, length-append}
use Rattle.lists.specs.Lists.{splice}
use Rattle.lists.proofs.Splices.{splice_next}
use Rattle.model.specs.declared.Sizes.{Sizes}
use Rattle.model.specs.Sizes.{page_index}
use Rattle.model.specs.Spare.{tag_bytes}
use Rattle.log_pages.specs.Logs.{page_tag, tags}
use Rattle.log_pages.specs.declared.Log.{Log}

module _ (z : Sizes) (log : Log) (n : ℕ) where
  pub tag-length : (o : ℕ) → length (page_tag z log n o) ≡ 16
  unfolding tag_bytes
  tag-length o = refl

  tags-length : (o : ℕ) → length (tags z log n o) ≡ o * 16
  unfolding tags
  tags-length zero = refl
  tags-length (suc o) = rw (length-append (tags z log n o) (page_tag z log n o), tags-length o, tag-length o) (omega arith)

  -- those of one page more
  pub tags_more : (spare : List ℕ) (o : ℕ) → page_index z log.bucket log.first * 16 + o * 16 ≤ length spare
      → splice (splice spare (page_index z log.bucket log.first * 16) (tags z log n o)) (page_index z log.bucket (log.first + o) * 16) (page_tag z log n o)
      ≡ splice spare (page_index z log.bucket log.first * 16) (tags z log n (suc o))
  unfolding tags page_index
  tags_more spare o inside =
      let start : ℕ = (log.bucket * z.p + log.first) * 16 in
      let place : (log.bucket * z.p + (log.first + o)) * 16 ≡ start + length (tags z log n o) = rw (tags-length o) (omega arith) in
      rw place (splice_next spare start (tags z log n o) (page_tag z log n o) (rw (tags-length o) inside))
