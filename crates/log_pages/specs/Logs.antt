-- The stores of a log, by the code's description of it.
use Rattle.std.specs.Prelude.{ℕ, zero, suc, ◌+◌, ◌≤◌, ◌<◌, List, [], ◌++◌}
use Rattle.model.specs.declared.Sizes.{Sizes}
use Rattle.model.specs.Sizes.{pages_for}
use Rattle.model.specs.Spare.{tag_bytes}
use Rattle.model.specs.Stores.{Store, program}
use Rattle.model.specs.Steps.{log_store, log_stores}
use Rattle.model.proofs.Limits.{Limits}
use Rattle.log_pages.specs.declared.Log.{Log}

module _ (z : Sizes) (log : Log) where
  -- the spare bytes of page o of a log of n bytes
  abbrev pub page_tag : (n o : ℕ) → List ℕ
  page_tag n o = tag_bytes log.kind o (pages_for z n) log.epoch log.back log.offset n

  -- those of its first pages, so many, one behind the other
  unfoldable pub tags : (n : ℕ) → ℕ → List ℕ
  tags n zero = []
  tags n (suc o) = tags n o ++ page_tag n o

  -- page o of a log of n bytes, by the page's own bytes
  abbrev pub store_of : (n o : ℕ) → List ℕ → Store
  store_of n o page = program log.bucket (log.first + o) page (page_tag n o)

  abbrev pub page_store : List ℕ → ℕ → Store
  page_store = log_store z log.bucket log.first log.kind log.epoch log.back log.offset

  abbrev pub all_stores : List ℕ → List Store
  all_stores = log_stores z log.bucket log.first log.kind log.epoch log.back log.offset

  -- a log of n bytes, at least one, has its pages in the bucket
  pub record Fits (n : ℕ) : Type 0 where
    pub limits : Limits z
    pub bucket : log.bucket < z.c
    pub some : 1 ≤ n
    pub room : log.first + pages_for z n ≤ z.p
