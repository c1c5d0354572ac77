-- The whole pages of a log that an allowance lets be made are one splice into the chip's data bytes and one into its spare bytes.
use Prim.Native.Nat.{ℕ, suc, ◌+◌, ◌*◌, ◌≤◌, ◌<◌}
use mathlib.Core.Path.{◌≡◌, sym, ap, ◌∙◌}
use mathlib.Core.List.{List}
use native.Mathlib.Nat.{suc-mul, zero-mul, mul-le-mul_right}
use native.Mathlib.Omega.{arith}
use lib.ListN.{length, take, drop}
use lib.Seq.{take-add, length-take-le}
use Rattle.lists.specs.Lists.{row, splice, part}
use Rattle.lists.proofs.Splices.{splice-none, splice_next}
use Rattle.model.specs.declared.Sizes.{Sizes}
use Rattle.model.specs.Sizes.{Device, page_index}
use Rattle.model.specs.Stores.{apply, page_bytes}
use Rattle.model.specs.Steps.{log_store}
use Rattle.geometry.specs.Geometry.{device}
use Rattle.meter.specs.declared.Meter.{Meter}
use Rattle.meter.specs.Run.{running, allowed, spent, run_all}
use Rattle.meter.proofs.Runs.{row_run}
use Rattle.log_pages.specs.Logs.{tags, page_store}
use Rattle.log_pages.specs.declared.Log.{Log}
use Rattle.log_pages.proofs.Pages.{page_whole}
use Rattle.log_pages.proofs.Tagged.{tags_more}

module _ (z : Sizes) (log : Log) (bytes flash spare disk : List ℕ) (m : Meter) where
  abbrev first : ℕ
  first = page_index z log.bucket log.first

  -- so many pages on the chip
  abbrev laid : ℕ → List ℕ
  laid n = splice flash (first * z.s) (take (n * z.s) bytes)

  abbrev tagged : ℕ → List ℕ
  tagged n = splice spare (first * 16) (tags z log (length bytes) n)

  -- the first `all` pages are whole, and there is room for them
  module _ (all : ℕ) (whole : all * z.s ≤ length bytes) (data_inside : first * z.s + all * z.s ≤ length flash) (spare_inside : first * 16 + all * 16 ≤ length spare) where
    -- one page more
    laid_more : (n : ℕ) → n < all → splice (laid n) (page_index z log.bucket (log.first + n) * z.s) (page_bytes z bytes n) ≡ laid (suc n)
    unfolding page_index part
    laid_more n h =
        let here : n * z.s + z.s ≤ all * z.s = rw suc-mul at (mul-le-mul_right z.s h) in
        let shown : length (take (n * z.s) bytes) ≡ n * z.s = length-take-le (n * z.s) bytes (omega arith) in
        let start : ℕ = (log.bucket * z.p + log.first) * z.s in
        let place : (log.bucket * z.p + (log.first + n)) * z.s ≡ start + length (take (n * z.s) bytes) = rw shown (omega arith) in
        rw (place, ← page_whole z bytes n (omega arith), suc-mul, take-add)
        (splice_next flash start (take (n * z.s) bytes) (take z.s (drop (n * z.s) bytes)) (rw shown (omega arith)))

    leads : (n : ℕ) → n < all → apply z (device (laid n) (tagged n) disk) (page_store z log bytes n) ≡ device (laid (suc n)) (tagged (suc n)) disk
    unfolding apply log_store
    leads n h = rw (laid_more n h, tags_more z log (length bytes) spare n (omega arith))

    none : device (laid 0) (tagged 0) disk ≡ device flash spare disk
    unfolding tags
    none = rw (zero-mul z.s, splice-none flash (first * z.s), splice-none spare (first * 16))

    pub pages_spliced : (n : ℕ) → n ≤ all → run_all z (row n (page_store z log bytes)) (running flash spare disk m) ≡ running (laid (allowed n m)) (tagged (allowed n m)) disk (spent n m)
    pages_spliced n h =
        ap (λ (d : Device). run_all z (row n (page_store z log bytes)) (record { device = d; meter = m })) (sym none)
        ∙ row_run z (page_store z log bytes) (λ k. device (laid k) (tagged k) disk) m n (λ k below. leads k (omega arith))
