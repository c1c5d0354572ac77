-- A log's pages: how many there may be, and the bytes of each.
use Prim.Native.Nat.{ℕ, ◌+◌, ◌-◌, ◌*◌, ◌≤◌, ◌<◌}
use mathlib.Core.Path.{◌≡◌, sym, ap, ◌∙◌}
use mathlib.Core.List.{List, ◌++◌}
use native.Mathlib.Omega.{arith}
use native.Mathlib.Nat.{mul-le-mul_right}
use lib.ListN.{length, take, drop, length-drop}
use lib.Seq.{take_all, take-append-le, take-append-add}
use Rattle.lists.specs.Lists.{part, ff}
use Rattle.lists.proofs.Parts.{part-ff, length-ff}
use Rattle.model.specs.declared.Sizes.{Sizes}
use Rattle.model.specs.Sizes.{pages_for}
use Rattle.model.specs.Stores.{page_bytes}
use Rattle.model.proofs.Limits.{pages_hold, pages_least}
use Rattle.geometry.proofs.Passed.{products}
use Rattle.geometry.proofs.Places.{nth_inside}
use Rattle.log_pages.specs.Logs.{Fits}
use Rattle.log_pages.specs.declared.Log.{Log}

-- the numbers of a log that fits: the code's casts and sums stay within their widths
pub record Small (z : Sizes) (n : ℕ) : Type 0 where
  pub pages : pages_for z n ≤ 64
  pub bytes : n ≤ 65536

pub small : {z : Sizes} {log : Log} {n : ℕ} → Fits z log n → Small z n
small {z} {log} {n} f =
    let l = f.limits in
    let pages : pages_for z n ≤ z.p = omega (arith, f.room) in
    record {
      pages = omega (arith, l.p_high);
      bytes = omega (arith, pages_hold z n (omega (arith, l.s_low)), mul-le-mul_right z.s pages, (products l).bucket);
    }

-- every page of a log begins before its end
pub page_begins : {z : Sizes} {log : Log} {n : ℕ} → Fits z log n → (o : ℕ) → o < pages_for z n → o * z.s < n
page_begins {z} {log} {n} f o k = omega (arith, nth_inside o (pages_for z n) z.s k, pages_least z n (omega (arith, f.limits.s_low)))

rest-ff : (s n : ℕ) → n ≤ s → drop n (ff s) ≡ ff (s - n)
unfolding part
rest-ff s n h =
    sym (take_all (s - n) (drop n (ff s)) (omega (arith, length-drop n (ff s), length-ff s))) ∙ part-ff s n (s - n) (omega arith)

pub front_ff : (s n : ℕ) → n ≤ s → take n (ff s) ≡ ff n
unfolding part
front_ff s n h = part-ff s 0 n (omega arith)

-- the front of a list, past the end of its first part
front-append : (s : ℕ) (l m : List ℕ) → length l ≤ s → take s (l ++ m) ≡ l ++ take (s - length l) m
front-append s l m h =
    let split : s ≡ length l + (s - length l) = omega arith in
    ap (λ (n : ℕ). take n (l ++ m)) split ∙ take-append-add l m (s - length l)

module _ (z : Sizes) (bytes : List ℕ) (o : ℕ) where
  -- a whole page is a part of the log
  pub page_whole : o * z.s + z.s ≤ length bytes → part bytes (o * z.s) z.s ≡ page_bytes z bytes o
  unfolding part page_bytes
  page_whole h = sym (take-append-le z.s (drop (o * z.s) bytes) (ff z.s) (simp length-drop (omega arith)))

  -- the last one is what there is of its bytes, laid over FF
  pub page_laid : length bytes ≤ o * z.s + z.s → z.s ≤ 1024 → take z.s (drop (o * z.s) bytes ++ drop (length (drop (o * z.s) bytes)) (ff 1024)) ≡ page_bytes z bytes o
  unfolding page_bytes
  page_laid h k =
      let rest = drop (o * z.s) bytes in
      let n = length rest in
      let short : n ≤ z.s = simp length-drop (omega arith) in
      rw (front-append z.s rest (drop n (ff 1024)) short, front-append z.s rest (ff z.s) short, rest-ff 1024 n (omega arith))
      (ap (λ (m : List ℕ). rest ++ m) (front_ff (1024 - n) (z.s - n) (omega arith) ∙ sym (front_ff z.s (z.s - n) (omega arith))))
