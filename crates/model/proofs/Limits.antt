-- What the limits of document 01 say of the sizes, and of a log's pages.
use Prim.Native.Nat.{ℕ, zero, suc, ◌+◌, ◌-◌, ◌*◌, ◌≤◌, ◌<◌}
use mathlib.Core.Path.{◌≡◌, ap, ◌∙◌}
use mathlib.Core.Bool.{true}
use native.Mathlib.Omega.{arith}
use native.Mathlib.Nat.{add-mul-div_right, div-eq_of_lt, div-add-mod', mod-lt, lt_of_mul-lt-mul_right, mul-le-mul}
use borrow.Author.Tests.{leb-true}
use Rattle.lists.proofs.Tests.{every_at, within_low, within_high}
use Rattle.model.specs.declared.Sizes.{Sizes}
use Rattle.model.specs.Sizes.{limits, bucket_size, pages_for, body}

-- what number 1 says once it is passed
pub record Limits (z : Sizes) : Type 0 where
  pub s_low : 4 ≤ z.s
  pub s_high : z.s ≤ 1024
  pub p_low : 1 ≤ z.p
  pub p_high : z.p ≤ 64
  pub c_low : 3 ≤ z.c
  pub c_high : z.c ≤ 256
  pub b_low : 1 ≤ z.b
  pub b_high : z.b ≤ 65535
  pub r_low : 1 ≤ z.r
  pub r_high : z.r ≤ 64
  pub w_low : 1 ≤ z.w
  pub w_high : z.w ≤ 64
  pub room : z.r + z.w + 1 ≤ body z
  pub ledger_in : body z + 2 ≡ z.c
  pub size_high : bucket_size z ≤ 65536

module _ (z : Sizes) where
  pub limits_of : limits z ≡ true → Limits z
  unfolding limits bucket_size body
  limits_of h =
      let t = every_at _ h in
      let s_high : z.s ≤ 1024 = within_high 4 1024 z.s (t 0) in
      let p_high : z.p ≤ 64 = within_high 1 64 z.p (t 1) in
      let fits : z.r + z.w + 3 ≤ z.c = leb-true (z.r + z.w + 3) z.c (t 6) in
      record {
        s_low = within_low 4 1024 z.s (t 0);
        s_high = s_high;
        p_low = within_low 1 64 z.p (t 1);
        p_high = p_high;
        c_low = within_low 3 256 z.c (t 2);
        c_high = within_high 3 256 z.c (t 2);
        b_low = within_low 1 65535 z.b (t 3);
        b_high = within_high 1 65535 z.b (t 3);
        r_low = within_low 1 64 z.r (t 4);
        r_high = within_high 1 64 z.r (t 4);
        w_low = within_low 1 64 z.w (t 5);
        w_high = within_high 1 64 z.w (t 5);
        room = omega (arith, fits);
        ledger_in = omega (arith, fits);
        size_high = mul-le-mul p_high s_high;
      }

  -- the buckets that stand in queues are on the chip
  pub on_chip : (c : ℕ) → c < body z → c < z.c
  unfolding body
  on_chip c h = omega arith

  -- ---- a log's pages

  -- they hold its bytes
  pub pages_hold : (n : ℕ) → 1 ≤ z.s → n ≤ pages_for z n * z.s
  unfolding pages_for
  pages_hold n h = omega (arith, div-add-mod' (n + z.s - 1) z.s, mod-lt (n + z.s - 1) h)

  -- one page less would not
  pub pages_least : (n : ℕ) → 1 ≤ z.s → pages_for z n * z.s < n + z.s
  unfolding pages_for
  pages_least n h = omega (arith, div-add-mod' (n + z.s - 1) z.s)

  pub pages-some : (n : ℕ) → 1 ≤ z.s → 1 ≤ n → 1 ≤ pages_for z n
  pages-some n h k = go (pages_for z n) (pages_hold n h)
    where
      go : (m : ℕ) → n ≤ m * z.s → 1 ≤ m
      go zero q = absurd (omega arith)
      go (suc m) q = omega arith

  pub pages_whole : 1 ≤ z.s → pages_for z (bucket_size z) ≡ z.p
  unfolding pages_for bucket_size
  pages_whole h =
      let e : z.p * z.s + z.s - 1 ≡ (z.s - 1) + z.p * z.s = omega arith in
      rw e (add-mul-div_right (z.s - 1) z.p h ∙ ap (λ (x : ℕ). x + z.p) (div-eq_of_lt (omega arith)) ∙ omega arith)

  pub pages_fit : (n : ℕ) → 1 ≤ z.s → n ≤ bucket_size z → pages_for z n ≤ z.p
  unfolding bucket_size
  pages_fit n h k =
      let q : pages_for z n < suc z.p = lt_of_mul-lt-mul_right z.s (omega (arith, pages_least n h)) in
      omega arith
