-- Ranges within a bucket, tested without their sum.
use Prim.Native.Nat.{ℕ, ◌+◌, ◌-◌, ◌≤◌, ◌<◌}
use mathlib.Core.Path.{◌≡◌, refl, sym, ap, ◌∙◌}
use mathlib.Core.Bool.{Bool, true, false, ◌&&◌}
use native.Mathlib.Omega.{arith}
use lib.Dec.{leb}
use borrow.Author.Tests.{leb-true, leb-false, le-leb, lt-leb}
use Rattle.lists.proofs.Tests.{and_false}
use Rattle.model.specs.declared.Sizes.{Sizes}
use Rattle.model.specs.Sizes.{bucket_size}
use Rattle.model.specs.Calls.{range_fits}

module _ (z : Sizes) (off n : ℕ) where
  pub range_beyond : bucket_size z < off → range_fits z off n ≡ false
  unfolding range_fits
  range_beyond h = rw (lt-leb (off + n) (bucket_size z) (omega arith)) (and_false (leb 1 n))

  pub range_left : off ≤ bucket_size z → (leb 1 n && leb n (bucket_size z - off)) ≡ range_fits z off n
  unfolding range_fits
  range_left h = ap (λ (t : Bool). leb 1 n && t) (go (leb n (bucket_size z - off)) refl)
    where
      go : (t : Bool) → leb n (bucket_size z - off) ≡ t → leb n (bucket_size z - off) ≡ leb (off + n) (bucket_size z)
      go true e = let k : n ≤ bucket_size z - off = leb-true n (bucket_size z - off) e in e ∙ sym (le-leb (off + n) (bucket_size z) (omega arith))
      go false e = let k : bucket_size z - off < n = leb-false n (bucket_size z - off) e in e ∙ sym (lt-leb (off + n) (bucket_size z) (omega arith))
