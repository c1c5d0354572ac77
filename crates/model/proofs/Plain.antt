-- The plain disk's bytes of one back-end bucket, and what a write makes of them.
use Prim.Native.Nat.{ℕ, ◌+◌, ◌-◌, ◌*◌, ◌≤◌, ◌<◌}
use mathlib.Core.Path.{◌≡◌, sym, ap, ◌∙◌}
use mathlib.Core.Logic.{◌⊎◌, inl, inr, ◌≢◌}
use mathlib.Core.List.{List}
use native.Mathlib.Omega.{arith}
use native.Mathlib.Decide.{dec_lt}
use lib.ListN.{length, get_or}
use Rattle.lists.specs.Lists.{splice}
use Rattle.lists.proofs.Parts.{At, at, outside, inside, get_d_part, get_d_beyond, part_other, Apart}
use Rattle.model.specs.declared.Sizes.{Sizes}
use Rattle.model.specs.Sizes.{bucket_size}
use Rattle.model.specs.Promise.{disk_place}
use Rattle.model.proofs.Safe.{plain_at}
use Rattle.model.proofs.Frames.{row_apart}

module _ (z : Sizes) where
  pub plain_get : (plain : List ℕ) (b i : ℕ) → i < bucket_size z → plain_at z plain b i ≡ get_or plain (disk_place z b i) 0
  unfolding plain_at disk_place
  plain_get plain b i h = get_d_part plain (b * bucket_size z) (bucket_size z) i h

  pub plain_beyond : (plain : List ℕ) (b i : ℕ) → bucket_size z ≤ i → plain_at z plain b i ≡ 0
  unfolding plain_at
  plain_beyond plain b i h = get_d_beyond plain (b * bucket_size z) (bucket_size z) i h

  module _ (plain : List ℕ) (b off : ℕ) (bytes : List ℕ) (fits : off + length bytes ≤ bucket_size z) (room : disk_place z b off + length bytes ≤ length plain) where
    abbrev moved : List ℕ
    moved = splice plain (disk_place z b off) bytes

    pub plain_others : (b' i : ℕ) → b' ≢ b → plain_at z moved b' i ≡ plain_at z plain b' i
    unfolding plain_at disk_place
    plain_others b' i ne = ap (λ (l : List ℕ). get_or l i 0)
        (part_other plain (b * bucket_size z + off) bytes (b' * bucket_size z) (bucket_size z) room (go (row_apart b b' (bucket_size z) (λ q. ne (sym q)))))
      where
        go : Apart (b * bucket_size z) (bucket_size z) (b' * bucket_size z) (bucket_size z)
            → Apart (b * bucket_size z + off) (length bytes) (b' * bucket_size z) (bucket_size z)
        go (inl a) = inl (omega arith)
        go (inr a) = inr (omega arith)

    pub plain_out : (i : ℕ) → (i < off) ⊎ (off + length bytes ≤ i) → plain_at z moved b i ≡ plain_at z plain b i
    unfolding disk_place
    plain_out i o = go (dec_lt i (bucket_size z))
      where
        pick : At plain (b * bucket_size z + off) bytes (b * bucket_size z + i) → (i < off) ⊎ (off + length bytes ≤ i)
            → get_or moved (b * bucket_size z + i) 0 ≡ get_or plain (b * bucket_size z + i) 0
        pick (outside x e) r = e
        pick (inside k hk ek e) (inl r) = absurd (omega arith)
        pick (inside k hk ek e) (inr r) = absurd (omega arith)

        go : Dec (i < bucket_size z) → plain_at z moved b i ≡ plain_at z plain b i
        go (no u) = plain_beyond moved b i (omega arith) ∙ sym (plain_beyond plain b i (omega arith))
        go (yes u) = plain_get moved b i u ∙ pick (at plain (b * bucket_size z + off) bytes room (b * bucket_size z + i)) o ∙ sym (plain_get plain b i u)

    pub plain_in : (i : ℕ) → off ≤ i → i < off + length bytes → plain_at z moved b i ≡ get_or bytes (i - off) 0
    unfolding disk_place
    plain_in i low high = plain_get moved b i (omega arith) ∙ pick (at plain (b * bucket_size z + off) bytes room (b * bucket_size z + i))
      where
        pick : At plain (b * bucket_size z + off) bytes (b * bucket_size z + i) → get_or moved (b * bucket_size z + i) 0 ≡ get_or bytes (i - off) 0
        pick (outside (inl x) e) = absurd (omega arith)
        pick (outside (inr x) e) = absurd (omega arith)
        pick (inside k hk ek e) = e ∙ ap (λ (x : ℕ). get_or bytes x 0) (omega arith)
