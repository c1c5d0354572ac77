-- The chip with the buckets of a queue erased.
use Prim.Native.Nat.{ℕ, ◌≤◌, ◌<◌}
use mathlib.Core.Path.{◌≡◌, refl, sym, ap, ◌∙◌}
use mathlib.Core.Logic.{◌≢◌}
use mathlib.Core.Option.{none}
use mathlib.Core.List.{List, [], ◌∷◌, map}
use native.Mathlib.Omega.{arith}
use native.Mathlib.Decide.{ℕ_discrete, dec_lt}
use Rattle.lists.specs.Lists.{times, ff}
use Rattle.lists.proofs.Counts.{times_self, times_other, times_cons}
use Rattle.model.specs.declared.Sizes.{Sizes}
use Rattle.model.specs.Sizes.{Device}
use Rattle.model.specs.Stores.{erase, apply, apply_all, tag_of, disk_bytes}
use Rattle.model.proofs.Safe.{gives_of}
use Rattle.model.proofs.Frames.{Lengths, lengths_kept, tag_erased, disk_erased}
use Rattle.model.proofs.Show.{Same, same_refl, same_trans, same_erase, gives_same}
use Rattle.model.proofs.Buckets.{blank_gives}

module _ (z : Sizes) where
  abbrev pub gone : Device → List ℕ → Device
  gone d gs = apply_all z d (map erase gs)

  abbrev pub Below : List ℕ → Type 0
  Below gs = (g : ℕ) → 1 ≤ times g gs → g < z.c

  pub below-head : (g : ℕ) (gs : List ℕ) → Below (g ∷ gs) → g < z.c
  below-head g gs h = h g (omega (arith, times_cons g g gs, times_self g))

  pub below_tail : (g : ℕ) (gs : List ℕ) → Below (g ∷ gs) → Below gs
  below_tail g gs h x hx = h x (omega (arith, times_cons x g gs))

  pub gone_lengths : (gs : List ℕ) → Below gs → (d : Device) → Lengths z d → Lengths z (gone d gs)
  unfolding apply_all
  gone_lengths [] h d L = L
  gone_lengths (g ∷ gs) h d L = gone_lengths gs (below_tail g gs h) (apply z d (erase g)) (lengths_kept z d L (erase g) (below-head g gs h))

  -- the other buckets stay
  pub gone_same : (gs : List ℕ) → Below gs → (d : Device) → Lengths z d → (c : ℕ) → times c gs ≡ 0 → Same z d (gone d gs) c
  unfolding apply_all
  gone_same [] h d L c t = same_refl z d c
  gone_same (g ∷ gs) h d L c t = go (ℕ_discrete c g)
      (λ ne. gone_same gs (below_tail g gs h) (apply z d (erase g)) (lengths_kept z d L (erase g) (below-head g gs h)) c (omega (arith, times_cons c g gs)))
    where
      go : Dec (c ≡ g) → (c ≢ g → Same z (apply z d (erase g)) (gone (apply z d (erase g)) gs) c) → Same z d (gone (apply z d (erase g)) gs) c
      go (yes e) r = absurd (omega (arith, times_cons c g gs, ap (λ (x : ℕ). times c (x ∷ [])) (sym e), times_self c))
      go (no ne) r = same_trans z (same_erase z d L g (below-head g gs h) c ne) (r ne)

  pub gone_blank : (gs : List ℕ) → Below gs → (d : Device) → Lengths z d → (c : ℕ) → 1 ≤ times c gs → (k : ℕ) → k < z.p → tag_of z (gone d gs) c k ≡ ff 16
  unfolding apply_all times
  gone_blank [] h d L c t k hk = absurd (omega arith)
  gone_blank (g ∷ gs) h d L c t k hk = go (dec_lt 0 (times c gs)) (ℕ_discrete c g) (λ t'. gone_blank gs (below_tail g gs h) (apply z d (erase g)) L' c t' k hk)
    where
      L' : Lengths z (apply z d (erase g))
      L' = lengths_kept z d L (erase g) (below-head g gs h)

      go : Dec (0 < times c gs) → Dec (c ≡ g) → (1 ≤ times c gs → tag_of z (gone (apply z d (erase g)) gs) c k ≡ ff 16) → tag_of z (gone (apply z d (erase g)) gs) c k ≡ ff 16
      go (yes u) v r = r u
      go (no u) (no v) r = absurd (omega (arith, times_cons c g gs, times_other c g v))
      go (no u) (yes v) r =
          (gone_same gs (below_tail g gs h) (apply z d (erase g)) L' c (omega arith)).tags-same k hk
          ∙ rw v (tag_erased z d L g (below-head g gs h) k hk)

  pub gone_disk : (gs : List ℕ) → Below gs → (d : Device) → Lengths z d → (b : ℕ) → disk_bytes z (gone d gs) b ≡ disk_bytes z d b
  unfolding apply_all
  gone_disk [] h d L b = refl
  gone_disk (g ∷ gs) h d L b =
      gone_disk gs (below_tail g gs h) (apply z d (erase g)) (lengths_kept z d L (erase g) (below-head g gs h)) b ∙ disk_erased z d L g (below-head g gs h) b

  -- erases take logs away
  pub gone_fewer : 1 ≤ z.p → (gs : List ℕ) → Below gs → (d : Device) → Lengths z d → (c b i : ℕ) → gives_of z d c b i ≡ none → gives_of z (gone d gs) c b i ≡ none
  gone_fewer p_pos gs h d L c b i e = go (dec_lt 0 (times c gs))
    where
      go : Dec (0 < times c gs) → gives_of z (gone d gs) c b i ≡ none
      go (yes u) = blank_gives z (gone d gs) c p_pos (gone_blank gs h d L c u) b i
      go (no u) = gives_same z p_pos d (gone d gs) c (gone_same gs h d L c (omega arith)) b i ∙ e
