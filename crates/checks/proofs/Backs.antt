-- The back-end buckets in the queues are on the disk; Write buckets there have programmed pages, and the blank ones that their records say.
use Prim.Native.Nat.{ℕ, ◌<◌}
use mathlib.Core.Path.{◌≡◌, refl, sym, ◌∙◌}
use mathlib.Core.Bool.{Bool, true, false, true≢false}
use mathlib.Core.List.{List, [], ◌∷◌}
use lib.Dec.{eqb}
use borrow.Author.Tests.{eqb-true, ltb-true}
use Rattle.std.specs.Prelude.{if◌then◌else◌}
use Rattle.lists.specs.Lists.{all}
use Rattle.lists.proofs.Tests.{and_left, and_right, every_at}
use Rattle.model.specs.declared.Sizes.{Sizes}
use Rattle.model.specs.declared.Entry.{Entry}
use Rattle.model.specs.Sizes.{Device, body}
use Rattle.model.specs.Image.{used, back_of, is_write, is_copy, complete, blanks}
use Rattle.model.specs.State.{State, is_of, holds, cache_of, blank_of, cache_bucket, caches, is_below, read_agrees, write_agrees, state_fits}
use Rattle.model.proofs.Formed.{formed_of}
use Rattle.model.proofs.BucketKinds.{back_below}
use Rattle.model.proofs.QueuesGrown.{held_record}
use Rattle.model.proofs.Counts.{kept_count}
use Rattle.image.specs.Chip.{spare_only}
use Rattle.image.proofs.SameSpare.{same-used, same-blanks}
use Rattle.checks.proofs.Opens.{Image, Open, open_orderly}

module _ {z : Sizes} {d : Device} (o : Image z d) where
  -- a queue whose entries agree with the spare fields
  module _ (agrees : Entry → Bool) (shown : (e : Entry) → agrees e ≡ true → (used z d e.cache ≡ true) × (back_of z d e.cache ≡ e.back)) where
    agreeing_back : (b : ℕ) (l : List Entry) → all agrees l ≡ true → all (is_below (body z)) (caches l) ≡ true → holds b l ≡ true → b < z.b
    unfolding all caches cache_bucket holds is_below is_of
    agreeing_back b [] a k h = absurd (true≢false (sym h))
    agreeing_back b (e ∷ l) a k h =
        go (eqb e.back b) refl h (agreeing_back b l (and_right (agrees e) (all agrees l) a) (and_right (is_below (body z) e.cache) (all (is_below (body z)) (caches l)) k))
      where
        go : (t : Bool) → eqb e.back b ≡ t → (if t then true else holds b l) ≡ true → (holds b l ≡ true → b < z.b) → b < z.b
        go true q g later =
            let s = shown e (and_left (agrees e) (all agrees l) a) in
            rw (s.1 ∙ eqb-true e.back b q) at (back_below z d (formed_of z d o.formed) o.limits.p_low e.cache (ltb-true e.cache (body z) (and_left (is_below (body z) e.cache) (all (is_below (body z)) (caches l)) k)) s.0)
        go false q g later = later g

module _ {s : State} {d : Device} (o : Open s d) (b : ℕ) where
  pub read_back : holds b s.reads ≡ true → b < s.sizes.b
  unfolding state_fits read_agrees complete is_copy
  read_back h = agreeing_back o.image (read_agrees s.sizes d) (λ e a.
      let z = s.sizes in
      let whole = and_left (complete z d e.cache) (eqb (back_of z d e.cache) e.back) a in
      (and_left (used z d e.cache) _ (and_left (is_copy z d e.cache) _ whole), eqb-true (back_of z d e.cache) e.back (and_right (complete z d e.cache) _ a)))
      b s.reads (every_at _ o.fits 5) (open_orderly o).reads h

  pub write-back : holds b s.writes ≡ true → b < s.sizes.b
  unfolding state_fits write_agrees is_write
  write-back h = agreeing_back o.image (write_agrees s.sizes d) (λ e a.
      let z = s.sizes in
      let t = every_at _ a in
      (and_left (used z d e.cache) _ (t 0), eqb-true (back_of z d e.cache) e.back (t 1)))
      b s.writes (every_at _ o.fits 6) (open_orderly o).writes h

  pub write-used : holds b s.writes ≡ true → used s.sizes (spare_only d.spare) (cache_of b s.writes) ≡ true
  unfolding state_fits write_agrees is_write cache_of
  write-used h =
      let agrees = every_at _ (held_record (write_agrees s.sizes d) s.writes b (every_at _ o.fits 6) h) in
      same-used s.sizes d (cache_of b s.writes) ∙ and_left (used s.sizes d (cache_of b s.writes)) _ (agrees 0)

  pub write_count : holds b s.writes ≡ true → blanks s.sizes (spare_only d.spare) (cache_of b s.writes) ≡ blank_of b s.writes
  write_count h = same-blanks s.sizes d (cache_of b s.writes) ∙ kept_count s d o.fits b h
