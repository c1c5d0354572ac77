-- A fact of a bucket is that of every device with the same spare area.
use mathlib.Core.Path.{◌≡◌, refl}
use Prim.Native.Nat.{ℕ, zero, suc, ◌-◌}
use Rattle.model.specs.declared.Sizes.{Sizes}
use Rattle.model.specs.Sizes.{Device}
use Rattle.model.specs.Stores.{tag_of}
use Rattle.model.specs.Image.{head_to, head_tag, used, epoch_of, is_dirty, page_blank, blanks}
use Rattle.image.specs.Chip.{spare_only}

module _ (z : Sizes) (d : Device) (c : ℕ) where
  same_to : (n : ℕ) → head_to z (spare_only d.spare) c n ≡ head_to z d c n
  unfolding head_to tag_of
  same_to zero = refl
  same_to (suc n) = rw (same_to n)

  pub same_head : head_tag z (spare_only d.spare) c ≡ head_tag z d c
  unfolding head_tag
  same_head = same_to (z.p - 1)

  pub same-used : used z (spare_only d.spare) c ≡ used z d c
  unfolding used
  same-used = rw same_head

  pub same-epoch : epoch_of z (spare_only d.spare) c ≡ epoch_of z d c
  unfolding epoch_of
  same-epoch = rw (same-used, same_head)

  pub same_dirty : is_dirty z (spare_only d.spare) c ≡ is_dirty z d c
  unfolding is_dirty
  same_dirty = rw same_head

  pub same-blanks : blanks z (spare_only d.spare) c ≡ blanks z d c
  unfolding blanks page_blank tag_of
  same-blanks = refl
