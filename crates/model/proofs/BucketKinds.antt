-- What the kinds of buckets say of each other: copies and Write buckets have a page, and a back-end bucket that the disk has.
use Prim.Native.Nat.{ℕ, ◌≤◌, ◌<◌}
use mathlib.Core.Path.{◌≡◌, sym, ap, ◌∙◌}
use mathlib.Core.Bool.{true, false}
use lib.Dec.{eqb}
use borrow.Author.Tests.{not-true}
use Rattle.lists.proofs.Tests.{and_left, and_right, and_false}
use Rattle.model.specs.declared.Sizes.{Sizes}
use Rattle.model.specs.Sizes.{Device, body}
use Rattle.model.specs.Spare.{programmed, write_kind, kind}
use Rattle.model.specs.Image.{used, back_of, is_write, is_copy, complete, head_tag}
use Rattle.model.proofs.Formed.{Formed, page_fields}
use Rattle.model.proofs.Heads.{head_page, head-programmed}

module _ (z : Sizes) (d : Device) where
  pub complete-copy : (c : ℕ) → complete z d c ≡ true → is_copy z d c ≡ true
  unfolding complete
  complete-copy c h = and_left (is_copy z d c) _ h

  pub copy-used : (c : ℕ) → is_copy z d c ≡ true → used z d c ≡ true
  unfolding is_copy
  copy-used c h = and_left (used z d c) _ h

  pub copy_no_write : (c : ℕ) → is_copy z d c ≡ true → is_write z d c ≡ false
  unfolding is_copy is_write
  copy_no_write c h = rw (not-true (eqb (kind (head_tag z d c)) write_kind) (and_right (used z d c) _ h)) (and_false (used z d c))

  pub write-used : (c : ℕ) → is_write z d c ≡ true → used z d c ≡ true
  unfolding is_write
  write-used c h = and_left (used z d c) _ h

  -- a bucket with a page is of a back-end bucket that the disk has
  pub back_below : Formed z d → 1 ≤ z.p → (c : ℕ) → c < body z → used z d c ≡ true → back_of z d c < z.b
  unfolding back_of
  back_below f p_pos c hc h =
      let p = head_page z p_pos d c in
      rw p.is (page_fields z d c (f.buckets_fit c hc) p.page p.inside (sym (ap programmed p.is) ∙ head-programmed z d c h)).back_below
