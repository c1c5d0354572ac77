-- What a cache bucket shows by its kind: buckets without a page, Write buckets, complete copies.
use Prim.Native.Nat.{ℕ, ◌≤◌, ◌<◌}
use mathlib.Core.Path.{◌≡◌, refl, sym, ◌∙◌}
use mathlib.Core.Logic.{◌⊎◌, inl, inr, ◌≢◌}
use mathlib.Core.Bool.{Bool, true, false, ◌&&◌, true≢false}
use mathlib.Core.Option.{Option, none, some}
use lib.Dec.{ltb, eqb}
use borrow.Author.Tests.{ne_eqb, eq-eqb, lt-ltb, le-ltb, ltb-true, eqb-true}
use Rattle.std.specs.Prelude.{if◌then◌else◌}
use Rattle.lists.proofs.Tests.{true_or_false, and_left, and_right, and_false}
use Rattle.lists.proofs.Rows.{all-below, count_le}
use Rattle.model.specs.declared.Sizes.{Sizes}
use Rattle.model.specs.Sizes.{Device, body}
use Rattle.model.specs.Stores.{tag_of}
use Rattle.model.specs.Spare.{programmed, write_kind, kind}
use Rattle.model.specs.Image.{used, epoch_of, back_of, is_write, is_copy, page_programmed, complete, page_blank, blanks, head_tag}
use Rattle.model.proofs.Views.{none≢some}
use Rattle.model.proofs.Safe.{found, gives_of, holds_of}
use Rattle.model.proofs.Tags.{programmed-ff}
use Rattle.model.proofs.Heads.{Blank, head-blank}

module _ (z : Sizes) (d : Device) (c : ℕ) where
  -- ---- what is no Write bucket gives nothing, what is not complete is no copy

  pub gives_none : is_write z d c ≡ false → (b i : ℕ) → gives_of z d c b i ≡ none
  unfolding gives_of
  gives_none e b i = rw e (go (ltb c (body z)))
    where
      go : (t : Bool) → (if t && (false && eqb (back_of z d c) b) then found z d c z.p i else none) ≡ none
      go true = refl
      go false = refl

  pub holds-none : complete z d c ≡ false → (b : ℕ) → holds_of z d c b ≡ false
  unfolding holds_of
  holds-none e b = rw e (and_false (ltb c (body z)))

  -- one with a page that is not programmed is no complete copy
  pub incomplete : (k : ℕ) → k < z.p → programmed (tag_of z d c k) ≡ false → complete z d c ≡ false
  unfolding complete page_programmed
  incomplete k hk h = go (true_or_false (complete z d c))
    where
      go : (complete z d c ≡ true) ⊎ (complete z d c ≡ false) → complete z d c ≡ false
      go (inl q) = absurd (true≢false (sym (all-below z.p (page_programmed z d c) (and_right (is_copy z d c) _ q) k hk) ∙ h))
      go (inr q) = q

  pub blanks_most : blanks z d c ≤ z.p
  unfolding blanks
  blanks_most = count_le z.p (page_blank z d c)

  -- nothing from beyond the chip
  pub gives_beyond : body z ≤ c → (b i : ℕ) → gives_of z d c b i ≡ none
  unfolding gives_of
  gives_beyond h b i = rw (le-ltb c (body z) h)

  -- ---- a bucket without a programmed page

  module _ (unused : used z d c ≡ false) where
    pub unused_epoch : epoch_of z d c ≡ 0
    unfolding epoch_of
    unused_epoch = rw unused

    pub unused_no_write : is_write z d c ≡ false
    unfolding is_write
    unused_no_write = rw unused

    pub unused_no_copy : complete z d c ≡ false
    unfolding complete is_copy
    unused_no_copy = rw unused

    pub unused_gives : (b i : ℕ) → gives_of z d c b i ≡ none
    unused_gives = gives_none unused_no_write

    pub unused_holds : (b : ℕ) → holds_of z d c b ≡ false
    unused_holds = holds-none unused_no_copy

  -- ---- a bucket of blank pages

  module _ (p_pos : 1 ≤ z.p) (none-programmed : Blank z d c) where
    pub blank_unused : used z d c ≡ false
    unfolding used
    blank_unused = rw (head-blank z p_pos d c none-programmed) programmed-ff

    pub blank-epoch : epoch_of z d c ≡ 0
    blank-epoch = unused_epoch blank_unused

    pub blank_no_write : is_write z d c ≡ false
    blank_no_write = unused_no_write blank_unused

    pub blank_no_copy : complete z d c ≡ false
    blank_no_copy = unused_no_copy blank_unused

    pub blank_gives : (b i : ℕ) → gives_of z d c b i ≡ none
    blank_gives = unused_gives blank_unused

    pub blank-holds : (b : ℕ) → holds_of z d c b ≡ false
    blank-holds = unused_holds blank_unused

  -- ---- a Write bucket

  pub gives_write : (b i x : ℕ) → gives_of z d c b i ≡ some x → (c < body z) × (is_write z d c ≡ true) × (back_of z d c ≡ b) × (found z d c z.p i ≡ some x)
  unfolding gives_of
  gives_write b i x e = go (ltb c (body z)) (is_write z d c) (eqb (back_of z d c) b) refl refl refl e
    where
      go : (p q r : Bool) → ltb c (body z) ≡ p → is_write z d c ≡ q → eqb (back_of z d c) b ≡ r → (if p && (q && r) then found z d c z.p i else none) ≡ some x
          → (c < body z) × (is_write z d c ≡ true) × (back_of z d c ≡ b) × (found z d c z.p i ≡ some x)
      go true true true hp hq hr h = (ltb-true c (body z) hp, hq, eqb-true _ _ hr, h)
      go true true false hp hq hr h = absurd (none≢some h)
      go true false r hp hq hr h = absurd (none≢some h)
      go false q r hp hq hr h = absurd (none≢some h)

  pub gives_found : (b i : ℕ) → c < body z → is_write z d c ≡ true → back_of z d c ≡ b → gives_of z d c b i ≡ found z d c z.p i
  unfolding gives_of
  gives_found b i h w e = rw (lt-ltb c (body z) h, w, eq-eqb (back_of z d c) b e)

  -- nothing for another back-end bucket
  pub gives_other : (b i : ℕ) → back_of z d c ≢ b → gives_of z d c b i ≡ none
  gives_other b i ne = go (gives_of z d c b i) refl
    where
      go : (o : Option ℕ) → gives_of z d c b i ≡ o → gives_of z d c b i ≡ none
      go none q = q
      go (some x) q = absurd (ne (gives_write b i x q).2)

  -- ---- a complete copy

  pub holds_parts : (b : ℕ) → holds_of z d c b ≡ true → (c < body z) × (complete z d c ≡ true) × (back_of z d c ≡ b)
  unfolding holds_of
  holds_parts b h =
      let r = and_right (ltb c (body z)) (complete z d c && eqb (back_of z d c) b) h in (
        ltb-true c (body z) (and_left (ltb c (body z)) (complete z d c && eqb (back_of z d c) b) h),
        and_left (complete z d c) (eqb (back_of z d c) b) r,
        eqb-true _ _ (and_right (complete z d c) (eqb (back_of z d c) b) r),
      )

  pub holds_from : (b : ℕ) → c < body z → complete z d c ≡ true → back_of z d c ≡ b → holds_of z d c b ≡ true
  unfolding holds_of
  holds_from b h q e = rw (lt-ltb c (body z) h, q, eq-eqb (back_of z d c) b e)

  pub holds_other : (b : ℕ) → back_of z d c ≢ b → holds_of z d c b ≡ false
  unfolding holds_of
  holds_other b ne = rw (ne_eqb (back_of z d c) b ne, and_false (complete z d c)) (and_false (ltb c (body z)))

  -- a copy is no Write bucket
  pub copy_or_write : is_write z d c ≡ true → complete z d c ≡ false
  unfolding complete is_copy is_write
  copy_or_write h =
      let k : eqb (kind (head_tag z d c)) write_kind ≡ true = and_right (used z d c) (eqb (kind (head_tag z d c)) write_kind) h in
      rw (k, and_false (used z d c))

  pub copy_silent : complete z d c ≡ true → (b i : ℕ) → gives_of z d c b i ≡ none
  copy_silent h b i = gives_none (go (is_write z d c) refl) b i
    where
      go : (t : Bool) → is_write z d c ≡ t → is_write z d c ≡ false
      go false e = e
      go true e = absurd (true≢false (sym h ∙ copy_or_write e))
