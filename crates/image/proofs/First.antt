-- The head of a bucket, and its blank pages, by single spare bytes.
use Prim.Native.Nat.{ℕ, ◌+◌, ◌-◌, ◌*◌, ◌≤◌, ◌<◌}
use mathlib.Core.Path.{◌≡◌, refl, sym, ap, ◌∙◌}
use mathlib.Core.Logic.{◌⊎◌, inl, inr}
use mathlib.Core.Bool.{Bool, true, false, not, ◌&&◌, and-true}
use mathlib.Core.List.{List}
use native.Mathlib.Nat.{add-zero}
use native.Mathlib.Omega.{arith}
use native.Mathlib.Decide.{ℕ_discrete, dec_lt}
use lib.ListN.{length}
use lib.Dec.{leb, eqb}
use borrow.Author.Tests.{eqb-true, eq-eqb, ne_eqb, leb-true, leb-false, le-leb, lt-leb}
use Rattle.lists.specs.Lists.{all_below, part}
use Rattle.lists.proofs.Rows.{all-below}
use Rattle.lists.proofs.Tests.{and_left, and_false}
use Rattle.model.specs.declared.Sizes.{Sizes}
use Rattle.model.specs.Sizes.{Device, page_index, body}
use Rattle.model.specs.Spare.{blank, spoiled, programmed, kind, epoch}
use Rattle.model.specs.Stores.{tag_of}
use Rattle.model.specs.Image.{bucket_fits, head_tag, used, epoch_of, body_fits, blanks}
use Rattle.model.proofs.Formed.{page_fields, blank_from_lem, epoch-used}
use Rattle.model.proofs.Heads.{HeadPage, head_page, head_first}
use Rattle.model.proofs.Tags.{kind_real, unprogrammed}
use Rattle.spare.proofs.Looked.{kind_erased}
use Rattle.image.specs.Chip.{Chip, Headed, HeadAt}
use Rattle.image.proofs.Place.{page_inside}

pub first_inside : {z : Sizes} {spare : List ℕ} {c : ℕ} → Chip z spare → c < z.c → c * z.p * 16 + 16 ≤ length spare
first_inside {z} {spare} {c} chip h = omega (arith, page_inside {k = 0} chip h (omega (arith, chip.limits.p_low)))

pub first_tag_lem : (z : Sizes) (d : Device) (c : ℕ) → part d.spare (c * z.p * 16) 16 ≡ tag_of z d c 0
unfolding tag_of page_index
first_tag_lem z d c = rw (add-zero (c * z.p))

-- a blank page has no kind
pub kind-used : (tag : List ℕ) → (kind tag ≡ 255 → ⊥) → blank tag ≡ false
kind-used tag n = go (blank tag) refl
  where
    go : (t : Bool) → blank tag ≡ t → blank tag ≡ false
    go true e = absurd (n (kind_erased tag e))
    go false e = e

-- whether a page is programmed, where it has no kind and where it has one
pub no_kind_real : (tag : List ℕ) → kind tag ≡ 255 → not (blank tag) ≡ programmed tag
unfolding programmed spoiled
no_kind_real tag e = rw e (go (blank tag))
  where
    go : (t : Bool) → not t ≡ (not t && true)
    go true = refl
    go false = refl

pub kind_else_real : (tag : List ℕ) → (kind tag ≡ 255 → ⊥) → not (eqb (kind tag) 0) ≡ programmed tag
unfolding programmed spoiled
kind_else_real tag n = rw (kind-used tag n)

pub write_real : (tag : List ℕ) → eqb (kind tag) 2 ≡ (programmed tag && eqb (kind tag) 2)
write_real tag = go (ℕ_discrete (kind tag) 2)
  where
    go : Dec (kind tag ≡ 2) → eqb (kind tag) 2 ≡ (programmed tag && eqb (kind tag) 2)
    go (yes e) = rw (kind_real tag (omega arith) (omega arith))
    go (no ne) = rw (ne_eqb (kind tag) 2 ne) (sym (and_false (programmed tag)))

-- in a bucket that fits a blank page is one with no kind
pub kind-blank : (z : Sizes) (d : Device) (c k : ℕ) → bucket_fits z d c ≡ true → k < z.p → blank (tag_of z d c k) ≡ eqb (kind (tag_of z d c k)) 255
unfolding spoiled
kind-blank z d c k fit h = go (blank (tag_of z d c k)) (programmed (tag_of z d c k)) refl refl
  where
    has : (kind (tag_of z d c k) ≡ 255 → ⊥) → blank (tag_of z d c k) ≡ eqb (kind (tag_of z d c k)) 255
    has n = kind-used (tag_of z d c k) n ∙ sym (ne_eqb (kind (tag_of z d c k)) 255 n)

    spoilt : (blank (tag_of z d c k) ≡ true) ⊎ (eqb (kind (tag_of z d c k)) 0 ≡ true) → blank (tag_of z d c k) ≡ eqb (kind (tag_of z d c k)) 255
    spoilt (inl e) = e ∙ sym (eq-eqb (kind (tag_of z d c k)) 255 (kind_erased (tag_of z d c k) e))
    spoilt (inr e) = has (λ q. omega (arith, eqb-true (kind (tag_of z d c k)) 0 e))

    go : (t u : Bool) → blank (tag_of z d c k) ≡ t → programmed (tag_of z d c k) ≡ u → blank (tag_of z d c k) ≡ eqb (kind (tag_of z d c k)) 255
    go t true e p = has (λ q. omega (arith, (page_fields z d c fit k h p).kind_high))
    go t false e p = spoilt (unprogrammed (tag_of z d c k) p)

-- and so is its head
pub head-blank : (z : Sizes) (d : Device) (c : ℕ) → 1 ≤ z.p → bucket_fits z d c ≡ true → blank (head_tag z d c) ≡ eqb (kind (head_tag z d c)) 255
head-blank z d c p_low fit = let h = head_page z p_low d c in rw h.is (kind-blank z d c h.page fit h.inside)

-- while a first page is not spoiled it is the head
head_is_first : (z : Sizes) (d : Device) (c : ℕ) → (kind (tag_of z d c 0) ≡ 0 → ⊥) → head_tag z d c ≡ tag_of z d c 0
unfolding spoiled
head_is_first z d c real = head_first z d c (ne_eqb (kind (tag_of z d c 0)) 0 real)

-- and its kind tells whether the bucket is used
pub used_first : (z : Sizes) (d : Device) (c : ℕ) → blank (head_tag z d c) ≡ eqb (kind (head_tag z d c)) 255 → (kind (tag_of z d c 0) ≡ 0 → ⊥) → used z d c ≡ not (eqb (kind (tag_of z d c 0)) 255)
unfolding used programmed spoiled
used_first z d c blank_is real = rw (blank_is, head_is_first z d c real, ne_eqb (kind (tag_of z d c 0)) 0 real) (and-true (not (eqb (kind (tag_of z d c 0)) 255)))

module _ (z : Sizes) (d : Device) (c : ℕ) (blank_is : blank (head_tag z d c) ≡ eqb (kind (head_tag z d c)) 255) where
  -- one with a kind also tells the epoch
  pub first_used : (kind (tag_of z d c 0) ≡ 255 → ⊥) → (kind (tag_of z d c 0) ≡ 0 → ⊥) → (used z d c ≡ true) × (epoch_of z d c ≡ epoch (tag_of z d c 0))
  first_used has real =
      let u : used z d c ≡ true = used_first z d c blank_is real ∙ ap not (ne_eqb (kind (tag_of z d c 0)) 255 has) in
      (u, epoch-used z d c u ∙ ap epoch (head_is_first z d c real))

  pub first_unused : kind (tag_of z d c 0) ≡ 255 → used z d c ≡ false
  first_unused none = used_first z d c blank_is (λ e. omega arith) ∙ ap not (eq-eqb (kind (tag_of z d c 0)) 255 none)

pub formed_bucket : (z : Sizes) (d : Device) → body_fits z d ≡ true → (c : ℕ) → c < body z → bucket_fits z d c ≡ true
unfolding body_fits
formed_bucket z d h c inside = all-below (body z) (bucket_fits z d) (and_left (all_below (body z) (bucket_fits z d)) _ h) c inside

pub formed_headed : (z : Sizes) (d : Device) → 1 ≤ z.p → body_fits z d ≡ true → Headed z d
formed_headed z d p_low h c inside = head-blank z d c p_low (formed_bucket z d h c inside)

-- one page speaks for the bucket
pub head_at : (z : Sizes) (d : Device) (c k : ℕ) → k < z.p → ((i : ℕ) → i < k → spoiled (tag_of z d c i) ≡ true) → (spoiled (tag_of z d c k) ≡ true → k ≡ z.p - 1) → HeadAt z d c k
head_at z d c k inside before last = record { inside = inside; is = h.is ∙ ap (tag_of z d c) one; before = before; last = last }
  where
    h : HeadPage z d c
    h = head_page z (omega arith) d c

    go : Dec (h.page < k) → Dec (k < h.page) → h.page ≡ k
    go (yes u) v = omega (arith, h.last (before h.page u))
    go (no u) (yes v) = omega (arith, last (h.before k v), h.inside)
    go (no u) (no v) = omega arith

    one : h.page ≡ k
    one = go (dec_lt h.page k) (dec_lt k h.page)

-- where the blank pages of a bucket that fits begin
pub used_end : (z : Sizes) (d : Device) (c k : ℕ) → bucket_fits z d c ≡ true → k ≤ z.p → ((j : ℕ) → j < k → blank (tag_of z d c j) ≡ false)
    → (k < z.p → blank (tag_of z d c k) ≡ true) → k ≡ z.p - blanks z d c
used_end z d c k fit inside before behind = go (dec_lt k z.p) (dec_lt 0 k)
  where
    high : Dec (k < z.p) → z.p - blanks z d c ≤ k
    high (yes u) = leb-true (z.p - blanks z d c) k (sym (blank_from_lem z d c fit k u) ∙ behind u)
    high (no u) = omega arith

    low : Dec (0 < k) → k ≤ z.p - blanks z d c
    low (yes u) = omega (arith, leb-false (z.p - blanks z d c) (k - 1) (sym (blank_from_lem z d c fit (k - 1) (omega arith)) ∙ before (k - 1) (omega arith)))
    low (no u) = omega arith

    go : Dec (k < z.p) → Dec (0 < k) → k ≡ z.p - blanks z d c
    go u v = omega (arith, high u, low v)

-- a page that has a kind, and all before it, are not blank
pub kind_to : (z : Sizes) (d : Device) (c k : ℕ) → bucket_fits z d c ≡ true → k < z.p → not (eqb (kind (tag_of z d c k)) 255) ≡ leb (k + 1) (z.p - blanks z d c)
kind_to z d c k fit h = rw (← kind-blank z d c k fit h, blank_from_lem z d c fit k h) (go (dec_lt k (z.p - blanks z d c)))
  where
    go : Dec (k < z.p - blanks z d c) → not (leb (z.p - blanks z d c) k) ≡ leb (k + 1) (z.p - blanks z d c)
    go (yes u) = rw (lt-leb (z.p - blanks z d c) k u, le-leb (k + 1) (z.p - blanks z d c) (omega arith))
    go (no u) = rw (le-leb (z.p - blanks z d c) k (omega arith), lt-leb (k + 1) (z.p - blanks z d c) (omega arith))

-- of p pages the last m are blank: the last n are so, and no page before, if n is m
pub blank_last : (p m n : ℕ) → m ≤ p → n ≤ p → leb (p - n) (p - m) && not (leb (p - n + 1) (p - m)) ≡ eqb n m
blank_last p m n hm hn = go (dec_lt n m) (dec_lt m n)
  where
    go : Dec (n < m) → Dec (m < n) → leb (p - n) (p - m) && not (leb (p - n + 1) (p - m)) ≡ eqb n m
    go (yes u) v = rw (lt-leb (p - n) (p - m) (omega arith), ne_eqb n m (λ q. omega arith))
    go (no u) (yes v) = rw (le-leb (p - n) (p - m) (omega arith), le-leb (p - n + 1) (p - m) (omega arith), ne_eqb n m (λ q. omega arith))
    go (no u) (no v) = rw (le-leb (p - n) (p - m) (omega arith), lt-leb (p - n + 1) (p - m) (omega arith), eq-eqb n m (omega arith))

pub blank_none : (p m n : ℕ) → m ≤ p → n ≡ 0 → leb (p - n) (p - m) ≡ eqb n m
blank_none p m n hm e = go (dec_lt n m)
  where
    go : Dec (n < m) → leb (p - n) (p - m) ≡ eqb n m
    go (yes u) = rw (lt-leb (p - n) (p - m) (omega arith), ne_eqb n m (λ q. omega arith))
    go (no u) = rw (le-leb (p - n) (p - m) (omega arith), eq-eqb n m (omega arith))
