-- The bucket that a page of the ledger names, and the marks of the named buckets.
use Prim.Native.Nat.{ℕ, ◌+◌, ◌<◌}
use mathlib.Core.Path.{◌≡◌, refl, sym, ap, ◌∙◌}
use mathlib.Core.Bool.{Bool, true, false, ◌&&◌, ◌||◌, or-false}
use mathlib.Core.List.{List}
use native.Mathlib.Omega.{arith}
use native.Mathlib.Numerals.{add-one}
use native.Mathlib.Decide.{ℕ_discrete, dec_lt}
use lib.ListN.{length, get_or, set, replicate, get_or-replicate, length-replicate, get_or-eq_default}
use lib.Seq.{get_or-set_same, get_or-set_other}
use lib.Dec.{ltb, eqb}
use borrow.Author.Tests.{eq-eqb, ne_eqb, lt-ltb, le-ltb}
use Rattle.lists.specs.Lists.{every, all_below, any_below}
use Rattle.lists.proofs.Tests.{and_false, or-true}
use Rattle.model.specs.declared.Sizes.{Sizes}
use Rattle.model.specs.Sizes.{Device, body}
use Rattle.model.specs.Spare.{ledger_kind, kind, epoch, back}
use Rattle.model.specs.Ledger.{ledger_tag, holds_epoch, names, named}
use Rattle.ledger.specs.Marks.{Marks}

module _ (z : Sizes) (d : Device) (i : ℕ) where
  abbrev tag : List ℕ
  tag = ledger_tag z d i

  -- whether no page of the entry's own bucket holds another epoch
  abbrev pub holds_own : Bool
  holds_own = all_below z.p (holds_epoch z d (back tag) (epoch tag))

  pub names-kind : (kind tag ≡ ledger_kind → ⊥) → (x : ℕ) → names z d x i ≡ false
  unfolding names every
  names-kind n x = rw (ne_eqb (kind tag) ledger_kind n)

  pub names_other : (x : ℕ) → (back tag ≡ x → ⊥) → names z d x i ≡ false
  unfolding names every
  names_other x n = rw (ne_eqb (back tag) x n) (and_false (eqb (kind tag) ledger_kind))

  names_own : kind tag ≡ ledger_kind → holds_own ≡ true → names z d (back tag) i ≡ true
  unfolding names every
  names_own k h = rw (eq-eqb (kind tag) ledger_kind k, eq-eqb (back tag) (back tag) refl, h)

  own_fails : holds_own ≡ false → names z d (back tag) i ≡ false
  unfolding names every
  own_fails h = rw h (ap (λ (t : Bool). eqb (kind tag) ledger_kind && t) (and_false (eqb (back tag) (back tag))) ∙ and_false (eqb (kind tag) ledger_kind))

  pub names_fails : holds_own ≡ false → (x : ℕ) → names z d x i ≡ false
  names_fails h x = go (ℕ_discrete (back tag) x)
    where
      go : Dec (back tag ≡ x) → names z d x i ≡ false
      go (yes e) = rw (← e) (own_fails h)
      go (no n) = names_other x n

  pub names-holds : kind tag ≡ ledger_kind → holds_own ≡ true → (x : ℕ) → names z d x i ≡ eqb x (back tag)
  names-holds k h x = go (ℕ_discrete x (back tag))
    where
      go : Dec (x ≡ back tag) → names z d x i ≡ eqb x (back tag)
      go (yes e) = rw e (names_own k h ∙ sym (eq-eqb (back tag) (back tag) refl))
      go (no n) = names_other x (λ e. n (sym e)) ∙ sym (ne_eqb x (back tag) n)

-- ---- marks

pub no_marks : (n x : ℕ) → get_or (replicate n false) x false ≡ false
no_marks n x = go (dec_lt x n)
  where
    go : Dec (x < n) → get_or (replicate n false) x false ≡ false
    go (yes h) = get_or-replicate n x false false h
    go (no h) = get_or-eq_default (replicate n false) false (omega (arith, length-replicate n false))

-- the marks of the first i pages, and of one more
module _ (n : ℕ) (marks : List Bool) (t : (x i : ℕ) → Bool) (i : ℕ) (before : (x : ℕ) → get_or marks x false ≡ (ltb x n && any_below i (t x))) where
  unnamed : (x : ℕ) → (x < n → t x i ≡ false) → get_or marks x false ≡ (ltb x n && any_below (i + 1) (t x))
  unfolding any_below
  unnamed x none = rw (add-one i) (before x ∙ go (dec_lt x n))
    where
      go : Dec (x < n) → (ltb x n && any_below i (t x)) ≡ (ltb x n && (any_below i (t x) || t x i))
      go (yes h) = rw (none h, or-false)
      go (no h) = rw (le-ltb x n (omega arith))

  -- that page names none
  pub marks_same : ((x : ℕ) → x < n → t x i ≡ false) → (x : ℕ) → get_or marks x false ≡ (ltb x n && any_below (i + 1) (t x))
  marks_same none x = unnamed x (none x)

  -- it names y alone
  pub marks_more : (y : ℕ) → y < n → y < length marks → ((x : ℕ) → x < n → t x i ≡ eqb x y)
      → (x : ℕ) → get_or (set marks y true) x false ≡ (ltb x n && any_below (i + 1) (t x))
  unfolding any_below
  marks_more y inside room here x = go (ℕ_discrete x y)
    where
      go : Dec (x ≡ y) → get_or (set marks y true) x false ≡ (ltb x n && any_below (i + 1) (t x))
      go (yes e) = rw (e, add-one i, lt-ltb y n inside, here y inside, eq-eqb y y refl, or-true) (get_or-set_same marks y true false room)
      go (no q) = get_or-set_other marks y x true false q ∙ unnamed x (λ h. here x h ∙ ne_eqb x y q)

pub mark_at : (z : Sizes) (d : Device) (marks : List Bool) → Marks z d marks → (x : ℕ) → x < body z → get_or marks x false ≡ named z d x
mark_at z d marks m x h = m x ∙ rw (lt-ltb x (body z) h)
