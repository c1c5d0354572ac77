-- What the spare bytes that a program writes say.
use Prim.Native.Nat.{ℕ, ◌+◌, ◌*◌, ◌/◌, ◌%◌, ◌≤◌, ◌<◌}
use mathlib.Core.Path.{◌≡◌, refl, sym, ap, ◌∙◌}
use mathlib.Core.List.{List}
use mathlib.Core.Logic.{◌⊎◌, inl, inr}
use mathlib.Core.Bool.{Bool, true, false, not, ◌&&◌, true≢false}
use native.Mathlib.Omega.{arith}
use native.Mathlib.Nat.{div-div-eq-div-mul, div-add-mod', mod-eq_of_lt}
use lib.ListN.{length, get_or}
use borrow.Author.Tests.{ne_eqb, eqb-true}
use Rattle.lists.specs.Lists.{every, same, ff}
use Rattle.lists.proofs.Tests.{and_false}
use Rattle.lists.proofs.Sames.{same_equal}
use Rattle.model.specs.Spare.{two, four, blank, spoiled, programmed, kind, ordinal, pages, epoch, back, offset, extent, zeros, tag_bytes}

digits : (e a b c x y w : ℕ) → a * 256 + x ≡ e → b * 256 + y ≡ a → c * 256 + w ≡ b → ((c * 256 + w) * 256 + y) * 256 + x ≡ e
digits e a b c x y w p q r = omega arith

module _ (k o n e b f l : ℕ) where
  pub length-tag : length (tag_bytes k o n e b f l) ≡ 16
  unfolding tag_bytes
  length-tag = refl

  pub kind-tag : kind (tag_bytes k o n e b f l) ≡ k
  unfolding kind tag_bytes
  kind-tag = refl

  pub ordinal-tag : ordinal (tag_bytes k o n e b f l) ≡ o
  unfolding ordinal tag_bytes
  ordinal-tag = refl

  pub pages-tag : pages (tag_bytes k o n e b f l) ≡ n
  unfolding pages tag_bytes
  pages-tag = refl

  pub epoch-tag : e < 4294967296 → epoch (tag_bytes k o n e b f l) ≡ e
  unfolding epoch four two tag_bytes
  epoch-tag h =
      let q : e / 65536 ≡ e / 256 / 256 = sym (div-div-eq-div-mul e 256 256) in
      let t : e / 16777216 ≡ e / 256 / 256 / 256 = sym (div-div-eq-div-mul e 65536 256) ∙ ap (λ (x : ℕ). x / 256) q in
      let s : e / 16777216 % 256 ≡ e / 16777216 = mod-eq_of_lt (omega arith) in
      rw (s, t, q) (digits e (e / 256) (e / 256 / 256) (e / 256 / 256 / 256) _ _ _ (div-add-mod' e 256) (div-add-mod' (e / 256) 256)
      (div-add-mod' (e / 256 / 256) 256))

  pub back-tag : b < 65536 → back (tag_bytes k o n e b f l) ≡ b
  unfolding back two tag_bytes
  back-tag h = omega arith

  pub offset-tag : f < 65536 → offset (tag_bytes k o n e b f l) ≡ f
  unfolding offset two tag_bytes
  offset-tag h = omega arith

  pub extent-tag : 1 ≤ l → l ≤ 65536 → extent (tag_bytes k o n e b f l) ≡ l
  unfolding extent two tag_bytes
  extent-tag p h = omega arith

  pub zeros-tag : zeros (tag_bytes k o n e b f l) ≡ true
  unfolding zeros tag_bytes every
  zeros-tag = refl

pub blank-ff : blank (ff 16) ≡ true
unfolding blank same
blank-ff = refl

pub blank-true : (tag : List ℕ) → blank tag ≡ true → tag ≡ ff 16
unfolding blank
blank-true tag h = same_equal tag (ff 16) h

-- a kind of the page rules is not that of erased bytes
pub kind-programmed : (tag : List ℕ) → kind tag < 255 → blank tag ≡ false
unfolding kind
kind-programmed tag h = go (blank tag) refl
  where
    go : (t : Bool) → blank tag ≡ t → blank tag ≡ false
    go false e = e
    go true e = let k : get_or tag 0 0 ≡ 255 = rw (blank-true tag e) in absurd (omega arith)

-- ---- the three outcomes of a look

pub programmed_real : (tag : List ℕ) → programmed tag ≡ true → (blank tag ≡ false) × (spoiled tag ≡ false)
unfolding programmed
programmed_real tag h = go (blank tag) (spoiled tag) refl refl h
  where
    go : (b s : Bool) → blank tag ≡ b → spoiled tag ≡ s → not b && not s ≡ true → (blank tag ≡ false) × (spoiled tag ≡ false)
    go false false p q r = (p, q)
    go false true p q r = absurd (true≢false (sym r))
    go true s p q r = absurd (true≢false (sym r))

pub programmed_test : (tag : List ℕ) → blank tag ≡ false → spoiled tag ≡ false → programmed tag ≡ true
unfolding programmed
programmed_test tag p q = rw (p, q)

pub blank_unprogrammed : (tag : List ℕ) → blank tag ≡ true → programmed tag ≡ false
unfolding programmed
blank_unprogrammed tag h = rw h

pub spoiled_unprogrammed : (tag : List ℕ) → spoiled tag ≡ true → programmed tag ≡ false
unfolding programmed
spoiled_unprogrammed tag h = rw h (and_false (not (blank tag)))

-- what is not programmed is blank or spoiled
pub unprogrammed : (tag : List ℕ) → programmed tag ≡ false → (blank tag ≡ true) ⊎ (spoiled tag ≡ true)
unfolding programmed
unprogrammed tag h = go (blank tag) (spoiled tag) refl refl h
  where
    go : (b s : Bool) → blank tag ≡ b → spoiled tag ≡ s → not b && not s ≡ false → (blank tag ≡ true) ⊎ (spoiled tag ≡ true)
    go true s p q r = inl p
    go false true p q r = inr q
    go false false p q r = absurd (true≢false r)

-- a page with a kind of the page rules, or an entry, is programmed
pub kind_real : (tag : List ℕ) → 1 ≤ kind tag → kind tag < 255 → programmed tag ≡ true
unfolding spoiled
kind_real tag low high = programmed_test tag (kind-programmed tag high) (ne_eqb (kind tag) 0 (λ q. omega arith))

pub spoiled-ff : spoiled (ff 16) ≡ false
unfolding spoiled kind
spoiled-ff = refl

pub programmed-ff : programmed (ff 16) ≡ false
programmed-ff = blank_unprogrammed (ff 16) blank-ff

-- a spoiled page is not blank
pub spoiled_real : (tag : List ℕ) → spoiled tag ≡ true → blank tag ≡ false
unfolding spoiled
spoiled_real tag h = let k : kind tag ≡ 0 = eqb-true _ _ h in kind-programmed tag (omega arith)
