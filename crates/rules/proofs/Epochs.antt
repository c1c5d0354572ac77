-- The epochs of buckets, gathered one after the other.
use Prim.Native.Nat.{ℕ, ◌+◌, ◌<◌}
use mathlib.Core.Path.{◌≡◌, refl, sym, ap, ◌∙◌}
use mathlib.Core.Bool.{Bool, true, false, not, ◌&&◌, ◌||◌}
use mathlib.Core.List.{List, map}
use native.Mathlib.Numerals.{add-one}
use lib.Seq.{take-suc-set}
use lib.ListN.{length, set, take}
use lib.Dec.{eqb}
use Rattle.std.specs.Prelude.{Option, Some, None}
use Rattle.lists.specs.Lists.{keep, below}
use Rattle.lists.proofs.Turns.{keep_more, keep_same}
use Rattle.model.specs.declared.Sizes.{Sizes}
use Rattle.model.specs.Sizes.{Device}
use Rattle.model.specs.Spare.{blank, spoiled, programmed, kind, epoch}
use Rattle.model.specs.Image.{head_tag, used, epoch_of}
use Rattle.model.proofs.Formed.{epoch-used}
use Rattle.rules.specs.Epochs.{some_if, PageEpoch}

-- what a test passed says, and what one that failed does
pub some_told : (t : Bool) (n m : ℕ) → Some m ≡ some_if t n → (t ≡ true) × (m ≡ n)
some_told true n m e = (refl, (cc))
some_told false n m e = cc

pub none_told : (t : Bool) (n : ℕ) → None ≡ some_if t n → t ≡ false
none_told true n e = cc
none_told false n e = refl

module _ (test : ℕ → Bool) (f : ℕ → ℕ) (epochs : List ℕ) (n c : ℕ) (within : n < length epochs) (before : take n epochs ≡ map f (keep test (below c))) where
  pub gathered_more : (m : ℕ) → Some m ≡ some_if (test c) (f c) → take (n + 1) (set epochs n m) ≡ map f (keep test (below (c + 1)))
  gathered_more m said =
      let told = some_told (test c) (f c) m said in
      rw (add-one n, take-suc-set epochs n m within, before, told.1) (sym (keep_more c test f told.0))

  pub gathered_same : None ≡ some_if (test c) (f c) → take n epochs ≡ map f (keep test (below (c + 1)))
  gathered_same said = before ∙ sym (keep_same c test f (none_told (test c) (f c) said))

-- where no kind means a blank page, the kind tells whether a page is programmed
pub kind-programmed : (tag : List ℕ) → blank tag ≡ eqb (kind tag) 255 → (t : Bool) → (eqb (kind tag) 255 || eqb (kind tag) 0) ≡ t → programmed tag ≡ not t
unfolding programmed spoiled
kind-programmed tag h t e = rw h (neither (eqb (kind tag) 255) (eqb (kind tag) 0) ∙ ap not e)
  where
    neither : (a b : Bool) → (not a && not b) ≡ not (a || b)
    neither true b = refl
    neither false b = refl

-- a used bucket has the epoch of its head
used-epoch : (z : Sizes) (d : Device) (c : ℕ) → some_if (programmed (head_tag z d c)) (epoch (head_tag z d c)) ≡ some_if (used z d c) (epoch_of z d c)
unfolding used
used-epoch z d c = go (used z d c) refl
  where
    go : (t : Bool) → used z d c ≡ t → some_if t (epoch (head_tag z d c)) ≡ some_if t (epoch_of z d c)
    go true e = ap Some (sym (epoch-used z d c e))
    go false e = refl

pub head_said : (z : Sizes) (d : Device) (c : ℕ) (tag : List ℕ) (r : Option ℕ) → tag ≡ head_tag z d c → blank (head_tag z d c) ≡ eqb (kind (head_tag z d c)) 255
    → PageEpoch tag r → r ≡ some_if (used z d c) (epoch_of z d c)
head_said z d c tag r e none said = (rw e at said) none ∙ used-epoch z d c
