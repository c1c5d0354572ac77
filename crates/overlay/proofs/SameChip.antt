-- A merge is that of every device with the same chip.
use mathlib.Core.Path.{◌≡◌, refl}
use mathlib.Core.List.{List, [], ◌∷◌}
use Prim.Native.Nat.{ℕ, zero, suc}
use Rattle.model.specs.declared.Sizes.{Sizes}
use Rattle.model.specs.Sizes.{Device}
use Rattle.model.specs.Stores.{tag_of, bucket_bytes}
use Rattle.model.specs.Image.{ends_log, log_bytes, merge_to, merge}
use Rattle.model.specs.Recover.{merge_all}
use Rattle.overlay.specs.Window.{chip}

module _ (z : Sizes) (d : Device) (c : ℕ) (base : List ℕ) where
  pub same-merge_to : (n : ℕ) → merge_to z (chip d.flash d.spare) c base n ≡ merge_to z d c base n
  unfolding merge_to ends_log log_bytes bucket_bytes tag_of
  same-merge_to zero = refl
  same-merge_to (suc k) = rw (same-merge_to k)

  pub same-merge : merge z (chip d.flash d.spare) c base ≡ merge z d c base
  unfolding merge
  same-merge = same-merge_to z.p

pub same-merge-all : (z : Sizes) (d : Device) (l base : List ℕ) → merge_all z (chip d.flash d.spare) l base ≡ merge_all z d l base
unfolding merge_all
same-merge-all z d [] base = refl
same-merge-all z d (c ∷ l) base = rw (same-merge z d c base) (same-merge-all z d l (merge z d c base))
