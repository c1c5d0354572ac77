-- A bucket joins the GC queue: when it may be erased after those that stand there.
use Prim.Native.Nat.{ℕ, ◌≤◌, ◌<◌}
use mathlib.Core.Path.{◌≡◌, sym, ◌∙◌, subst}
use mathlib.Core.Logic.{◌≢◌}
use mathlib.Core.Bool.{true≢false}
use mathlib.Core.List.{List, [], ◌∷◌, ◌++◌, map}
use native.Mathlib.Decide.{ℕ_discrete}
use Rattle.lists.specs.Lists.{times}
use Rattle.lists.proofs.Rows.{map_append}
use Rattle.lists.proofs.Counts.{times-only}
use Rattle.model.specs.declared.Sizes.{Sizes}
use Rattle.model.specs.Sizes.{Device}
use Rattle.model.specs.Stores.{Store, erase, apply, apply_all}
use Rattle.model.specs.Image.{back_of}
use Rattle.model.proofs.Views.{SafeAt}
use Rattle.model.proofs.Retire.{Without, retire_others}
use Rattle.model.proofs.Erases.{without_gone}
use Rattle.model.proofs.Safe.{view, plain_at, Safe, Along, Ready}
use Rattle.model.proofs.Frames.{Lengths}
use Rattle.model.proofs.Show.{Same, same_erase}
use Rattle.model.proofs.Prefix.{along_end, along_append}
use Rattle.model.proofs.Buckets.{gives_other, holds_other}
use Rattle.model.proofs.QueuesErased.{gone}

-- one bucket erased
module _ (z : Sizes) (p_pos : 1 ≤ z.p) (d : Device) (L : Lengths z d) (x : ℕ) (hx : x < z.c) where
  pub same_left : (c : ℕ) → c ≢ x → Same z d (apply z d (erase x)) c
  same_left c ne = same_erase z d L x hx c ne

  pub erased_view : Without (view z d) (view z (apply z d (erase x))) (λ c. 1 ≤ times c (x ∷ []))
  unfolding apply_all
  erased_view = without_gone z p_pos d L (x ∷ []) (λ c t. rw (times-only c x t) hx)

  -- a bucket of b is nothing to other back-end buckets
  pub safe_erased : (plain : List ℕ) (b : ℕ) → back_of z d x ≡ b → Safe z plain d → SafeAt (view z (apply z d (erase x))) b (plain_at z plain b) → Safe z plain (apply z d (erase x))
  unfolding Safe
  safe_erased plain b e safe own b' = go (ℕ_discrete b b')
    where
      go : Dec (b ≡ b') → SafeAt (view z (apply z d (erase x))) b' (plain_at z plain b')
      go (yes q) = rw (← q) own
      go (no ne) = retire_others erased_view b' (plain_at z plain b')
          (λ c i q. rw (times-only c x q) (gives_other z d x b' i (λ r. ne (sym e ∙ r))))
          (λ c n q. true≢false (sym n.0 ∙ rw (times-only c x q) (holds_other z d x b' (λ r. ne (sym e ∙ r))))) (safe b')

pub joined : (z : Sizes) (plain : List ℕ) (gs : List ℕ) (d : Device) (x : ℕ) → Ready z plain gs d → Safe z plain (apply z (gone z d gs) (erase x)) → Ready z plain (gs ++ (x ∷ [])) d
joined z plain gs d x r safe =
    subst (λ (l : List Store). Along z (Safe z plain) d l) (sym (map_append erase gs (x ∷ [])))
    (along_append z (Safe z plain) d (map erase gs) (erase x ∷ []) r (along_end z (Safe z plain) d (map erase gs) r, safe))
