-- Erases of a list of buckets: what holds after each first part of the list, and what the chip then shows.
use Prim.Native.Nat.{ℕ, ◌≤◌}
use mathlib.Core.Path.{◌≡◌, refl, ap}
use mathlib.Core.List.{List, [], ◌∷◌, ◌++◌, map}
use native.Mathlib.Omega.{arith}
use native.Mathlib.Decide.{dec_lt}
use lib.ListN.{get_or}
use Rattle.lists.specs.Lists.{times}
use Rattle.model.specs.declared.Sizes.{Sizes}
use Rattle.model.specs.Sizes.{Device}
use Rattle.model.specs.Stores.{erase, apply, apply_all}
use Rattle.model.proofs.Safe.{view, Along}
use Rattle.model.proofs.Frames.{Lengths}
use Rattle.model.proofs.Show.{Same, epoch_of-same, is_dirty-same, gives_same, holds_same}
use Rattle.model.proofs.Buckets.{blank_gives, blank-holds}
use Rattle.model.proofs.QueuesErased.{gone, Below, gone_same, gone_blank, gone_disk}
use Rattle.model.proofs.Retire.{Without}

module _ (z : Sizes) where
  pub along_erases : (Q : Device → Type 0) (d : Device) (gs : List ℕ) → ((done rest : List ℕ) → gs ≡ done ++ rest → Q (gone z d done)) → Along z Q d (map erase gs)
  unfolding apply_all
  along_erases Q d [] h = h [] [] refl
  along_erases Q d (g ∷ gs) h = (h [] (g ∷ gs) refl, along_erases Q (apply z d (erase g)) gs (λ done rest e. h (g ∷ done) rest (ap (λ (l : List ℕ). g ∷ l) e)))

  pub without_gone : 1 ≤ z.p → (d : Device) → Lengths z d → (gs : List ℕ) → Below z gs → Without (view z d) (view z (gone z d gs)) (λ c. 1 ≤ times c gs)
  without_gone p_pos d L gs below = record {
    decide = λ c. dec_lt 0 (times c gs);
    gives_gone = λ c b i h. blank_gives z (gone z d gs) c p_pos (gone_blank z gs below d L c h) b i;
    holds_gone = λ c b h. blank-holds z (gone z d gs) c p_pos (gone_blank z gs below d L c h) b;
    gives_left = λ c b i h. gives_same z p_pos d (gone z d gs) c (still c h) b i;
    holds_left = λ c b h. holds_same z p_pos d (gone z d gs) c (still c h) b;
    age_left = λ c h. epoch_of-same z p_pos d (gone z d gs) c (still c h);
    dirty_left = λ c h. is_dirty-same z p_pos d (gone z d gs) c (still c h);
    bytes_left = λ c i h. ap (λ (l : List ℕ). get_or l i 0) (still c h).bytes_same;
    disk_left = λ b i. ap (λ (l : List ℕ). get_or l i 0) (gone_disk z gs below d L b);
  }
    where
      still : (c : ℕ) → ¬ (1 ≤ times c gs) → Same z d (gone z d gs) c
      still c h = gone_same z gs below d L c (omega arith)
