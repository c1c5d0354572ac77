-- What a drain leaves depends on the spare area alone, and how many buckets join GC.
use Prim.Native.Nat.{ℕ, ◌+◌, ◌≤◌}
use mathlib.Core.Path.{◌≡◌, ap, fun_ext}
use mathlib.Core.Bool.{not}
use native.Mathlib.Omega.{arith}
use lib.ListN.{length, length-append, length-map}
use Rattle.lists.proofs.Arrays.{keep-length}
use Rattle.lists.proofs.Orders.{length_sort}
use Rattle.model.specs.declared.Sizes.{Sizes}
use Rattle.model.specs.Sizes.{Device}
use Rattle.model.specs.Image.{epoch_of}
use Rattle.model.specs.State.{State, caches}
use Rattle.model.specs.Operations.{unclean, is_unclean, is_clean, drained, drain}
use Rattle.image.specs.Chip.{spare_only}
use Rattle.image.proofs.SameSpare.{same_dirty, same-epoch}

module _ (z : Sizes) (d : Device) (s : State) where
  pub drained-length : length (drained z d s) ≤ length s.reads + length s.writes
  unfolding drained caches
  drained-length =
      simp (length-append, length_sort (epoch_of z d), length-map) (omega (arith, keep-length (is_unclean z d s) s.reads))

  pub same-unclean : (b : ℕ) → unclean z (spare_only d.spare) s b ≡ unclean z d s b
  unfolding unclean
  same-unclean b = rw (same_dirty z d)

  same-entry : is_unclean z (spare_only d.spare) s ≡ is_unclean z d s
  unfolding is_unclean
  same-entry = fun_ext (λ e. same-unclean e.back)

  same_clean : is_clean z (spare_only d.spare) s ≡ is_clean z d s
  unfolding is_clean is_unclean
  same_clean = fun_ext (λ e. ap not (same-unclean e.back))

  pub same-drained : (drain z s (spare_only d.spare)).state ≡ (drain z s d).state
  unfolding drain drained
  same-drained = rw (same_clean, same-entry, fun_ext (same-epoch z d))
