-- A test of every number below a bound, as `all` of a range makes it.
use Prim.Native.Nat.{ℕ, zero, suc, ◌+◌}
use mathlib.Core.Path.{◌≡◌, refl, sym, ap, ◌∙◌}
use mathlib.Core.Bool.{Bool, true, false, ◌&&◌}
use mathlib.Core.List.{List}
use native.Mathlib.Omega.{arith}
use native.Mathlib.Nat.{add-zero, zero-add, sub-zero}
use denote.Param.Members.{Mut}
use Rattle.std.specs.declared.ops.Range.{Range}
use Rattle.std.specs.Fn.{Called}
use Rattle.std.specs.Iterator.{YieldsThen}
use Rattle.std.specs.List.{FoldsTo, list_all, range_with_len}
use Rattle.std.specs.Prelude.{Option}
use Rattle.std.specs.Option.{MatchOption}
use Rattle.std.proofs.iter.Yields.{nat_range_steps}
use Rattle.std.proofs.lemmas.Iterator.{YieldsList-from_range}
use Rattle.std.proofs.lemmas.Iterator.Search.{all_from_yields_List}
use Rattle.lists.specs.Lists.{all_below}
use Rattle.lists.proofs.Rows.{below_append, below_alike}

module _ (t : ℕ → Bool) where
  all_from : (a n : ℕ) → list_all t (range_with_len a n) ≡ all_below n (λ k. t (a + k))
  unfolding all_below
  all_from a zero = refl
  all_from a (suc n) =
      let more : suc n ≡ 1 + n = omega arith in
      let rest : all_below n (λ k. t (a + 1 + k)) ≡ all_below n (λ k. t (a + (1 + k))) = below_alike n _ _ (λ k h. ap t (omega arith)) in
      ap (λ (s : Bool). t a && s) (all_from (a + 1) n ∙ rest)
      ∙ sym (ap (λ (m : ℕ). all_below m (λ k. t (a + k))) more ∙ (below_append 1 n (λ k. t (a + k)) ∙ rw add-zero))

  -- what the closure returns is t, and it changes nothing
  pub all_told : {F : Type 0} {g : Mut F (ℕ × Unit {0}) Bool} {n : ℕ} {u : Range ℕ} {f : F} {r : Bool}
      → (xs : List ℕ) × (o : Option ℕ) × (j : F) × YieldsThen nat_range_steps (record { start = 0; end = n }) xs o u × FoldsTo (λ p x q. Called g p (x, tt) true q) f xs j × MatchOption o (r ≡ true) (λ x. (r ≡ false) × ((h : F) × Called g j (x, tt) false h))
      → ((x : ℕ) (b : Bool) (q : F) → Called g f (x, tt) b q → (q ≡ f) × (b ≡ t x)) → r ≡ all_below n t
  all_told {n = n} ran closure =
      all_from_yields_List t _ _ _ ran (YieldsList-from_range 0 n n refl (sub-zero n)) closure
      ∙ (all_from 0 n ∙ below_alike n _ t (λ k h. ap t (zero-add k)))
