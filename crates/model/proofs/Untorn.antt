-- The promise whose cuts fall between whole stores, as it read before erases could stop halfway and programs spoil their page: it follows from the promise with tears.
use Prim.Native.Nat.{ℕ, zero, suc}
use mathlib.Core.Path.{◌≡◌, refl, subst}
use mathlib.Core.Bool.{Bool, true, false}
use mathlib.Core.List.{List, [], ◌∷◌, map}
use lib.ListN.{drop}
use Rattle.std.specs.Prelude.{if◌then◌else◌}
use Rattle.model.specs.declared.Sizes.{Sizes}
use Rattle.model.specs.declared.Answer.TheVariants.{Done}
use Rattle.model.specs.Sizes.{Device}
use Rattle.model.specs.Stores.{Store, program, erase, unit}
use Rattle.model.specs.State.{State}
use Rattle.model.specs.Calls.{Call, format_call, Outcome, is_cut, plan_of, call}
use Rattle.model.specs.Promise.{Lent, Tear, Item, MayStand, MayBeLent, lent_of, left_of, half_erased, torn, after_call, feed, Claim, Throughout, Always, AlwaysHolds, Promised, NothingLost}

-- ---- the promise before

-- one call of the list, with its allowance
pub record WholeItem : Type 0 where
  pub allowance : ℕ
  pub request : Call
  pub lent : Lent

module _ {S : Type 0} (shows : S → State) (next : S → Outcome → S) (claim : Claim) where
  -- each call is given the state, chip and disk that the last one left
  unfoldable pub ThroughoutWhole : Sizes → List WholeItem → S → Device → List ℕ → Type 0
  ThroughoutWhole z [] s d plain = Unit {0}
  ThroughoutWhole z (x ∷ xs) s d plain =
      let o = call x.allowance x.request (shows s) (lent_of x.lent d) in
      MayStand z x.request → MayBeLent z x.lent
      → claim z plain x.request x.lent o
      × ThroughoutWhole z xs (next s o) (left_of x.lent d o.device) (feed z x.request o.answer plain)

  unfoldable pub AlwaysWhole : Type 0
  AlwaysWhole = (z : Sizes) (n : ℕ) (s : S) (d : Device) (xs : List WholeItem)
      → let o = call n (format_call z) (shows s) d in
      o.answer ≡ Done → ThroughoutWhole z xs (next s o) o.device d.disk

unfoldable pub NothingLostWhole : Type 0
NothingLostWhole = AlwaysWhole (λ (s : State). s) (λ (s : State) (o : Outcome). o.state) Promised

-- ---- a tear that blanks no page and spoils none: both kinds of tear are left out

no_tear : Tear
no_tear = record { blanked = λ (k : ℕ). false; spoils = false; data_bytes = []; spare_bytes = [] }

abbrev untorn_item : WholeItem → Item
untorn_item x = record { allowance = x.allowance; request = x.request; lent = x.lent; tear = no_tear }

module _ (z : Sizes) where
  half_none : (d : Device) (c n : ℕ) → half_erased z (λ (k : ℕ). false) d c n ≡ d
  unfolding half_erased
  half_none d c zero = refl
  half_none d c (suc n) = half_none d c n

  torn-none : (d : Device) (ss : List Store) → torn z no_tear d ss ≡ d
  unfolding torn no_tear
  torn-none d [] = refl
  torn-none d (program c k bytes tag ∷ ss) = refl
  torn-none d (erase c ∷ ss) = half_none d c z.p
  torn-none d (unit u bytes ∷ ss) = refl

  after_whole : (x : WholeItem) (s : State) (d : Device) (o : Outcome) → after_call z (untorn_item x) s d o ≡ o.device
  unfolding after_call
  after_whole x s d o = go (is_cut o.answer)
    where
      rest : List Store
      rest = drop o.stores (plan_of x.request s d).stores

      go : (t : Bool) → (if t then torn z no_tear o.device rest else o.device) ≡ o.device
      go true = torn-none o.device rest
      go false = refl

  module _ {S : Type 0} (shows : S → State) (next : S → Outcome → S) (claim : Claim) where
    untorn_throughout : (xs : List WholeItem) (s : S) (d : Device) (plain : List ℕ) → Throughout shows next claim z (map untorn_item xs) s d plain
        → ThroughoutWhole shows next claim z xs s d plain
    unfolding Throughout ThroughoutWhole
    untorn_throughout [] s d plain h = tt
    untorn_throughout (x ∷ xs) s d plain h = λ may lent.
        let r = h may lent in
        let o : Outcome = call x.allowance x.request (shows s) (lent_of x.lent d) in (
          r.0,
          untorn_throughout xs _ _ _ (subst (λ (e : Device). Throughout shows next claim z (map untorn_item xs) (next s o) (left_of x.lent d e) (feed z x.request o.answer plain))
              (after_whole x (shows s) (lent_of x.lent d) o) r.1),
        )

-- the promise with tears holds of lists without any
pub untorn : NothingLost → NothingLostWhole
unfolding NothingLost NothingLostWhole AlwaysHolds Always AlwaysWhole
untorn h z n s d xs e = untorn_throughout z _ _ Promised xs _ _ _ (h z n s d (map untorn_item xs) e)
