-- The invariant between two calls, and what a call owes it.
use Prim.Native.Nat.{ℕ, ◌*◌, ◌≤◌}
use mathlib.Core.Path.{◌≡◌}
use mathlib.Core.Logic.{◌⊎◌, ◌≢◌}
use mathlib.Core.Bool.{true}
use mathlib.Core.Option.{none}
use mathlib.Core.List.{List}
use lib.ListN.{length}
use Rattle.lists.specs.Lists.{all}
use Rattle.model.specs.declared.Sizes.{Sizes}
use Rattle.model.specs.declared.Answer.TheVariants.{Done, Cut}
use Rattle.model.specs.Sizes.{Device, limits, bucket_size}
use Rattle.model.specs.Stores.{apply_all}
use Rattle.model.specs.Image.{epoch_of}
use Rattle.model.specs.Ledger.{well_formed}
use Rattle.model.specs.State.{State, holds, cache_of, count_agrees, state_fits}
use Rattle.model.specs.Calls.{Call, refusal, plan_of}
use Rattle.model.specs.Promise.{feed}
use Rattle.model.proofs.Safe.{gives_of, holds_of, Chip, Cuts, Ready, Marks}
use Rattle.model.proofs.LedgerKept.{Apart}
use Rattle.model.proofs.Findable.{Findable}

module _ (z : Sizes) where
  -- of a running state: numbers 4 and 5 hold, the GC queue may be erased at any time, queued buckets are the newest of their back-end bucket, and marks are true
  pub record Live (s : State) (d : Device) (plain : List ℕ) : Type 0 where
    pub formed : well_formed z d ≡ true
    pub fits : state_fits s d ≡ true
    pub chip : Chip z d
    pub apart : Apart z d
    pub ready : Ready z plain s.gc d
    pub newest_reads : (b : ℕ) → holds b s.reads ≡ true → (c : ℕ) → holds_of z d c b ≡ true → epoch_of z d c ≤ epoch_of z d (cache_of b s.reads)
    pub newest_writes : (b : ℕ) → holds b s.writes ≡ true → (c i : ℕ) → c ≢ cache_of b s.writes
        → (gives_of z d c b i ≡ none) ⊎ (epoch_of z d c ≤ epoch_of z d (cache_of b s.writes))
    pub marks : Marks z plain d s.reads s.writes

  pub record Inv (s : State) (d : Device) (plain : List ℕ) : Type 0 where
    pub sizes_are : s.sizes ≡ z
    pub plain-length : length plain ≡ z.b * bucket_size z
    pub found : Findable z plain d
    pub live : s.running ≡ true → Live s d plain

  -- what a call that is not refused owes, to the plain disk as its answer feeds it: each cut that spoils no page, and the whole plan. That its kept counts are true is
  -- shown of every state, and given.
  pub record Owed (k : Call) (s : State) (d : Device) (plain : List ℕ) : Type 0 where
    pub cuts : Cuts z (Findable z (feed z k Cut plain)) d (plan_of k s d).stores
    pub whole : all (count_agrees z (apply_all z d (plan_of k s d).stores)) (plan_of k s d).state.writes ≡ true
        → Inv (plan_of k s d).state (apply_all z d (plan_of k s d).stores) (feed z k Done plain)

  abbrev pub Pays : Call → Type 0
  Pays k = (s : State) (d : Device) (plain : List ℕ) → limits z ≡ true → Inv s d plain → refusal k s d ≡ 0 → Owed k s d plain
