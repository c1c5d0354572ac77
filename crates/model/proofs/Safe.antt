-- The invariant of the promise: what holds of chip and disk between any two stores, as long as no store is half done.
use Prim.Native.Nat.{ℕ, zero, suc, ◌+◌, ◌-◌, ◌*◌, ◌<◌}
use mathlib.Core.Path.{◌≡◌}
use mathlib.Core.Bool.{Bool, true, false, ◌&&◌}
use mathlib.Core.Option.{Option, none, some}
use mathlib.Core.List.{List, [], ◌∷◌, map}
use lib.ListN.{get_or}
use lib.Dec.{leb, ltb, eqb}
use Rattle.std.specs.Prelude.{if◌then◌else◌}
use Rattle.lists.specs.Lists.{part}
use Rattle.model.specs.declared.Sizes.{Sizes}
use Rattle.model.specs.declared.Entry.{Entry}
use Rattle.model.specs.Sizes.{Device, lengths, bucket_size, body}
use Rattle.model.specs.Stores.{Store, erase, apply, tag_of, bucket_bytes, disk_bytes}
use Rattle.model.specs.Spare.{offset, extent}
use Rattle.model.specs.Image.{epoch_of, body_fits, back_of, is_write, is_dirty, complete, ends_log, log_bytes}
use Rattle.model.specs.State.{is_marked}
use Rattle.model.specs.Promise.{Tear, torn}
use Rattle.model.proofs.Views.{View, SafeAt}
use Rattle.model.proofs.Queues.{Maps}

-- a tear that spoils no page
abbrev pub unspoiling : (ℕ → Bool) → Tear
unspoiling blanked = record { blanked = blanked; spoils = false; data_bytes = []; spare_bytes = [] }

module _ (z : Sizes) where
  -- ---- what a device shows

  -- page k of c ends a complete log over byte i
  unfoldable pub covers : Device → ℕ → ℕ → ℕ → Bool
  covers d c k i = ends_log z d c k && (leb (offset (tag_of z d c k)) i && ltb i (offset (tag_of z d c k) + extent (tag_of z d c k)))

  -- byte i by the complete logs in the first n pages of c: the last of them that has it
  unfoldable pub found : Device → ℕ → ℕ → ℕ → Option ℕ
  found d c zero i = none
  found d c (suc k) i = if covers d c k i then some (get_or (log_bytes z d c k) (i - offset (tag_of z d c k)) 0) else found d c k i

  -- what the cache bucket c, as a Write bucket of b, gives byte i of b
  unfoldable pub gives_of : Device → ℕ → ℕ → ℕ → Option ℕ
  gives_of d c b i = if ltb c (body z) && (is_write z d c && eqb (back_of z d c) b) then found d c z.p i else none

  -- c is a complete copy of b
  unfoldable pub holds_of : Device → ℕ → ℕ → Bool
  holds_of d c b = ltb c (body z) && (complete z d c && eqb (back_of z d c) b)

  abbrev pub view : Device → View
  view d = record {
    gives = gives_of d;
    age = epoch_of z d;
    holds = holds_of d;
    dirty = is_dirty z d;
    bytes = λ c i. get_or (bucket_bytes z d c) i 0;
    disk = λ b i. get_or (disk_bytes z d b) i 0;
  }

  -- byte i of the back-end bucket b on the plain disk
  unfoldable pub plain_at : List ℕ → ℕ → ℕ → ℕ
  plain_at plain b i = get_or (part plain (b * bucket_size z) (bucket_size z)) i 0

  -- every confirmed byte is on the chip or the disk, where recovery finds it
  unfoldable pub Safe : List ℕ → Device → Type 0
  Safe plain d = (b : ℕ) → SafeAt (view d) b (plain_at plain b)

  -- the buckets outside the ledger are made by the page rules
  pub record Chip (d : Device) : Type 0 where
    pub lens : lengths z d ≡ true
    pub formed : body_fits z d ≡ true
    pub epochs : (c : ℕ) → c < body z → epoch_of z d c < 4294967296

  -- between any two stores
  pub record Sound (plain : List ℕ) (d : Device) : Type 0 where
    pub chip : Chip d
    pub safe : Safe plain d

  -- ---- along a run of stores

  -- Q holds before the first store, between any two and after the last
  abbrev pub Along : (Device → Type 0) → Device → List Store → Type 0
  Along Q d [] = Q d
  Along Q d (s ∷ ss) = Q d × Along Q (apply z d s) ss

  -- Q holds of what a cut in any of the stores leaves, where it spoils no page: of an erase each page is as it was or blank
  abbrev pub Cuts : (Device → Type 0) → Device → List Store → Type 0
  Cuts Q d [] = Unit {0}
  Cuts Q d (s ∷ ss) = ((blanked : ℕ → Bool) → Q (torn z (unspoiling blanked) d (s ∷ ss))) × Cuts Q (apply z d s) ss

  -- every erase of the GC queue, in its order, keeps what is confirmed
  abbrev pub Ready : List ℕ → List ℕ → Device → Type 0
  Ready plain gs d = Along (Safe plain) d (map erase gs)

  -- ---- marked records

  -- a true mark: b's read bucket is Dirty and has the plain disk's bytes, those of b's complete logs among them
  pub record Absorbed (plain : List ℕ) (d : Device) (reads : List Entry) (b : ℕ) : Type 0 where
    pub cache : ℕ
    pub maps : Maps reads b cache
    pub dirty : is_dirty z d cache ≡ true
    pub content : (i : ℕ) → get_or (bucket_bytes z d cache) i 0 ≡ plain_at plain b i

  abbrev pub Marks : List ℕ → Device → (reads writes : List Entry) → Type 0
  Marks plain d reads writes = (b : ℕ) → is_marked b writes ≡ true → Absorbed plain d reads b
