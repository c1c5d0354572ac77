-- The erase ledger: its entries, the buckets that they name, and number 4.
use Rattle.std.specs.Prelude.{ℕ, zero, suc, ◌+◌, ◌*◌, Bool, not, ◌&&◌, ◌||◌, List, [], ◌∷◌, map, ltb, eqb, if◌then◌else◌}
use Rattle.lists.specs.Lists.{every, below, all_below, any_below, keep, distinct, same, ff}
use Rattle.model.specs.declared.Sizes.{Sizes}
use Rattle.model.specs.Sizes.{Device, body}
use Rattle.model.specs.Stores.{tag_of}
use Rattle.model.specs.Spare.{blank, programmed, ledger_kind, kind, epoch, back, entry_tag}
use Rattle.model.specs.Image.{shares, fields_fit, packed, bucket_fits, body_fits}

module _ (z : Sizes) where
  -- page i of the ledger's 2P, those of its lower bucket first
  unfoldable pub ledger_tag : Device → ℕ → List ℕ
  ledger_tag d i = tag_of z d (body z) i

  -- "an entry for a bucket outside the ledger"
  unfoldable pub is_entry : List ℕ → Bool
  is_entry tag = same tag (entry_tag (epoch tag) (back tag)) && ltb (back tag) (body z)

  -- "each of their pages is, by its spare bytes, blank or an entry for a bucket outside the ledger"; "A spoiled ledger page is well formed"
  unfoldable pub entry_fits : Device → ℕ → Bool
  entry_fits d i = not (programmed (ledger_tag d i)) || is_entry (ledger_tag d i)

  unfoldable pub entries_fit : Device → Bool
  entries_fit d = all_below (2 * z.p) (entry_fits d)

  -- number 4 of read, write, erase step and drain: "An image is well formed, made by the page rules"; since no rule of another bucket's page takes
  -- kind 4, "state 4 stands nowhere else"
  unfoldable pub well_formed : Device → Bool
  well_formed d = every (body_fits z d ∷ entries_fit d ∷ packed z d (body z) ∷ packed z d (body z + 1) ∷ [])

  -- ---- named buckets

  -- page k of the bucket x holds no epoch but e; a blank or spoiled page holds none
  unfoldable pub holds_epoch : Device → (x e k : ℕ) → Bool
  holds_epoch d x e k = not (programmed (tag_of z d x k)) || eqb (epoch (tag_of z d x k)) e

  -- the entry on page i of the ledger names x; a spoiled page "names nothing"
  unfoldable pub names : Device → (x i : ℕ) → Bool
  names d x i = every
      (eqb (kind (ledger_tag d i)) ledger_kind
      ∷ eqb (back (ledger_tag d i)) x
      ∷ all_below z.p (holds_epoch d x (epoch (ledger_tag d i))) ∷ [])

  -- "A bucket is named if some entry gives its number and none of its pages holds another epoch than that entry."
  unfoldable pub named : Device → ℕ → Bool
  named d x = any_below (2 * z.p) (names d x)

  -- ---- number 4 of recovery: "Only recovery takes holes, in named buckets and the ledger, with ordinals unchecked there."

  -- the first programmed of the first n pages, or one that is not
  unfoldable pub first_of : Device → (c n : ℕ) → List ℕ
  first_of d c zero = ff 16
  first_of d c (suc n) = if programmed (first_of d c n) then first_of d c n else tag_of z d c n

  unfoldable pub first_tag : Device → ℕ → List ℕ
  first_tag d c = first_of d c z.p

  unfoldable pub loose_fits : Device → (c k : ℕ) → Bool
  loose_fits d c k = not (programmed (tag_of z d c k)) || (fields_fit z (tag_of z d c k) && shares (first_tag d c) (tag_of z d c k))

  unfoldable pub found_fits : Device → ℕ → Bool
  found_fits d c = if named d c then all_below z.p (loose_fits d c) else bucket_fits z d c

  unfoldable pub occupied : Device → ℕ → Bool
  occupied d c = programmed (first_tag d c)

  unfoldable pub first_epoch : Device → ℕ → ℕ
  first_epoch d c = epoch (first_tag d c)

  unfoldable pub recoverable : Device → Bool
  recoverable d = every
      (all_below (body z) (found_fits d)
      ∷ distinct (map (first_epoch d) (keep (occupied d) (below (body z))))
      ∷ entries_fit d ∷ [])

  -- ---- the ledger bucket in use

  -- "two in use is number 5"
  unfoldable pub one_in_use : Device → Bool
  one_in_use d = blank (tag_of z d (body z) 0) || blank (tag_of z d (body z + 1) 0)

  -- "The ledger bucket in use is the one not blank, else the lower"
  unfoldable pub in_use : Device → ℕ
  in_use d = if blank (tag_of z d (body z + 1) 0) then body z else body z + 1

  unfoldable pub other_of : ℕ → ℕ
  other_of l = if eqb l (body z) then body z + 1 else body z
