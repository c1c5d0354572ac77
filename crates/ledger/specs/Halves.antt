-- The ledger's two buckets, page by page.
use Rattle.std.specs.Prelude.{ℕ, ◌≤◌, ◌<◌, ◌≡◌, Bool, true, false, ◌&&◌, ◌||◌}
use Rattle.lists.specs.Lists.{all_below}
use Rattle.model.specs.declared.Sizes.{Sizes}
use Rattle.model.specs.Sizes.{Device}
use Rattle.model.specs.Stores.{tag_of}
use Rattle.model.specs.Spare.{blank, spoiled}
use Rattle.model.specs.Image.{packed}
use Rattle.model.specs.Ledger.{ledger_tag, is_entry}

module _ (z : Sizes) (d : Device) where
  -- page i of the ledger is blank
  unfoldable pub blank_there : ℕ → Bool
  blank_there i = blank (ledger_tag z d i)

  -- page k of the bucket l is an entry, or spoiled
  unfoldable pub taken : (l k : ℕ) → Bool
  taken l k = is_entry z (tag_of z d l k) || spoiled (tag_of z d l k)

  -- it is blank, or so taken
  unfoldable pub blank_or_taken : (l k : ℕ) → Bool
  blank_or_taken l k = blank (tag_of z d l k) || taken l k

  -- the first n pages of the bucket are taken, and page n, if there is one, is not
  abbrev pub Entered : (l n : ℕ) → Type 0
  Entered l n = (n ≤ z.p) × (all_below n (taken l) ≡ true) × (n < z.p → taken l n ≡ false)

  -- taken pages alone, then blank pages alone
  unfoldable pub half_fits : ℕ → Bool
  half_fits l = all_below z.p (blank_or_taken l) && packed z d l
