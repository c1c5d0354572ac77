-- Ledger entries as logs of one byte, where the ledger's buckets stand, and the stores of an entry by what is looked up for it.
use Prim.Native.Nat.{ℕ, suc, ◌+◌, ◌-◌, ◌≤◌, ◌<◌}
use mathlib.Core.Path.{◌≡◌, refl, ap, ◌∙◌}
use mathlib.Core.Logic.{◌≢◌}
use mathlib.Core.Bool.{Bool, true, false}
use mathlib.Core.List.{[], ◌∷◌}
use native.Mathlib.Omega.{arith}
use native.Mathlib.Nat.{add-zero, zero-mul, div_self}
use lib.Dec.{leb, eqb}
use borrow.Author.Tests.{le-leb, lt-leb}
use Rattle.std.specs.Prelude.{if◌then◌else◌}
use Rattle.lists.specs.Lists.{row, ff}
use Rattle.model.specs.declared.Sizes.{Sizes}
use Rattle.model.specs.Sizes.{Device, body, pages_for}
use Rattle.model.specs.Spare.{blank, ledger_kind, entry_tag}
use Rattle.model.specs.Stores.{program, erase, tag_of, page_bytes}
use Rattle.model.specs.Image.{epoch_of, blanks}
use Rattle.model.specs.Ledger.{in_use, other_of}
use Rattle.model.specs.Steps.{log_store, log_stores, entry_store, entry_stores}
use Rattle.model.proofs.Limits.{Limits}
use Rattle.log_pages.proofs.Pages.{front_ff}
use Rattle.image.specs.Chip.{spare_only}
use Rattle.image.proofs.SameSpare.{same-blanks, same-epoch}

module _ (z : Sizes) where
  pub same-in_use : (d : Device) → in_use z (spare_only d.spare) ≡ in_use z d
  unfolding in_use tag_of
  same-in_use d = refl

  module _ (limits : Limits z) where
    -- both buckets are the ledger's
    pub in_use_inside : (d : Device) → (body z ≤ in_use z d) × (in_use z d < z.c)
    unfolding in_use
    in_use_inside d = go (blank (tag_of z d (body z + 1) 0))
      where
        go : (t : Bool) → (body z ≤ (if t then body z else body z + 1)) × ((if t then body z else body z + 1) < z.c)
        go true = (omega arith, omega (arith, limits.ledger_in))
        go false = (omega arith, omega (arith, limits.ledger_in))

    pub other_inside : (l : ℕ) → (body z ≤ other_of z l) × (other_of z l < z.c)
    unfolding other_of
    other_inside l = go (eqb l (body z))
      where
        go : (t : Bool) → (body z ≤ (if t then body z + 1 else body z)) × ((if t then body z + 1 else body z) < z.c)
        go true = (omega arith, omega (arith, limits.ledger_in))
        go false = (omega arith, omega (arith, limits.ledger_in))

    -- a log of one byte has one page
    pub one_page : pages_for z 1 ≡ 1
    unfolding pages_for
    one_page = let e : 1 + z.s - 1 ≡ z.s = omega arith in rw e (div_self (omega (arith, limits.s_low)))

    one_byte : page_bytes z (255 ∷ []) 0 ≡ ff z.s
    unfolding page_bytes
    one_byte = rw (zero-mul z.s) (front_ff (suc z.s) z.s (omega arith))

    -- a log of one byte FF is the entry
    pub entry_log : (l k e x : ℕ) → log_stores z l k ledger_kind e x 0 (255 ∷ []) ≡ program l k (ff z.s) (entry_tag e x) ∷ []
    unfolding log_stores log_store row entry_tag
    entry_log l k e x = rw one_page (rw (one_page, one_byte, add-zero k))

  -- what is looked up before the first store: the ledger bucket in use, its blank pages, and the epoch of the bucket x
  module _ (d : Device) (x used n e : ℕ) (is_used : used ≡ in_use z (spare_only d.spare)) (is_blanks : n ≡ blanks z (spare_only d.spare) used) (is_epoch : e ≡ epoch_of z (spare_only d.spare) x) where
    used_here : used ≡ in_use z d
    used_here = is_used ∙ same-in_use d

    blanks_here : n ≡ blanks z d (in_use z d)
    blanks_here = is_blanks ∙ same-blanks z d used ∙ ap (blanks z d) used_here

    pub noted_there : n ≢ 0 → program used (z.p - n) (ff z.s) (entry_tag e x) ∷ [] ≡ entry_stores z d x
    unfolding entry_stores entry_store
    noted_there some =
        let t : leb 1 (blanks z d (in_use z d)) ≡ true = rw (← blanks_here) (le-leb 1 n (omega arith)) in
        rw (t, is_epoch ∙ same-epoch z d x, blanks_here, used_here)

    pub handed_over : n ≡ 0 → program (other_of z used) 0 (ff z.s) (entry_tag e x) ∷ erase used ∷ [] ≡ entry_stores z d x
    unfolding entry_stores entry_store
    handed_over none =
        let t : leb 1 (blanks z d (in_use z d)) ≡ false = rw (← blanks_here) (lt-leb 1 n (omega arith)) in
        rw (t, is_epoch ∙ same-epoch z d x, used_here)
