-- What the spare bytes say of a page.
use mathlib.Core.Path.{◌≡◌, refl}
use mathlib.Core.Bool.{Bool, true, false, not, ◌&&◌}
use mathlib.Core.List.{List}
use Prim.Native.Nat.{ℕ, ◌+◌}
use lib.ListN.{get_or}
use lib.Dec.{eqb}
use Rattle.std.specs.Prelude.{if◌then◌else◌}
use Rattle.model.specs.Spare.{blank, spoiled, programmed, kind, ordinal, pages}
use Rattle.model.proofs.Tags.{blank-true}
use Rattle.spare.specs.Fields.{fields, seen}
use Rattle.spare.specs.declared.Fields.{Fields}
use Rattle.spare.specs.declared.Seen.TheVariants.{Blank, Spoiled, Programmed}

-- the three outcomes of a look
pub seen-blank : (tag : List ℕ) → seen tag ≡ Blank → blank tag ≡ true
unfolding seen
seen-blank tag h = go (blank tag) (spoiled tag) h
  where
    go : (t u : Bool) → (if t then Blank else if u then Spoiled else Programmed (fields tag)) ≡ Blank → t ≡ true
    go true u h = refl
    go false true h = cc
    go false false h = cc

pub seen-spoiled : (tag : List ℕ) → seen tag ≡ Spoiled → spoiled tag ≡ true
unfolding seen
seen-spoiled tag h = go (blank tag) (spoiled tag) h
  where
    go : (t u : Bool) → (if t then Blank else if u then Spoiled else Programmed (fields tag)) ≡ Spoiled → u ≡ true
    go true u h = cc
    go false true h = refl
    go false false h = cc

pub seen-programmed : (tag : List ℕ) (f : Fields) → seen tag ≡ Programmed f → (programmed tag ≡ true) × (fields tag ≡ f)
unfolding seen programmed
seen-programmed tag f h = go (blank tag) (spoiled tag) h
  where
    go : (t u : Bool) → (if t then Blank else if u then Spoiled else Programmed (fields tag)) ≡ Programmed f → (not t && not u ≡ true) × (fields tag ≡ f)
    go true u h = ((cc), (cc))
    go false true h = ((cc), (cc))
    go false false h = (refl, (cc))

-- what the erased bytes of a blank page read as
pub kind_erased : (tag : List ℕ) → blank tag ≡ true → kind tag ≡ 255
unfolding kind
kind_erased tag h = rw (blank-true tag h)

-- the erased bytes of a blank page end no log
pub ends_real : (tag : List ℕ) (k o n : ℕ) → kind tag ≡ k → ordinal tag ≡ o → pages tag ≡ n → (not (eqb k 0) && eqb (o + 1) n) ≡ (programmed tag && eqb (ordinal tag + 1) (pages tag))
unfolding programmed spoiled kind ordinal pages
ends_real tag k o n p q r = rw (← p, ← q, ← r) (go (blank tag) refl)
  where
    go : (t : Bool) → blank tag ≡ t → (not (eqb (get_or tag 0 0) 0) && eqb (get_or tag 1 0 + 1) (get_or tag 2 0)) ≡ ((not t && not (eqb (get_or tag 0 0) 0)) && eqb (get_or tag 1 0 + 1) (get_or tag 2 0))
    go true e = rw (blank-true tag e)
    go false e = refl
