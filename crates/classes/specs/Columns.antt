-- The used cache buckets in one order, and columns of back-end buckets beside it.
use Rattle.std.specs.Prelude.{ℕ, ◌≡◌, Bool, not, ◌&&◌, List, [], ◌∷◌, map, length, ltb, eqb, if◌then◌else◌}
use Rattle.lists.specs.Lists.{keep, times}
use Rattle.model.specs.declared.Sizes.{Sizes}
use Rattle.model.specs.Sizes.{Device}
use Rattle.model.specs.Image.{used, back_of, is_write, is_copy, complete}
use Rattle.model.specs.Recover.{buckets, by_epoch, is_chosen, is_dropped_write, is_dropped_copy, is_free, is_spent}
use Rattle.classes.specs.declared.Kind.{Kind}
use Rattle.classes.specs.declared.Kind.TheVariants.{Used, Free, Spent, Write, Copy, Complete}

-- stands in a column where a bucket is not such; below no B
abbrev pub nowhere : ℕ
nowhere = 65535

module _ (z : Sizes) (d : Device) where
  -- the used buckets by epoch
  abbrev pub in_order : List ℕ
  in_order = by_epoch z d (buckets z d (used z d))

  abbrev pub is_kind : Kind → ℕ → Bool
  is_kind Used = used z d
  is_kind Free = is_free z d
  is_kind Spent = is_spent z d
  is_kind Write = is_write z d
  is_kind Copy = is_copy z d
  is_kind Complete = complete z d

  -- the back-end bucket of a bucket that passes the test
  abbrev pub named : (ℕ → Bool) → ℕ → ℕ
  named t c = if t c then back_of z d c else nowhere

  -- a column: beside each bucket of the order, its back-end bucket if it passes the test
  abbrev pub column : (ℕ → Bool) → List ℕ
  column t = map (named t) in_order

  -- all Write buckets and the dropped ones; the copy of each back-end bucket and the dropped ones
  pub record Columns (order writes writes_dropped copies copies_dropped : List ℕ) : Type 0 where
    pub order_is : order ≡ in_order
    pub writes_are : writes ≡ column (is_write z d)
    pub dropped_writes_are : writes_dropped ≡ column (is_dropped_write z d)
    pub copies_are : copies ≡ column (is_chosen z d)
    pub dropped_copies_are : copies_dropped ≡ column (is_dropped_copy z d)

-- ---- columns from columns

-- x, if it stands in the column so many times
abbrev pub occurring : ℕ → List ℕ → ℕ → ℕ
occurring n l x = if eqb (times x l) n then x else nowhere

-- of equal numbers the last one
unfoldable pub last_of_each : List ℕ → List ℕ
last_of_each [] = []
last_of_each (x ∷ l) = occurring 0 l x ∷ last_of_each l

abbrev pub is_named : ℕ → Bool
is_named x = not (eqb x nowhere)

-- all but the last n of the candidates
unfoldable pub all_but : ℕ → (candidates column : List ℕ) → List ℕ
all_but n [] l = []
all_but n (y ∷ m) [] = []
all_but n (y ∷ m) (x ∷ l) = (if is_named y && ltb (length (keep is_named m)) n then nowhere else x) ∷ all_but n m l
