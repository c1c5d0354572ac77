-- What the recovered queues keep.
use Rattle.std.specs.Prelude.{ℕ, Bool, true, false, List, [], ◌∷◌, ◌++◌, eqb, if◌then◌else◌}
use Rattle.model.specs.declared.Sizes.{Sizes}
use Rattle.model.specs.declared.Entry.{Entry}
use Rattle.model.specs.Sizes.{Device}
use Rattle.model.specs.Recover.{buckets, by_epoch, is_old_copy, is_dropped_copy, is_dropped_write, is_spent, kept_read, kept_write}
use Rattle.classes.specs.Columns.{is_named}

-- a bucket's entry in the write queue, where blank pages are counted, or in the read queue
abbrev pub entry_of : Sizes → Device → Bool → ℕ → Entry
entry_of z d true = kept_write z d
entry_of z d false = kept_read z d

-- the buckets of an order beside which the column names a back-end bucket
unfoldable pub picked : (column order : List ℕ) → List ℕ
picked [] l = []
picked (b ∷ m) [] = []
picked (b ∷ m) (c ∷ l) = if is_named b then c ∷ picked m l else picked m l

-- the buckets of an order beside which two columns differ
unfoldable pub differing : (column other order : List ℕ) → List ℕ
differing [] n l = []
differing (b ∷ m) [] l = []
differing (b ∷ m) (e ∷ n) [] = []
differing (b ∷ m) (e ∷ n) (c ∷ l) = if eqb b e then differing m n l else c ∷ differing m n l

-- the recovered GC queue
unfoldable pub retired : Sizes → Device → List ℕ
retired z d =
    buckets z d (is_spent z d)
    ++ (by_epoch z d (buckets z d (is_old_copy z d)) ++ (by_epoch z d (buckets z d (is_dropped_copy z d)) ++ by_epoch z d (buckets z d (is_dropped_write z d))))
