-- The code's fields and the book's spare bytes.
use Rattle.std.specs.Prelude.{ℕ, ◌+◌, ◌*◌, Bool, List, if◌then◌else◌}
use Rattle.lists.specs.Lists.{part}
use Rattle.model.specs.Spare.{two, blank, spoiled, kind, ordinal, pages, epoch, back, offset, tag_bytes}
use Rattle.spare.specs.declared.Fields.{Fields}
use Rattle.spare.specs.declared.Seen.{Seen}
use Rattle.spare.specs.declared.Seen.TheVariants.{Blank, Spoiled, Programmed}

-- the spare bytes with these fields
unfoldable pub tag : Fields → List ℕ
tag f = tag_bytes f.kind f.ordinal f.pages f.epoch f.back f.offset (f.last + 1)

-- the fields that spare bytes say
unfoldable pub fields : List ℕ → Fields
fields tag = record {
  kind = kind tag;
  ordinal = ordinal tag;
  pages = pages tag;
  epoch = epoch tag;
  back = back tag;
  offset = offset tag;
  last = two tag 14;
}

-- what a page is by its spare bytes
unfoldable pub seen : List ℕ → Seen
seen tag = if blank tag then Blank else if spoiled tag then Spoiled else Programmed (fields tag)

-- page j of those from the first on is blank
unfoldable pub blank_from : List ℕ → (first j : ℕ) → Bool
blank_from spare first j = blank (part spare ((first + j) * 16) 16)
