-- What the workbench's lines need to be safe.
use Rattle.std.specs.Prelude.{ℕ, ◌+◌, ◌/◌, ◌≤◌, ◌≡◌, true, List, length}
use Rattle.lists.specs.Lists.{all}
use Rattle.model.specs.Spare.{four}
use Rattle.model.specs.Driving.{is_digit}

-- the longest text buffer that a line may ask for
abbrev pub most_text : ℕ
most_text = 131072

-- room for an answer, stores, the length (4) of an image's text and its bytes, two digits each, and a line feed
abbrev pub text_room : ℕ
text_room = 262159

-- digits alone, two to a byte, some and not too many
pub record Hex (line : List ℕ) : Type 0 where
  pub digits : all is_digit line ≡ true
  pub short : length line ≤ 8192
  pub some : 1 ≤ length line / 2

-- what is put has the length of its place: lines 12 and 14, at pages of s bytes; the text buffer of a line 30 is not too long
pub record Fields (operation s : ℕ) (fields : List ℕ) : Type 0 where
  pub page : operation ≡ 0x12 → length fields ≡ 19 + s
  pub unit : operation ≡ 0x14 → length fields ≡ 3 + s
  pub text : operation ≡ 0x30 → four fields 0 ≤ most_text
