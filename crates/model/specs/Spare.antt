-- What a page's 16 spare bytes say.
use Rattle.std.specs.Prelude.{ℕ, ◌+◌, ◌-◌, ◌*◌, ◌/◌, ◌%◌, Bool, not, ◌&&◌, List, [], ◌∷◌, get_or, eqb}
use Rattle.lists.specs.Lists.{every, same, ff}

-- "Numbers are stored high byte first."
unfoldable pub two : List ℕ → ℕ → ℕ
two l i = get_or l i 0 * 256 + get_or l (i + 1) 0

unfoldable pub four : List ℕ → ℕ → ℕ
four l i = (two l i * 256 + get_or l (i + 2) 0) * 256 + get_or l (i + 3) 0

-- "An erased spare area is sixteen bytes FF; such a page is blank."
unfoldable pub blank : List ℕ → Bool
blank tag = same tag (ff 16)

-- Byte 0 is the paper's "state (1 Read, 2 Write, 3 Dirty)"; here it is called the kind, since the engine has a state of its own.
abbrev pub read_kind : ℕ
read_kind = 1

abbrev pub write_kind : ℕ
write_kind = 2

abbrev pub dirty_kind : ℕ
dirty_kind = 3

-- "spare state 4": an entry of the erase ledger
abbrev pub ledger_kind : ℕ
ledger_kind = 4

unfoldable pub kind : List ℕ → ℕ
kind tag = get_or tag 0 0

-- "A cut in a program may leave the page spoiled, which the chip reports as spare state 0."
unfoldable pub spoiled : List ℕ → Bool
spoiled tag = eqb (kind tag) 0

-- "Looking at a page's spare then has three outcomes: blank, programmed, spoiled."
unfoldable pub programmed : List ℕ → Bool
programmed tag = not (blank tag) && not (spoiled tag)

-- "1 ordinal of the page in its log; 2 pages in the log"
unfoldable pub ordinal : List ℕ → ℕ
ordinal tag = get_or tag 1 0

unfoldable pub pages : List ℕ → ℕ
pages tag = get_or tag 2 0

-- "4–7 epoch; 8–9 back-end bucket"
unfoldable pub epoch : List ℕ → ℕ
epoch tag = four tag 4

unfoldable pub back : List ℕ → ℕ
back tag = two tag 8

-- "12–13 offset in bytes; 14–15 length less one"
unfoldable pub offset : List ℕ → ℕ
offset tag = two tag 12

unfoldable pub extent : List ℕ → ℕ
extent tag = two tag 14 + 1

-- "3 zero; 10–11 zero"
unfoldable pub zeros : List ℕ → Bool
zeros tag = every (eqb (get_or tag 3 0) 0 ∷ eqb (get_or tag 10 0) 0 ∷ eqb (get_or tag 11 0) 0 ∷ [])

-- the spare bytes that say so
unfoldable pub tag_bytes : (kind ordinal pages epoch back offset extent : ℕ) → List ℕ
tag_bytes k o n e b f l = k ∷ o ∷ n ∷ 0
    ∷ e / 16777216 % 256 ∷ e / 65536 % 256 ∷ e / 256 % 256 ∷ e % 256
    ∷ b / 256 % 256 ∷ b % 256 ∷ 0 ∷ 0
    ∷ f / 256 % 256 ∷ f % 256 ∷ (l - 1) / 256 % 256 ∷ (l - 1) % 256 ∷ []

-- "spare state 4, ordinal 0, count 1, the bucket's epoch in the epoch field (0 if it has none), its number in the back-end field, all else zero"
unfoldable pub entry_tag : (epoch bucket : ℕ) → List ℕ
entry_tag e x = tag_bytes ledger_kind 0 1 e x 0 1
