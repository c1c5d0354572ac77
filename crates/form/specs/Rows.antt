-- Rows of numbers, each number of a width of its own, and tables: a count, then so many rows of the same widths.
use Rattle.std.specs.Prelude.{ℕ, zero, suc, ◌+◌, ◌*◌, Bool, true, false, ◌&&◌, List, [], ◌∷◌, ◌++◌, length, drop, leb}
use Rattle.lists.specs.Lists.{concat_map}
use Rattle.form.specs.Numbers.{number_bytes, number_in, in_bytes}

-- the bytes of a row
unfoldable pub width : List ℕ → ℕ
width [] = 0
width (w ∷ ws) = w + width ws

unfoldable pub row_bytes : (widths numbers : List ℕ) → List ℕ
row_bytes [] ns = []
row_bytes (w ∷ ws) [] = []
row_bytes (w ∷ ws) (n ∷ ns) = number_bytes w n ++ row_bytes ws ns

-- the row that l begins with
unfoldable pub row_in : (widths : List ℕ) → List ℕ → List ℕ
row_in [] l = []
row_in (w ∷ ws) l = number_in w l ∷ row_in ws (drop w l)

-- as many numbers as widths, each with room in its own
unfoldable pub row_fits : (widths numbers : List ℕ) → Bool
row_fits [] [] = true
row_fits [] (n ∷ ns) = false
row_fits (w ∷ ws) [] = false
row_fits (w ∷ ws) (n ∷ ns) = in_bytes w n && row_fits ws ns

-- the n rows that l begins with
unfoldable pub rows_in : (widths : List ℕ) (n : ℕ) → List ℕ → List (List ℕ)
rows_in ws zero l = []
rows_in ws (suc n) l = row_in ws l ∷ rows_in ws n (drop (width ws) l)

-- a table whose count has c bytes
unfoldable pub table_bytes : (c : ℕ) (widths : List ℕ) → List (List ℕ) → List ℕ
table_bytes c ws rows = number_bytes c (length rows) ++ concat_map (row_bytes ws) rows

-- the table that l begins with
unfoldable pub table_in : (c : ℕ) (widths : List ℕ) → List ℕ → List (List ℕ)
table_in c ws l = rows_in ws (number_in c l) (drop c l)

unfoldable pub table_size : (c : ℕ) (widths : List ℕ) → List ℕ → ℕ
table_size c ws l = c + number_in c l * width ws

-- it has at most so many rows, and all of them are there
unfoldable pub table_fits : (c : ℕ) (widths : List ℕ) (most : ℕ) → List ℕ → Bool
table_fits c ws most l = leb (number_in c l) most && leb (table_size c ws l) (length l)

-- what stands behind it
unfoldable pub behind : (c : ℕ) (widths : List ℕ) → List ℕ → List ℕ
behind c ws l = drop (table_size c ws l) l
