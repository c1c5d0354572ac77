-- Places in the bytes of a form.
use Rattle.std.specs.Prelude.{ℕ, ◌+◌, List, length, drop, ltb, if◌then◌else◌}
use Rattle.form.specs.Rows.{table_size, table_fits}

-- the place behind the table at a place, if it stands there whole; else one beyond the last byte, and a place beyond stays
unfoldable pub behind_or_beyond : List ℕ → (c : ℕ) (widths : List ℕ) (most at : ℕ) → ℕ
behind_or_beyond l c ws most at =
    if ltb (length l) at then at
    else (if table_fits c ws most (drop at l) then at + table_size c ws (drop at l) else length l + 1)
