-- Counts of cache buckets.
use Rattle.std.specs.Prelude.{ℕ, ◌+◌, ◌≤◌, ◌<◌, ◌≡◌, List, length, get_or}
use Rattle.lists.specs.Lists.{times}

-- a count for each bucket, so low that all buckets of a further queue can be counted
abbrev pub Few : List ℕ → Type 0
Few counts = (length counts ≡ 256) × ((x : ℕ) → x < 256 → get_or counts x 0 ≤ 1024)

-- the numbers of l are counted, beside what was counted before
abbrev pub Tallied : (before l counts : List ℕ) → Type 0
Tallied before l counts = (length counts ≡ 256) × ((x : ℕ) → x < 256 → get_or counts x 0 ≡ get_or before x 0 + times x l)
