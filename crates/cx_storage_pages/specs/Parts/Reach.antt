-- How many bytes in a row are present from a granule's first one on.
use Rattle.std.specs.Prelude.{◌+◌, ◌-◌, ◌*◌, ◌/◌, ◌%◌, ◌≤◌, ◌&&◌, ℕ, Bool, List, nat_le, nat_lt, slice_index}

-- whether each granule that a count goes past is full, and no count is above 255
abbrev pub Reaches : List ℕ → Type 0
Reaches counts =
    ((g j : ℕ) → 16 * (j + 1) ≤ slice_index counts g → 16 ≤ slice_index counts (g + j))
    × ((g : ℕ) → slice_index counts g ≤ 255)

-- whether the row of the granule of one byte comes to that of the last byte before another, and that is counted
abbrev pub is_row : List ℕ → ℕ → ℕ → Bool
is_row counts from to =
    nat_le ((to - 1) / 16 - from / 16) (slice_index counts (from / 16) / 16)
    && nat_lt ((to - 1) % 16) (slice_index counts ((to - 1) / 16))
