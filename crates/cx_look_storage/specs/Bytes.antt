-- STORAGE: bytes of storage, and the areas that they are in (own).
use Rattle.std.specs.Prelude.{ℕ, ◌+◌, ◌*◌, ◌/◌, Option, List, [], ◌∷◌, ◌++◌, drop, length, take}
use Rattle.std.specs.List.{filter, flat_map, range_with_len}
use Rattle.cx_storage.specs.Address.{address_after}
use Rattle.cx_storage.specs.Storage.{areas_of}
use Rattle.cx_region_bytes.specs.Rows.{bytes_at, row_text}
use Rattle.cx_region.specs.State.{RegionState}
use Rattle.cx_look_lines.specs.Words.{look_line, Lines}
use Rattle.cx_look_storage.specs.Uses.{is_met, met_line}

-- the row of a number, counted from 0, of bytes that begin at an address: sixteen of them, or as many as are left
abbrev pub row_line : ℕ → List (Option ℕ) → ℕ → Lines
row_line at bytes k = look_line (row_text (address_after at (16 * k)) (take 16 (drop (16 * k) bytes)) ∷ [])

-- their rows
unfoldable pub row_lines : ℕ → List (Option ℕ) → Lines
row_lines at bytes = flat_map (row_line at bytes) (range_with_len 0 ((length bytes + 15) / 16))

-- the bytes, and a line for each area that has one of them
unfoldable pub storage_text : RegionState → ℕ → ℕ → Lines
storage_text region address n =
    row_lines address (bytes_at region.shared.storage address n)
    ++ flat_map (met_line region address) (filter (is_met address n) (areas_of region.shared.storage))
