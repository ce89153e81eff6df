-- How `FlatStore` goes over its areas.
use Rattle.std.specs.Int.{next_multiple_of}
use Rattle.std.specs.Prelude.{ℕ, suc, ◌+◌, ◌∷◌, max, nat_lt, if◌then◌else◌, nat_le, []}
use Rattle.cx_storage.specs.Storage.{Storage, end_of}

-- the walk for len bytes: it stops where they fit before an area, and else goes on after that area
unfoldable pub walk : ℕ → ℕ → Storage → ℕ
walk len at [] = at
walk len at (h ∷ hs) =
    if nat_le (at + len) h.area.start then at else walk len (max at (next_multiple_of (end_of h.area) 16)) hs

-- how many areas come before one that starts at start
unfoldable pub spot : ℕ → Storage → ℕ
spot start [] = 0
spot start (h ∷ hs) = if nat_lt start h.area.start then 0 else suc (spot start hs)
