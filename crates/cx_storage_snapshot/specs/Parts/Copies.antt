-- What copies of areas are.
use Rattle.std.specs.Prelude.{◌≡◌, ℕ, ◌≤◌, List, [], ◌∷◌, ◌++◌, drop, take, Some, nat_le, if◌then◌else◌}
use Rattle.std.specs.List.{AllByRecursion}
use Rattle.cx_storage.specs.Storage.{Held, Storage, end_of, span}
use Rattle.cx_storage.specs.declared.areas.Area.{Area}

-- a copy of an area has its bytes
pub record IsCopyOf (s : Storage) (area : Area) (copy : Held) : Type 0 where
  pub same : copy.area ≡ area
  pub bytes : span s area.start area.len ≡ Some copy.bytes

-- the areas that start at an address or above
unfoldable pub areas_from : ℕ → Storage → Storage
areas_from from [] = []
areas_from from (h ∷ hs) = if nat_le from h.area.start then h ∷ hs else areas_from from hs

-- areas that all end before an address
abbrev pub EndBefore : ℕ → Storage → Type 0
EndBefore start s = AllByRecursion (λ h. end_of h.area ≤ start) s

-- areas that all start at an address or above
abbrev pub StartAfter : ℕ → Storage → Type 0
StartAfter end s = AllByRecursion (λ h. end ≤ h.area.start) s

-- an area of which the first k bytes are written, and the others are still the old ones
unfoldable pub partly : Area → List ℕ → List ℕ → ℕ → Held
partly area bytes old k = record { area = area; bytes = take k bytes ++ drop k old }
