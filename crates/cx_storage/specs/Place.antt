-- Where a new area goes (this product's own): the least multiple of 16 in a range at which all of it lies in the range
-- and meets no area.
use Rattle.std.specs.Prelude.{◌≡◌, ℕ, ◌+◌, ◌%◌, ◌≤◌, ◌⊎◌, Option, Some, None}
use Rattle.std.specs.List.{AllByRecursion}
use Rattle.cx_storage.specs.Storage.{Held, Storage, end_of}

-- len bytes from b on don't meet the area
abbrev pub Misses : ℕ → ℕ → Held → Type 0
Misses len b h = (end_of h.area ≤ b) ⊎ (b + len ≤ h.area.start)

-- a multiple of 16 at which len bytes lie in the range from first to last, and meet no area
unfoldable pub CanPlace : Storage → ℕ → ℕ → ℕ → ℕ → Type 0
CanPlace s first last len b = (b % 16 ≡ 0) × (first ≤ b) × (b + len ≤ last + 1) × AllByRecursion (Misses len b) s

-- the least such place, or none where there is none
unfoldable pub IsLeastPlace : Storage → ℕ → ℕ → ℕ → Option ℕ → Type 0
IsLeastPlace s first last len None = (b : ℕ) → CanPlace s first last len b → ⊥
IsLeastPlace s first last len (Some a) = CanPlace s first last len a × ((b : ℕ) → CanPlace s first last len b → a ≤ b)
