-- The laws of places.
use Rattle.std.specs.Prelude.{◌≡◌, ℕ, ◌+◌, ◌<◌, ◌≤◌, Option, None, ◌%◌, ◌↔◌}
use Rattle.cx_storage.specs.Place.{CanPlace, IsLeastPlace}
use Rattle.cx_storage.specs.Storage.{Storage, byte_at, areas_of, IsSoundStorage}

-- an area may be placed exactly where it is a multiple of 16, all of it lies in the range, and no byte is present
abbrev pub PlaceIsFree : Type 0
PlaceIsFree = (s : Storage) (first last len b : ℕ) → IsSoundStorage s → 0 < len
    → CanPlace s first last len b
    ↔ ((b % 16 ≡ 0) × (first ≤ b) × (b + len ≤ last + 1) × ((x : ℕ) → b ≤ x → x < b + len → byte_at s x ≡ None))

-- there is one least place at most, and it depends on the areas alone
abbrev pub PlaceDecides : Type 0
PlaceDecides =
    (s t : Storage) (first last len : ℕ) (r q : Option ℕ) → areas_of s ≡ areas_of t → IsLeastPlace s first last len r
    → IsLeastPlace t first last len q → r ≡ q
