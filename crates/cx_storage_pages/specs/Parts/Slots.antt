-- What holds of the addresses that are kept, one at most in each slot; a slot without one has a number from 2^24 on.
use Rattle.std.specs.Prelude.{◌≡◌, ℕ, ◌+◌, ◌/◌, ◌%◌, ◌^◌, ◌<◌, ◌≤◌, ◌⊎◌, List, [], Some, slice_index, get_or}
use Rattle.cx_storage.specs.Storage.{Storage, span}

-- each address is in its slot
abbrev pub IsPlaced : List ℕ → Type 0
IsPlaced slots = (i : ℕ) → i < 1024 → slice_index slots i < 2 ^ 24 → slice_index slots i / 2 % 1024 ≡ i

-- eight bytes from an address on lie from a first up to an end, exclusive, which are inside storage and not in its
-- first 4,096 bytes
abbrev pub IsWithin : ℕ → ℕ → ℕ → Type 0
IsWithin first end at = (at % 2 ≡ 0) × (4096 ≤ at) × (at + 8 ≤ 2 ^ 24) × (first ≤ at) × (at + 8 ≤ end)

abbrev pub AreWithin : ℕ → ℕ → List ℕ → Type 0
AreWithin first end slots = (i : ℕ) → i < 1024 → slice_index slots i < 2 ^ 24 → IsWithin first end (slice_index slots i)

-- the bytes of each slot are those that storage has from its address on
abbrev pub AreStored : Storage → List ℕ → List (List ℕ) → Type 0
AreStored s slots bytes =
    (i : ℕ) → i < 1024 → slice_index slots i < 2 ^ 24 → span s (slice_index slots i) 8 ≡ Some (get_or bytes i [])

-- eight bytes from an address on have none of the n from a on, which may go on at address 0
abbrev pub IsAside : ℕ → ℕ → ℕ → Type 0
IsAside a n at = (a + n ≤ at) ⊎ ((at + 8 ≤ a) × (n ≤ 4096))

-- the half of an address is below a first number, or from a second on
abbrev pub IsOutside : ℕ → ℕ → ℕ → Type 0
IsOutside from end at = (at / 2 < from) ⊎ (end ≤ at / 2)

-- the addresses that are left were there, and something holds of them
abbrev pub AreLeft : (ℕ → Type 0) → List ℕ → List ℕ → Type 0
AreLeft P old new =
    (i : ℕ) → i < 1024 → slice_index new i < 2 ^ 24 → (slice_index new i ≡ slice_index old i) × P (slice_index new i)
