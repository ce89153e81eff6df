-- The laws of spans.
use Rattle.cx_storage.specs.declared.areas.Area.{Area}
use Rattle.std.specs.Prelude.{◌≡◌, ℕ, ◌<◌, List, length, Some, ◌^◌, slice_index, ◌↔◌, ◌+◌, ◌≤◌, is_some, ◌%◌, true}
use Rattle.cx_storage.specs.Storage.{Storage, byte_at, span, IsSoundStorage, IsTogether, area_at, end_of}
use Rattle.cx_storage.specs.Address.{address_after}

-- the bytes of a span are those at its addresses, in order
abbrev pub SpanIsBytes : Type 0
SpanIsBytes = (s : Storage) (a n : ℕ) (bytes : List ℕ) → a < 2 ^ 24
    → (span s a n ≡ Some bytes)
    ↔ ((length bytes ≡ n) × ((k : ℕ) → k < n → byte_at s (address_after a k) ≡ Some (slice_index bytes k)))

-- bytes that lie together are there, and don't go on at address 0
abbrev pub TogetherIsPresent : Type 0
TogetherIsPresent =
    (s : Storage) (a n : ℕ) → IsSoundStorage s → IsTogether s a n
    → (0 < n) × (a + n ≤ 2 ^ 24) × (is_some (span s a n) ≡ true)

-- at least one byte of an area that starts at an address, inside a block of 4,096 bytes, lies together
abbrev pub AreaIsTogether : Type 0
AreaIsTogether = (s : Storage) (start : ℕ) (area : Area) (a n : ℕ)
    → area_at s start ≡ Some area → start ≤ a → a + n ≤ end_of area → 0 < n → a % 4096 + n ≤ 4096 → IsTogether s a n
