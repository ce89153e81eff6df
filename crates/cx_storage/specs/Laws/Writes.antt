-- The laws of writes: what a byte and bytes written leave.
use Rattle.std.specs.Option.{option_map_or, option_map}
use Rattle.std.specs.Prelude.{◌≡◌, ℕ, ◌<◌, ◌≤◌, Bool, true, false, List, length, Some, is_some, nat_lt, ◌==◌, if◌then◌else◌, ◌^◌, slice_index}
use Rattle.cx_storage.specs.Storage.{Storage, byte_at, holder, areas_of, span, with_byte, after_write}
use Rattle.cx_storage.specs.Address.{address_after, distance}
use Rattle.cx_storage.specs.declared.areas.Area.{Area}

-- one byte written: the new one at its address where there was one, and all others as before
abbrev pub ByteAfterSet : Type 0
ByteAfterSet =
    (s : Storage) (a v x : ℕ)
    → byte_at (with_byte s a v) x ≡ (if x == a then option_map (λ (_ : ℕ). v) (byte_at s a) else byte_at s x)

-- bytes written where all of them are present: the k-th at the address k after the first, and all others as before
abbrev pub ByteAfterWrite : Type 0
ByteAfterWrite =
    (s : Storage) (a : ℕ) (bytes : List ℕ) (x : ℕ) → a < 2 ^ 24 → x < 2 ^ 24 → length bytes ≤ 2 ^ 24
    → is_some (span s a (length bytes)) ≡ true
    → byte_at (after_write s a bytes) x
    ≡ (if nat_lt (distance a x) (length bytes) then Some (slice_index bytes (distance a x)) else byte_at s x)

-- no change where one of them is absent
abbrev pub NothingWritten : Type 0
NothingWritten =
    (s : Storage) (a : ℕ) (bytes : List ℕ) → is_some (span s a (length bytes)) ≡ false → after_write s a bytes ≡ s

-- the span that was written reads as written, and one that has none of its addresses as before
abbrev pub SpanAfterWrite : Type 0
SpanAfterWrite =
    (s : Storage) (a : ℕ) (bytes : List ℕ) → a < 2 ^ 24 → length bytes ≤ 2 ^ 24
    → is_some (span s a (length bytes)) ≡ true → span (after_write s a bytes) a (length bytes) ≡ Some bytes

-- a span that has none of the addresses of a write reads as before
abbrev pub SpanAside : Type 0
SpanAside = (s : Storage) (a : ℕ) (bytes : List ℕ) (b n : ℕ) → a < 2 ^ 24 → b < 2 ^ 24 → length bytes ≤ 2 ^ 24
    → ((k : ℕ) → k < n → length bytes ≤ distance a (address_after b k)) → span (after_write s a bytes) b n ≡ span s b n

-- a write changes no area and no presence
abbrev pub WriteKeepsAreas : Type 0
WriteKeepsAreas = (s : Storage) (a : ℕ) (bytes : List ℕ)
    → (areas_of (after_write s a bytes) ≡ areas_of s) × ((x : ℕ) → holder (after_write s a bytes) x ≡ holder s x)
    × ((x : ℕ) → is_some (byte_at (after_write s a bytes) x) ≡ is_some (byte_at s x))
    × ((b n : ℕ) → is_some (span (after_write s a bytes) b n) ≡ is_some (span s b n))

-- one byte written changes no area and no presence either
abbrev pub SetKeepsAreas : Type 0
SetKeepsAreas = (s : Storage) (a v : ℕ)
    → (areas_of (with_byte s a v) ≡ areas_of s) × ((x : ℕ) → holder (with_byte s a v) x ≡ holder s x)
    × ((x : ℕ) → is_some (byte_at (with_byte s a v) x) ≡ is_some (byte_at s x))
    × ((b n : ℕ) → is_some (span (with_byte s a v) b n) ≡ is_some (span s b n))

-- a write into areas that the test names leaves each byte of the other areas
abbrev pub WritesKeepOthers : Type 0
WritesKeepOthers =
    (s : Storage) (a : ℕ) (bytes : List ℕ) (mine : Area → Bool) (x : ℕ) → a < 2 ^ 24 → x < 2 ^ 24
    → length bytes ≤ 2 ^ 24
    → ((k : ℕ) → k < length bytes → option_map_or mine (holder s (address_after a k)) false ≡ true)
    → option_map_or mine (holder s x) false ≡ false
    → byte_at (after_write s a bytes) x ≡ byte_at s x
