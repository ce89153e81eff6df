-- Storage as the Principles of Operation (GA22-7000, "Storage Addressing") has it: bytes at addresses below 2^24, and
-- addresses that go on at 0 after the last. Here a byte is present exactly where an area covers its address; the areas
-- are this product's own.
use Rattle.std.specs.Prelude.{◌≡◌, ℕ, zero, suc, ◌+◌, ◌-◌, ◌%◌, ◌^◌, ◌<◌, ◌≤◌, Bool, ◌&&◌, not, List, [], ◌∷◌, map, length, replicate, slice_get, slice_set, Option, Some, None, is_some, nat_le, nat_lt, ◌==◌, if◌then◌else◌, ⊤, IsTrue}
use Rattle.std.specs.Option.{option_map, option_and_then}
use Rattle.std.specs.List.{AllByRecursion, filter, list_any}
use Rattle.cx_storage.specs.Address.{address_after}
use Rattle.cx_storage.specs.declared.areas.Area.{Area}
use Rattle.cx_storage.specs.declared.areas.Owner.{Owner}

-- an area with its bytes, the one at its start first
pub record Held : Type 0 where
  pub area : Area
  pub bytes : List ℕ

-- all of storage, by the areas' starts
abbrev pub Storage : Type 0
Storage = List Held

-- the address after the area's last byte
abbrev pub end_of : Area → ℕ
end_of area = area.start + area.len

-- whether the area has a byte at x
abbrev pub covers : Area → ℕ → Bool
covers area x = nat_le area.start x && nat_lt x (end_of area)

-- the byte at x, where there is one
unfoldable pub byte_at : Storage → ℕ → Option ℕ
byte_at [] x = None
byte_at (h ∷ hs) x = if covers h.area x then slice_get h.bytes (x - h.area.start) else byte_at hs x

-- the n bytes from a on, where each of them is present
unfoldable pub span : Storage → ℕ → ℕ → Option (List ℕ)
span s a zero = Some []
span s a (suc n) = option_and_then (λ b. option_map (λ bs. b ∷ bs) (span s (address_after a 1) n)) (byte_at s a)

-- the area with v at the address a, where it has that address
abbrev pub put_byte : ℕ → ℕ → Held → Held
put_byte a v h = if covers h.area a then record h { bytes = slice_set h.bytes (a - h.area.start) v } else h

-- storage with v at the address a; where no area covers a, nothing changes
unfoldable pub with_byte : Storage → ℕ → ℕ → Storage
with_byte s a v = map (put_byte a v) s

-- storage with these bytes from a on, written one after the other
unfoldable pub with_bytes : Storage → ℕ → List ℕ → Storage
with_bytes s a [] = s
with_bytes s a (b ∷ bs) = with_bytes (with_byte s a b) (address_after a 1) bs

-- storage after a write: all of the bytes, or none where one of their addresses has no byte
unfoldable pub after_write : Storage → ℕ → List ℕ → Storage
after_write s a bytes = if is_some (span s a (length bytes)) then with_bytes s a bytes else s

-- the area that starts at a, where one does
unfoldable pub area_at : Storage → ℕ → Option Area
area_at [] a = None
area_at (h ∷ hs) a = if h.area.start == a then Some h.area else area_at hs a

-- the first area, in the order of their starts, that starts at the address from or above, where one does
unfoldable pub next_area : Storage → ℕ → Option Area
next_area [] from = None
next_area (h ∷ hs) from = if nat_le from h.area.start then Some h.area else next_area hs from

-- the area that has the address x, where one does
unfoldable pub holder : Storage → ℕ → Option Area
holder [] x = None
holder (h ∷ hs) x = if covers h.area x then Some h.area else holder hs x

-- the areas alone
unfoldable pub areas_of : Storage → List Area
areas_of s = map (λ h. h.area) s

-- the area of a place
abbrev pub area_from : ℕ → ℕ → Owner → Area
area_from a len owner = record { start = a; len = len; owner = owner }

-- a fresh area: its bytes are zero
abbrev pub zeros : ℕ → ℕ → Owner → Held
zeros a len owner = record { area = area_from a len owner; bytes = replicate len 0 }

-- storage with one more area, in its order
unfoldable pub put_held : Held → Storage → Storage
put_held h [] = h ∷ []
put_held h (g ∷ gs) = if nat_lt h.area.start g.area.start then h ∷ g ∷ gs else g ∷ put_held h gs

-- storage with a fresh area at the place found, if one was
unfoldable pub with_area : Storage → Option ℕ → ℕ → Owner → Storage
with_area s None len owner = s
with_area s (Some a) len owner = put_held (zeros a len owner) s

-- storage without the areas that the test is false at, and without their bytes
unfoldable pub with_areas_kept : (Area → Bool) → Storage → Storage
with_areas_kept keeps s = filter (λ h. keeps h.area) s

-- whether an area starts elsewhere, and whether another slot owns it
abbrev pub starts_elsewhere : ℕ → Area → Bool
starts_elsewhere start area = not (area.start == start)

abbrev pub is_of_other_slot : ℕ → Area → Bool
is_of_other_slot slot area = not (area.owner.slot == slot)

-- whether one area has all n bytes from a on
unfoldable pub in_one_area : Storage → ℕ → ℕ → Bool
in_one_area s a n = list_any (λ h. nat_le h.area.start a && nat_le (a + n) (end_of h.area)) s

-- at least one byte, inside one area and inside one block of 4,096 bytes that starts at a multiple of 4,096
unfoldable pub IsTogether : Storage → ℕ → ℕ → Type 0
IsTogether s a n = (0 < n) × IsTrue (in_one_area s a n) × (a % 4096 + n ≤ 4096)

-- an area of at least one byte below 2^24, with as many bytes as it is long
pub record IsWhole (h : Held) : Type 0 where
  pub nonempty : 0 < h.area.len
  pub below : end_of h.area ≤ 2 ^ 24
  pub full : length h.bytes ≡ h.area.len
  pub small : AllByRecursion (λ b. b < 256) h.bytes

-- each area ends before the later ones start, so no two of them meet
abbrev pub AreOrdered : Storage → Type 0
AreOrdered [] = ⊤
AreOrdered (h ∷ hs) = AllByRecursion (λ later. end_of h.area ≤ later.area.start) hs × AreOrdered hs

-- what every store keeps
unfoldable pub IsSoundStorage : Storage → Type 0
IsSoundStorage s = AllByRecursion IsWhole s × AreOrdered s
