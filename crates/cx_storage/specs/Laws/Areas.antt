-- The laws of areas: where bytes are, and what areas put in and freed leave.
use Rattle.std.proofs.Common.{get_or, true}
use Rattle.std.specs.List.{list_any}
use Rattle.std.specs.Option.{option_map_or, option_and_then}
use Rattle.std.specs.Prelude.{◌≡◌, ℕ, ◌<◌, ◌≤◌, Bool, false, length, Option, Some, None, is_some, ◌==◌, if◌then◌else◌, ◌^◌, ◌+◌}
use Rattle.cx_storage.specs.Place.{CanPlace}
use Rattle.cx_storage.specs.Storage.{Held, Storage, end_of, covers, byte_at, area_at, next_area, holder, areas_of, with_area, with_areas_kept, IsWhole, IsSoundStorage, area_from, span}
use Rattle.cx_storage.specs.declared.areas.Area.{Area}
use Rattle.cx_storage.specs.declared.areas.Owner.{Owner}

-- an area that is there where it is kept
abbrev pub kept_only : (Area → Bool) → Option Area → Option Area
kept_only keeps o = option_and_then (λ area. if keeps area then Some area else None) o

-- areas don't meet, and each is whole: at least one byte, below 2^24, as many bytes as it is long
abbrev pub AreasApart : Type 0
AreasApart = (s : Storage) (i j : ℕ) (d : Held) → IsSoundStorage s → i < j → j < length s
    → IsWhole (get_or s i d) × IsWhole (get_or s j d) × (end_of (get_or s i d).area ≤ (get_or s j d).area.start)

-- a byte is present exactly where an area has its address, is below 256, and none is from 2^24 on
abbrev pub PresentInAreas : Type 0
PresentInAreas = (s : Storage) (x : ℕ) → IsSoundStorage s
    → (is_some (byte_at s x) ≡ list_any (λ area. covers area x) (areas_of s))
    × (is_some (byte_at s x) ≡ is_some (holder s x)) × ((v : ℕ) → byte_at s x ≡ Some v → v < 256)
    × (2 ^ 24 ≤ x → byte_at s x ≡ None)

-- two sound storages with equal areas and equal bytes are one
abbrev pub SameStorage : Type 0
SameStorage =
    (s t : Storage) → IsSoundStorage s → IsSoundStorage t → areas_of s ≡ areas_of t
    → ((x : ℕ) → byte_at s x ≡ byte_at t x) → s ≡ t

-- what an area put in at a place leaves: its bytes are zero, and all others are as before
abbrev pub FreshArea : Type 0
FreshArea =
    (s : Storage) (first last len a : ℕ) (owner : Owner) (x : ℕ) → IsSoundStorage s → 0 < len
    → CanPlace s first last len a
    → (byte_at (with_area s (Some a) len owner) x ≡ (if covers (area_from a len owner) x then Some 0 else byte_at s x))
    × (area_at (with_area s (Some a) len owner) x ≡ (if a == x then Some (area_from a len owner) else area_at s x))
    × (holder (with_area s (Some a) len owner) x
    ≡ (if covers (area_from a len owner) x then Some (area_from a len owner) else holder s x))

-- what areas freed leave: the bytes of those kept, and no others
abbrev pub AreasFreed : Type 0
AreasFreed = (s : Storage) (keeps : Area → Bool) (x : ℕ) → IsSoundStorage s
    → (byte_at (with_areas_kept keeps s) x ≡ (if option_map_or keeps (holder s x) false then byte_at s x else None))
    × (area_at (with_areas_kept keeps s) x ≡ kept_only keeps (area_at s x))
    × (holder (with_areas_kept keeps s) x ≡ kept_only keeps (holder s x))

-- an area that starts at an address is whole: it has a byte, is below 2^24, and each span inside it is there
pub record IsPresentArea (s : Storage) (start : ℕ) (area : Area) : Type 0 where
  pub here : area.start ≡ start
  pub nonempty : 0 < area.len
  pub below : end_of area ≤ 2 ^ 24
  pub spans : (a n : ℕ) → start ≤ a → a + n ≤ end_of area → is_some (span s a n) ≡ true

abbrev pub AreaIsPresent : Type 0
AreaIsPresent =
    (s : Storage) (start : ℕ) (area : Area) → IsSoundStorage s → area_at s start ≡ Some area
    → IsPresentArea s start area

-- the next area is one of storage that starts at the address from or above, and none that starts there starts below it;
-- None where no area starts there
abbrev pub IsNextArea : Storage → ℕ → Option Area → Type 0
IsNextArea s from None = (start : ℕ) → from ≤ start → area_at s start ≡ None
IsNextArea s from (Some area) =
    (area_at s area.start ≡ Some area) × (from ≤ area.start)
    × ((start : ℕ) → from ≤ start → start < area.start → area_at s start ≡ None)

abbrev pub NextArea : Type 0
NextArea = (s : Storage) (from : ℕ) → IsSoundStorage s → IsNextArea s from (next_area s from)
