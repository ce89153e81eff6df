-- What keeps areas at multiples of 16.
use Rattle.std.specs.Coded.{Coded-set, coded_ℕ}
use Rattle.std.specs.List.{AllByRecursion-prop}
use Rattle.std.specs.Prelude.{◌≡◌, ℕ, ◌%◌, Bool, Option, Some, None, []}
use Rattle.cx_storage.specs.Aligned.{AreAligned}
use Rattle.cx_storage.specs.Facts.Sound.{All-map, All-filter, All-put_held, put_byte_area}
use Rattle.cx_storage.specs.Place.{CanPlace, IsLeastPlace}
use Rattle.cx_storage.specs.Storage.{Storage, put_byte, zeros, with_byte, with_area, with_areas_kept}
use Rattle.cx_storage.specs.declared.areas.Area.{Area}
use Rattle.cx_storage.specs.declared.areas.Owner.{Owner}

-- a store's ghost field may hold it
pub AreAligned-prop : (s : Storage) → IsProp (AreAligned s)
unfolding AreAligned
AreAligned-prop s = AllByRecursion-prop (λ h. h.area.start % 16 ≡ 0) (λ h. Coded-set coded_ℕ (h.area.start % 16) 0) s

pub aligned_nil : AreAligned []
unfolding AreAligned
aligned_nil = tt

-- a byte written, an area made, areas freed
pub aligned_with_byte : (s : Storage) (a v : ℕ) → AreAligned s → AreAligned (with_byte s a v)
unfolding AreAligned with_byte
aligned_with_byte s a v all =
    All-map (λ h. h.area.start % 16 ≡ 0) (λ h. h.area.start % 16 ≡ 0) (put_byte a v) s (λ h e. rw (put_byte_area a v h) e) all

pub aligned_with_area : (s : Storage) (first last len : ℕ) (start : Option ℕ) (owner : Owner) → IsLeastPlace s first last len start → AreAligned s → AreAligned (with_area s start len owner)
unfolding AreAligned with_area IsLeastPlace CanPlace
aligned_with_area s first last len None owner least all = all
aligned_with_area s first last len (Some a) owner least all = All-put_held (λ h. h.area.start % 16 ≡ 0) (zeros a len owner) s least.0.0 all

pub aligned_with_areas_kept : (s : Storage) (keeps : Area → Bool) → AreAligned s → AreAligned (with_areas_kept keeps s)
unfolding AreAligned with_areas_kept
aligned_with_areas_kept s keeps all = All-filter (λ h. h.area.start % 16 ≡ 0) (λ h. keeps h.area) s all
