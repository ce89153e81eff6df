-- What holds of the slots is a proposition.
use Rattle.std.specs.Prelude.{ℕ, ◌/◌, ◌%◌, List, [], Some, slice_index, get_or}
use Rattle.std.specs.Coded.{Π_prop, le_prop, coded_option, coded_list, coded_ℕ, Coded-set}
use Rattle.cx_storage.specs.Storage.{Storage, span}
use Rattle.cx_storage_pages.specs.Parts.Slots.{IsPlaced, IsWithin, AreWithin, AreStored}

pub IsPlaced-prop : (slots : List ℕ) → IsProp (IsPlaced slots)
IsPlaced-prop slots = Π_prop (λ i. Π_prop (λ _. Π_prop (λ _. Coded-set coded_ℕ (slice_index slots i / 2 % 1024) i)))

IsWithin-prop : (first end at : ℕ) → IsProp (IsWithin first end at)
IsWithin-prop first end at = hlevel (Coded-set coded_ℕ (at % 2) 0, le_prop)

pub AreWithin-prop : (first end : ℕ) (slots : List ℕ) → IsProp (AreWithin first end slots)
AreWithin-prop first end slots = Π_prop (λ i. Π_prop (λ _. Π_prop (λ _. IsWithin-prop first end (slice_index slots i))))

pub AreStored-prop : (s : Storage) (slots : List ℕ) (bytes : List (List ℕ)) → IsProp (AreStored s slots bytes)
AreStored-prop s slots bytes =
    Π_prop (λ i. Π_prop (λ _. Π_prop (λ _. Coded-set (coded_option (coded_list coded_ℕ)) (span s (slice_index slots i) 8) (Some (get_or bytes i [])))))
