-- What makes an image fit to be loaded (this product's own).
use Rattle.std.specs.Prelude.{◌≡◌, ℕ, ◌+◌, Bool, true, ◌&&◌, ◌||◌, not, nat_le, nat_lt, List, [], ◌∷◌, length, codes, find, Option, None, option_map}
use Rattle.std.specs.List.{list_all}
use Rattle.cx_code.specs.declared.image.Image.{Image}
use Rattle.cx_load.specs.declared.fault.ImageFault.{ImageFault}
use Rattle.cx_load.specs.declared.fault.ImageFault.TheVariants.{BadLength, EntryOutside, RelocOutside, Overlap, StgLength}

-- a text of 1 to 65,536 bytes
unfoldable pub has_length : Image → Bool
has_length image = nat_le 1 (length image.text) && nat_le (length image.text) 65536

-- an entry that is an offset of the text
unfoldable pub has_entry : Image → Bool
has_entry image = nat_lt image.entry (length image.text)

-- each relocated word, of four bytes, lies in a text of `size` bytes
unfoldable pub are_inside : ℕ → List ℕ → Bool
are_inside size relocs = list_all (λ r. nat_le (r + 4) size) relocs

-- two words share no byte
unfoldable pub are_apart : ℕ → ℕ → Bool
are_apart r q = nat_le (r + 4) q || nat_le (q + 4) r

-- a word shares no byte with any of these
unfoldable pub is_apart : ℕ → List ℕ → Bool
is_apart r relocs = list_all (λ q. are_apart r q) relocs

-- no two of the words share a byte
abbrev pub all_apart : List ℕ → Bool
all_apart [] = true
all_apart (r ∷ relocs) = is_apart r relocs && all_apart relocs

-- working storage of 80 to 65,520 bytes
unfoldable pub has_stg_length : Image → Bool
has_stg_length image = nat_le 80 image.stg_len && nat_le image.stg_len 65520

-- the name of a fault
abbrev pub fault_name : ImageFault → List ℕ
fault_name BadLength = codes "BadLength"
fault_name EntryOutside = codes "EntryOutside"
fault_name RelocOutside = codes "RelocOutside"
fault_name Overlap = codes "Overlap"
fault_name StgLength = codes "StgLength"

-- the faults in the order of their numbers, each with whether it applies
abbrev pub image_faults : Image → List (ImageFault × Bool)
image_faults image =
    (BadLength, not (has_length image)) ∷ (EntryOutside, not (has_entry image))
    ∷ (RelocOutside, not (are_inside (length image.text) image.relocs)) ∷ (Overlap, not (all_apart image.relocs))
    ∷ (StgLength, not (has_stg_length image)) ∷ []

-- the first that applies, or none
unfoldable pub image_fault : Image → Option ImageFault
image_fault image = option_map (λ row. row.0) (find (λ row. row.1) (image_faults image))

-- an image without a fault
pub record IsFit (image : Image) : Type 0 where
  pub none : image_fault image ≡ None
