-- Loading a checked image (this product's own): the text is put, relocated, at the least place of the program range, in
-- a fixed area of slot 0.
use Rattle.std.specs.Prelude.{◌≡◌, ℕ, ◌+◌, List, length, Option, Some}
use Rattle.cx_code.specs.declared.image.Image.{Image}
use Rattle.cx_storage.specs.declared.areas.Owner.{Owner}
use Rattle.cx_storage.specs.declared.areas.Kind.TheVariants.{Fixed}
use Rattle.cx_storage.specs.Storage.{Storage, span, with_area, after_write}
use Rattle.cx_storage.specs.Place.{IsLeastPlace}
use Rattle.cx_load.specs.declared.program.Loaded.{Loaded}
use Rattle.cx_load.specs.Relocation.{relocated_text}

-- the addresses between which programs lie
abbrev pub first_of_programs : ℕ
first_of_programs = 0x010000

abbrev pub last_of_programs : ℕ
last_of_programs = 0x1FFFFF

-- the least place in the program range for n bytes
abbrev pub IsProgramPlace : Storage → ℕ → Option ℕ → Type 0
IsProgramPlace storage size place = IsLeastPlace storage first_of_programs last_of_programs size place

-- the region itself
abbrev pub program_owner : Owner
program_owner = record { slot = 0; kind = Fixed }

-- the text as it is in storage when it was loaded at an address
abbrev pub text_at : ℕ → Image → List ℕ
text_at at image = relocated_text at image.relocs image.text

-- what loading an image into a storage gives: what is reported of the program, and the storage after
pub record IsLoaded (storage : Storage) (image : Image) (loaded : Loaded) (after : Storage) : Type 0 where
  pub place : IsProgramPlace storage (length image.text) (Some loaded.at)
  pub stands : span after loaded.at (length image.text) ≡ Some (text_at loaded.at image)
  pub storage_after : after
      ≡ after_write (with_area storage (Some loaded.at) (length image.text) program_owner) loaded.at
      (text_at loaded.at image)
  pub size : loaded.len ≡ length image.text
  pub entry : loaded.entry ≡ loaded.at + image.entry
  pub stg_len : loaded.stg_len ≡ image.stg_len
