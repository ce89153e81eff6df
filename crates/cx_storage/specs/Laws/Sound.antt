-- The law that every change keeps storage sound.
use Rattle.std.specs.List.{AllByRecursion}
use Rattle.std.specs.Prelude.{ℕ, ◌<◌, Bool, List, Option, ◌^◌}
use Rattle.cx_storage.specs.Place.{IsLeastPlace}
use Rattle.cx_storage.specs.Storage.{Storage, with_area, with_areas_kept, IsSoundStorage, with_byte, after_write}
use Rattle.cx_storage.specs.declared.areas.Area.{Area}
use Rattle.cx_storage.specs.declared.areas.Owner.{Owner}

-- every change keeps storage sound
pub record SoundKept : Type 0 where
  pub set : (s : Storage) (a v : ℕ) → IsSoundStorage s → v < 256 → IsSoundStorage (with_byte s a v)
  pub write : (s : Storage) (a : ℕ) (bytes : List ℕ) → IsSoundStorage s → AllByRecursion (λ b. b < 256) bytes
      → IsSoundStorage (after_write s a bytes)
  pub get : (s : Storage) (first last len : ℕ) (start : Option ℕ) (owner : Owner) → IsSoundStorage s → last < 2 ^ 24
      → 0 < len
      → IsLeastPlace s first last len start → IsSoundStorage (with_area s start len owner)
  pub free : (s : Storage) (keeps : Area → Bool) → IsSoundStorage s → IsSoundStorage (with_areas_kept keeps s)
