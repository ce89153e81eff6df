-- The hash of storage (this product's own).
use Rattle.std.specs.Prelude.{ℕ, fold}
use Rattle.cx_base.specs.Hash.{hash_with, hash_of}
use Rattle.cx_storage.specs.Storage.{Held, Storage}

-- the hash with the start and the bytes of one area more
abbrev pub hash_with_area : ℕ → Held → ℕ
hash_with_area hash held = hash_with (hash_with hash held.area.start) (hash_of 0 held.bytes)

-- the hash of the areas' starts and bytes, one area after the other
unfoldable pub storage_hash : Storage → ℕ
storage_hash s = fold hash_with_area 0 s
