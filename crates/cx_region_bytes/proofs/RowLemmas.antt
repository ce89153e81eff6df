-- Rows that are filled byte by byte.
use Rattle.std.proofs.Common.{◌≡◌, ℕ, ◌<◌, List, length, Option, None, slice_index_or}
use Rattle.std.proofs.lemmas.List.FromFn.{fill_by_all}
use Rattle.cx_storage.specs.Address.{address_after}
use Rattle.cx_storage.specs.Storage.{Storage, byte_at}
use Rattle.cx_region_bytes.specs.Rows.{bytes_at}

-- a buffer, each of whose bytes was read
pub all_read : (storage : Storage) (address n : ℕ) (bytes : List (Option ℕ)) → length bytes ≡ n
    → ((k : ℕ) → k < n → slice_index_or bytes k None ≡ byte_at storage (address_after address k)) → bytes ≡ bytes_at storage address n
unfolding bytes_at
all_read storage address n bytes size each = fill_by_all (λ k. byte_at storage (address_after address k)) bytes n None size each
