-- How many bytes are read.
use Rattle.std.proofs.Common.{◌≡◌, ℕ, length}
use Rattle.std.proofs.lemmas.List.FromFn.{length-map-range_with_len}
use Rattle.cx_storage.specs.Address.{address_after}
use Rattle.cx_storage.specs.Storage.{Storage, byte_at}
use Rattle.cx_region_bytes.specs.Rows.{bytes_at}

pub bytes_size : (s : Storage) (address n : ℕ) → length (bytes_at s address n) ≡ n
unfolding bytes_at
bytes_size s address n = length-map-range_with_len (λ k. byte_at s (address_after address k)) 0 n
