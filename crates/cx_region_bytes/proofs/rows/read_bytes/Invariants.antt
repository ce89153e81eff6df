use Rattle.std.proofs.Common.{◌≡◌, ℕ, ◌<◌, None, length, slice_index_or}
use Rattle.cx_storage.specs.Address.{address_after}
use Rattle.cx_storage.specs.Storage.{byte_at}
use Rattle.cx_region_bytes.proofs.rows.read_bytes.Given as goal

-- the bytes before this one were read
abbrev pub invariant-loop-k : goal.invariant-loop-k
invariant-loop-k g l =
    (length l.bytes ≡ length l.initial.bytes)
    × ((j : ℕ) → j < l.k → slice_index_or l.bytes j None ≡ byte_at l.region.shared.storage (address_after l.address j))
