use Rattle.std.proofs.Common.{◌≡◌, ◌<◌, ℕ, slice_index, unwrap_or}
use Rattle.cx_storage.specs.Address.{address_after}
use Rattle.cx_storage.specs.Storage.{byte_at}
use Rattle.cx_storage_pages.specs.Parts.Shown.{stored}
use Rattle.cx_storage_pages.proofs.store.read_each.Given as goal

-- the bytes filled so far are the first of the span
abbrev pub invariant-loop-k : goal.invariant-loop-k
invariant-loop-k l = (j : ℕ) → j < l.k → slice_index l.buffer j ≡ unwrap_or (byte_at (stored l.areas l.pages) (address_after l.a j)) 0
