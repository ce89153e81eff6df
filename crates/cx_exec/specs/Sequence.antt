-- Bytes that are stored one after the other (GA22-7000, "Move", "Exclusive Or", "Translate", "Pack", "Unpack": where
-- operands overlap, the result is as if each byte were stored before the next ones are fetched).
use Rattle.std.specs.Prelude.{ℕ, zero, suc, List, [], ◌∷◌, ◌++◌, length, slice_index, nat_lt, unwrap_or, if◌then◌else◌}
use Rattle.cx_storage.specs.Storage.{Storage, byte_at}

-- the byte at the address of a byte that is present
abbrev pub content_at : Storage → ℕ → ℕ
content_at s x = unwrap_or (byte_at s x) 0

-- the byte seen at x, the address of the number-th byte to be stored, once some are stored: theirs, else storage's
unfoldable pub byte_seen : Storage → List ℕ → ℕ → ℕ → ℕ
byte_seen s stored number x = if nat_lt number (length stored) then slice_index stored number else content_at s x

-- n bytes, each made by a rule from those stored before it and their number
unfoldable pub stored_by : (List ℕ → ℕ → ℕ) → ℕ → List ℕ
stored_by rule zero = []
stored_by rule (suc n) = stored_by rule n ++ rule (stored_by rule n) n ∷ []
