-- Where two storages differ (own).
use Rattle.std.specs.Prelude.{◌≡◌, ◌≢◌, ℕ, ◌+◌, ◌<◌, ◌≤◌, ◌&&◌, Bool, nat_le, nat_lt, List, [], ◌∷◌}
use Rattle.cx_storage.specs.Storage.{Storage, byte_at}
use Rattle.cx_look_ahead.specs.declared.rows.Row.{Row}

-- the address after a row's last byte
abbrev pub row_end : Row → ℕ
row_end row = row.at + row.length

-- whether a row has the byte at an address
abbrev pub has_byte : ℕ → Row → Bool
has_byte a row = nat_le row.at a && nat_lt a (row_end row)

-- the first row of bytes that differ from an address on, as long as it can be: up to it each byte is the same in both
-- storages, or in neither; a byte that only one of them has differs
pub record IsNextRow (before after : Storage) (from : ℕ) (row : Row) : Type 0 where
  pub low : from ≤ row.at
  pub same_up_to : (a : ℕ) → from ≤ a → a < row.at → byte_at before a ≡ byte_at after a
  pub some : 0 < row.length
  pub differ : (a : ℕ) → row.at ≤ a → a < row_end row → byte_at before a ≢ byte_at after a
  pub ends : byte_at before (row_end row) ≡ byte_at after (row_end row)

-- all of them, the lowest first
unfoldable pub AreRows : Storage → Storage → ℕ → List Row → Type 0
AreRows before after from [] = (a : ℕ) → from ≤ a → byte_at before a ≡ byte_at after a
AreRows before after from (row ∷ rows) = IsNextRow before after from row × AreRows before after (row_end row) rows
