-- The next row, where there is one.
use Rattle.std.specs.Prelude.{◌≡◌, ℕ, ◌<◌, ◌≤◌, Option, None, Some}
use Rattle.cx_storage.specs.Storage.{Storage, byte_at}
use Rattle.cx_look_ahead.specs.Rows.{IsNextRow}
use Rattle.cx_look_ahead.specs.declared.rows.Row.{Row}

-- from one address up to another each byte is the same in both storages, or in neither
abbrev pub AreSame : Storage → Storage → ℕ → ℕ → Type 0
AreSame before after from to = (a : ℕ) → from ≤ a → a < to → byte_at before a ≡ byte_at after a

abbrev pub MatchNext : Storage → Storage → ℕ → Option Row → Type 0
MatchNext before after from None = (a : ℕ) → from ≤ a → byte_at before a ≡ byte_at after a
MatchNext before after from (Some row) = IsNextRow before after from row
