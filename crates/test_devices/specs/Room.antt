-- Devices that move few bytes at a time (this product's own).
use Rattle.std.specs.Prelude.{ℕ, max, min}

-- How many bytes a read or a write moves: as many as were asked for and there is room for, up to a limit, which is at
-- least one.
abbrev pub bytes_moved : ℕ → ℕ → ℕ → ℕ
bytes_moved most asked room = min (min asked room) (max most 1)
