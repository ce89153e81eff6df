-- Names of resources: bytes or an address (SC33-0077, "Task Control": ENQ and DEQ).
use Rattle.std.specs.Prelude.{ℕ, Bool, ◌&&◌, nat_le}

-- a length that a name of bytes may have
abbrev pub is_name_length : ℕ → Bool
is_name_length n = nat_le 1 n && nat_le n 255
