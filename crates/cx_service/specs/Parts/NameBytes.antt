-- How a resource's name is kept: its bytes with zeros after them. Callers see the bytes alone.
use Rattle.std.specs.Prelude.{◌≡◌, ℕ, ◌-◌, ◌≤◌, List, ◌++◌, length, drop, replicate}
use Rattle.cx_service.specs.declared.resources.NameBytes.TheInside.{Inside}

pub record IsPadded (bytes : List ℕ) (len : ℕ) : Type 0 where
  pub some : 1 ≤ len
  pub few : len ≤ 255
  pub whole : length bytes ≡ 255
  pub zeros : drop len bytes ≡ replicate (255 - len) 0

-- the bytes give back what is kept
abbrev pub kept : List ℕ → Inside
kept bytes = record { bytes = bytes ++ replicate (255 - length bytes) 0; len = length bytes }
