-- Names that are at an address or before it: the nearest, and how one is written (own).
use Rattle.std.specs.Prelude.{ℕ, nat_lt, if◌then◌else◌, Option, Some, None, List, [], ◌∷◌, ◌++◌, codes}
use Rattle.std.specs.Option.{option_map_or}
use Rattle.cx_base.specs.Digits.{digits}
use Rattle.cx_look_lines.specs.Words.{written_name}
use Rattle.cx_look_fields.specs.declared.nearest.Near.{Near}

abbrev pub near : List ℕ → ℕ → Near
near name distance = record { name = name; distance = distance }

-- of two the one with the less distance, of equal ones the first
abbrev pub nearer_symbol : Near → Near → Near
nearer_symbol one later = if nat_lt later.distance one.distance then later else one

unfoldable pub nearest : List Near → Option Near
nearest [] = None
nearest (one ∷ more) = Some (option_map_or (nearer_symbol one) (nearest more) one)

-- a name, and how far after its first byte
abbrev pub near_word : Near → List ℕ
near_word near = written_name near.name ++ codes "+" ++ digits 16 6 near.distance
