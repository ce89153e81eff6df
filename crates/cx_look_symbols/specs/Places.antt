-- An address as a program and an offset in it, and its line in the program's source (own).
use Rattle.std.specs.Prelude.{ℕ, zero, suc, ◌+◌, ◌-◌, ◌&&◌, nat_le, nat_lt, Option, None, option_and_then, option_map, List, [], ◌++◌, codes}
use Rattle.std.specs.List.{find}
use Rattle.std.specs.Option.{option_map_or}
use Rattle.cx_load.specs.declared.program.Loaded.{Loaded}
use Rattle.cx_base.specs.Digits.{digits}
use Rattle.cx_base.specs.Texts.{shown_name}
use Rattle.cx_look_symbols.specs.Lines.{SourcePlaces, line_in}
use Rattle.cx_look_symbols.specs.declared.places.Place.{Place}
use Rattle.cx_look_symbols.specs.declared.places.Spot.{Spot}

-- ---- where an address is
-- in the program that has it
abbrev pub spot_of : List (List ℕ × Loaded) → ℕ → Option Spot
spot_of programs address =
    option_map (λ program. record { program = program.0; offset = address - program.1.at })
    (find (λ program. nat_le program.1.at address && nat_lt address (program.1.at + program.1.len)) programs)

abbrev pub place_at_address : List (List ℕ × Loaded) → ℕ → Place
place_at_address programs address = record { address = address; spot = spot_of programs address }

-- Where the byte before an address is: where a command leads back to, the last byte of its EXEC.
unfoldable pub spot_before : List (List ℕ × Loaded) → ℕ → Option Spot
spot_before programs zero = None
spot_before programs (suc before) = spot_of programs before

-- ---- as it is written
-- the line of the statement there, its number in five digits as in the listing, after words that lead to it; nothing
-- where there is none
unfoldable pub line_word : List ℕ → SourcePlaces → Option Spot → List ℕ
line_word words sources spot =
    option_map_or (λ line. words ++ digits 10 5 line)
    (option_and_then (λ it. line_in sources it.program it.offset) spot) []

-- an address and where it is, without its line: NAME+oooooo; hyphens where no program has the address
unfoldable pub address_word : Place → List ℕ
address_word place =
    digits 16 6 place.address ++ codes " "
    ++ option_map_or (λ it. shown_name it.program ++ codes "+" ++ digits 16 6 it.offset) place.spot (codes "--")

-- and with it
unfoldable pub place_word : SourcePlaces → Place → List ℕ
place_word sources place = address_word place ++ line_word (codes " LINE ") sources place.spot
