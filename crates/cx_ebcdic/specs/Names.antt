-- Names of programs, transactions, terminals and queues, as the bytes that stand for them in storage
-- (Application Programmer's Reference Manual, SC33-0077, "Names").
use Rattle.std.specs.Prelude.{ℕ, ◌-◌, Bool, ◌&&◌, ◌||◌, ◌==◌, nat_le, if◌then◌else◌, Option, None, List, ◌++◌, length, map, replicate, option_map}
use Rattle.std.specs.Str.{bytes_eq}
use Rattle.cx_ebcdic.specs.Lookup.{each_some}
use Rattle.cx_ebcdic.specs.Characters.{code_of}

-- one of A to Z, 0 to 9, @ # $ (Application Programmer's Reference Manual, SC33-0077, "Names")
unfoldable pub is_name_character : ℕ → Bool
is_name_character c =
    (nat_le 65 c && nat_le c 90) || (nat_le 48 c && nat_le c 57) || (c == 64) || (c == 35) || (c == 36)

-- the code of a name's character
unfoldable pub name_code : ℕ → Option ℕ
name_code c = if is_name_character c then code_of c else None

-- bytes filled with blanks on the right
abbrev pub pad : ℕ → List ℕ → List ℕ
pad width bytes = bytes ++ replicate (width - length bytes) 0x40

-- the name of n bytes that a text spells: 1 to n name characters
unfoldable pub padded_name : ℕ → List ℕ → Option (List ℕ)
padded_name width text =
    if nat_le 1 (length text) && nat_le (length text) width then option_map (pad width) (each_some (map name_code text))
    else None

-- whether two names, as their bytes, are the same: tables are searched by it
abbrev pub is_name : List ℕ → List ℕ → Bool
is_name = bytes_eq
