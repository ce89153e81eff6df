-- The number that bytes are (GA22-7000, "Fixed-Point Data Format", "Decimal Data Formats" and "Decimal Codes").
use Rattle.std.specs.Prelude.{ℕ, ◌+◌, ◌*◌, ◌-◌, ◌/◌, ◌%◌, ◌==◌, ◌&&◌, ◌||◌, nat_le, nat_lt, ℤ, pos, neg_ℤ, if◌then◌else◌, Option, Some, None, List, [], ◌∷◌, fold, length, map, slice_index, take}
use Rattle.std.specs.List.{flat_map, list_all}
use Rattle.byteorder.specs.Endian.{big_number, twos_complement}
use Rattle.cx_look_fields.specs.declared.readings.Reading.{Reading}
use Rattle.cx_look_fields.specs.declared.readings.Reading.TheVariants.{Binary, Packed, Zoned}

-- all but the last of some bytes, and the last
abbrev pub front : List ℕ → List ℕ
front bytes = take (length bytes - 1) bytes

abbrev pub last : List ℕ → ℕ
last bytes = slice_index bytes (length bytes - 1)

-- the half bytes, from left to right
abbrev pub halves : List ℕ → List ℕ
halves bytes = flat_map (λ byte. byte / 16 ∷ byte % 16 ∷ []) bytes

-- the number that digits write
abbrev pub number_of_digits : List ℕ → ℕ
number_of_digits digits = fold (λ number digit. number * 10 + digit) 0 digits

-- The codes A to F are signs, of which B and D are minus.
abbrev pub signed : ℕ → ℕ → ℤ
signed sign number = if sign == 0xB || sign == 0xD then neg_ℤ (pos number) else pos number

-- a decimal number, where its digits are the codes 0 to 9 and its sign is none of these
abbrev pub decimal_with_sign : List ℕ → ℕ → Option ℤ
decimal_with_sign digits sign =
    if list_all (λ digit. nat_lt digit 10) digits && nat_le 10 sign then Some (signed sign (number_of_digits digits))
    else None

-- packed: the half bytes are the digits, and the last is the sign; zoned: the right half bytes are the digits; left of
-- the last is the sign, and left of each other the zone F
abbrev pub number_by : Reading → List ℕ → Option ℤ
number_by Binary bytes = Some (twos_complement (length bytes) (big_number (length bytes) bytes))
number_by Packed bytes = decimal_with_sign (front (halves bytes)) (last (halves bytes))
number_by Zoned bytes =
    if list_all (λ byte. byte / 16 == 0xF) (front bytes)
    then decimal_with_sign (map (λ byte. byte % 16) bytes) (last bytes / 16) else None

-- An operand of a decimal instruction has at most 16 bytes.
unfoldable pub number_as_read : Reading → List ℕ → Option ℤ
number_as_read reading bytes =
    if nat_le 1 (length bytes) && nat_le (length bytes) 16 then number_by reading bytes else None
