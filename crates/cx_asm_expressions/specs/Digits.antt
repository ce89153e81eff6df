-- Digits and the numbers that they write (GC33-4010, "Self-Defining Terms").
use Rattle.std.specs.Prelude.{ℕ, ◌-◌, ◌^◌, Bool, false, not, ◌&&◌, ◌==◌, nat_le, nat_lt, if◌then◌else◌, Option, Some, None, List, map, length, unwrap_or}
use Rattle.std.specs.List.{list_all}
use Rattle.std.specs.Option.{option_map_or}
use Rattle.std.specs.Int.Digits.{number_from_digits}

-- the value of a digit: 0 to 9, A to F
unfoldable pub digit : ℕ → Option ℕ
digit c =
    if nat_le 48 c && nat_le c 57 then Some (c - 48)
    else (if nat_le 65 c && nat_le c 70 then Some (c - 55) else None)

-- a digit of a base
abbrev pub is_digit : ℕ → ℕ → Bool
is_digit base c = option_map_or (λ value. nat_lt value base) (digit c) false

-- one digit of a base or more, and nothing else
abbrev pub is_number : ℕ → List ℕ → Bool
is_number base text = not (length text == 0) && list_all (is_digit base) text

abbrev pub digit_value : ℕ → ℕ
digit_value c = unwrap_or (digit c) 0

-- the number that digits of a base write
abbrev pub number_in : ℕ → List ℕ → ℕ
number_in base text = number_from_digits base (map digit_value text)

-- No number goes beyond this one (own): what does is out of range.
abbrev pub bound : ℕ
bound = 2 ^ 100

-- a number that isn't above a greatest one
abbrev pub at_most : ℕ → ℕ → Option ℕ
at_most most number = if nat_le number most then Some number else None
