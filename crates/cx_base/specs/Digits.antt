-- Digits (own).
use Rattle.std.specs.Prelude.{ℕ, zero, suc, ◌/◌, ◌%◌, List, [], ◌∷◌, ◌++◌, slice_index, codes}
use Rattle.std.specs.List.{flat_map}

-- the digit that counts the ones of a number, to a base of at most sixteen
abbrev pub last_digit : ℕ → ℕ → ℕ
last_digit base n = slice_index (codes "0123456789ABCDEF") (n % base)

-- the lowest digits of a number, in a given number of places
unfoldable pub digits : ℕ → ℕ → ℕ → List ℕ
digits base zero n = []
digits base (suc places) n = digits base places (n / base) ++ last_digit base n ∷ []

-- bytes as hexadecimal digits, two each
abbrev pub hex_digits : List ℕ → List ℕ
hex_digits bytes = flat_map (digits 16 2) bytes
