-- A line of the listing: offset, object, line number, text (this product's own).
use Rattle.std.specs.Prelude.{ℕ, ◌+◌, ◌-◌, ◌*◌, ◌/◌, ◌%◌, ◌^◌, Option, Some, None, List, [], ◌∷◌, ◌++◌, length, map, take, replicate, codes}
use Rattle.std.specs.Str.{byte}
use Rattle.byteorder.specs.Endian.{big_bytes}
use Rattle.hex.specs.Hex.{encode_upper}

-- an offset, modulo 2^24, as 6 hexadecimal digits; blanks without one
unfoldable pub offset_column : Option ℕ → List ℕ
offset_column None = replicate 6 (byte " ")
offset_column (Some at) = encode_upper (big_bytes 3 (at % 2 ^ 24))

-- the first 8 bytes as hexadecimal digits, with blanks after them up to 16 columns
unfoldable pub object_column : List ℕ → List ℕ
object_column bytes = encode_upper (take 8 bytes) ++ replicate (16 - 2 * length (take 8 bytes)) (byte " ")

-- the last 5 digits of a number, zeros before it
unfoldable pub number_column : ℕ → List ℕ
number_column n = map (λ places. byte "0" + n / 10 ^ places % 10) (4 ∷ 3 ∷ 2 ∷ 1 ∷ 0 ∷ [])

-- the four columns, a blank between each two
unfoldable pub listing_line : Option ℕ → List ℕ → ℕ → List ℕ → List ℕ
listing_line at object number text =
    offset_column at ++ codes " " ++ object_column object ++ codes " " ++ number_column number ++ codes " " ++ text
