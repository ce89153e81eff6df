-- The types of constants, as one table (GC33-4010, "DC -- Define Constant" and "DS -- Define Storage").
use Rattle.std.specs.Prelude.{ℕ, zero, suc, ℤ, pos, neg_ℤ, int_le, int_lt, ◌+◌, ◌-◌, ◌*◌, ◌/◌, ◌^◌, Bool, true, false, ◌&&◌, ◌||◌, ◌==◌, nat_le, nat_lt, if◌then◌else◌, Option, Some, None, List, [], ◌∷◌, ◌++◌, option_map, length, map, take, replicate, slice_index, codes, unwrap_or}
use Rattle.std.specs.List.{find, list_all}
use Rattle.std.specs.Option.{option_map_or, option_or}
use Rattle.std.specs.Str.{byte, bytes_eq}
use Rattle.std.specs.Int.{w128}
use Rattle.byteorder.specs.Endian.{big_bytes, low_bytes}
use Rattle.cx_asm_expressions.specs.Digits.{at_most, bound, is_number, number_in, digit_value}
use Rattle.cx_asm_expressions.specs.Fields.{fields, is_decimal, without_sign}
use Rattle.cx_asm_expressions.specs.Texts.{characters, code, has_codes, is_doubled, is_paired}
use Rattle.cx_asm_expressions.specs.declared.faults.FaultKind.{FaultKind}
use Rattle.cx_asm_expressions.specs.declared.faults.FaultKind.TheVariants.{BadOperand, ValueOutOfRange}
use Rattle.cx_asm_expressions.specs.declared.kinds.ConstantKind.{ConstantKind}
use Rattle.cx_asm_expressions.specs.declared.kinds.ConstantKind.TheVariants.{Character, Hexadecimal, Binary, Fullword, Halfword, Packed, Address, External, Doubleword}
use Rattle.cx_asm_expressions.specs.declared.kinds.Style.{Style}
use Rattle.cx_asm_expressions.specs.declared.kinds.Style.TheVariants.{Text, Values, Expression, Nothing}

-- ---- half bytes, counted from the right; those that aren't written are zero
abbrev pub digit_from_right : List ℕ → ℕ → ℕ
digit_from_right digits j =
    if nat_lt j (length digits) then digit_value (slice_index digits (length digits - 1 - j)) else 0

abbrev pub bit_from_right : List ℕ → ℕ → ℕ
bit_from_right digits j =
    if nat_lt j (length digits) && slice_index digits (length digits - 1 - j) == byte "1" then 1 else 0

-- four bits
abbrev pub bits_from_right : List ℕ → ℕ → ℕ
bits_from_right digits j =
    8 * bit_from_right digits (4 * j + 3) + 4 * bit_from_right digits (4 * j + 2)
    + 2 * bit_from_right digits (4 * j + 1) + bit_from_right digits (4 * j)

-- the sign of a packed decimal, D for a minus and else C, and left of it the digits
abbrev pub packed_from_right : List ℕ → ℕ → ℕ
packed_from_right field j =
    if j == 0 then (if slice_index field 0 == byte "-" then 13 else 12)
    else digit_from_right (without_sign field) (j - 1)

abbrev pub half_byte : ConstantKind → List ℕ → ℕ → ℕ
half_byte Binary value j = bits_from_right value j
half_byte Packed value j = packed_from_right value j
half_byte kind value j = digit_from_right value j

-- n bytes of two half bytes each, the highest first
abbrev pub half_bytes : ConstantKind → List ℕ → ℕ → List ℕ
half_bytes kind value zero = []
half_bytes kind value (suc r) =
    (half_byte kind value (r * 2 + 1) * 16 + half_byte kind value (r * 2)) ∷ half_bytes kind value r

-- ---- binary numbers
-- binary numbers have 1 to 4 bytes
abbrev pub is_binary_length : ℕ → Bool
is_binary_length n = nat_le 1 n && nat_le n 4

-- a number of n bytes, from the least signed one up to a bound
abbrev pub is_below : ℕ → ℤ → ℕ → Bool
is_below n number high = is_binary_length n && int_le (neg_ℤ (pos (2 ^ (8 * n - 1)))) number && int_lt number (pos high)

-- the lowest n bytes of a number in two's complement, the highest of them first
abbrev pub integer_bytes : ℕ → ℤ → List ℕ
integer_bytes n number = if is_binary_length n then big_bytes n (low_bytes w128 n number) else []

-- the number that a decimal writes; None beyond the bound of all numbers
abbrev pub bounded_decimal : List ℕ → Option ℤ
bounded_decimal value =
    option_map (λ n. if slice_index value 0 == byte "-" then neg_ℤ (pos n) else pos n)
    (at_most bound (number_in 10 (without_sign value)))

-- ---- one value: whether its text is whole, what is wrong with it in n bytes, and else its bytes
abbrev pub is_whole_text : Bool → List ℕ → Bool
is_whole_text modified body = is_doubled (byte "'") false body

abbrev pub bad_unless : (List ℕ → Bool) → List ℕ → ℕ → Option FaultKind
bad_unless is_good value n = if is_good value then None else Some BadOperand

abbrev pub integer_fault : List ℕ → ℕ → Option FaultKind
integer_fault value n =
    option_or (bad_unless is_decimal value n)
    (if option_map_or (λ number. is_below n number (2 ^ (8 * n - 1))) (bounded_decimal value) false then None
    else Some ValueOutOfRange)

abbrev pub decimal_bytes : List ℕ → ℕ → List ℕ
decimal_bytes value n = integer_bytes n (unwrap_or (bounded_decimal value) (pos 0))

-- characters are filled with blanks, or cut, on the right
abbrev pub character_bytes : List ℕ → ℕ → List ℕ
character_bytes value n = take n (map code (characters value) ++ replicate n 64)

-- ---- the table
-- The row of a type: its letter; the boundary that it is aligned to, which is the length without a value, too; the
-- greatest length modifier in DC and in DS, 0 where it takes none; how its value is written: one text in apostrophes,
-- several values in apostrophes with commas between, one expression in parentheses, or not at all; whether the value's
-- text is whole, by whether it has a modifier: without one the values of P are decimals, since they give the length;
-- the length that a value gives itself: the bytes that hold its characters, its half bytes, its bits, or its digits
-- with the sign, half a byte each, else that of its type; its fault in n bytes, and else its bytes.
pub record KindRow : Type 0 where
  pub letter : ℕ
  pub alignment : ℕ
  pub greatest_in_dc : ℕ
  pub greatest_in_ds : ℕ
  pub style : Style
  pub is_whole : Bool → List ℕ → Bool
  pub own_length : List ℕ → ℕ
  pub fault : List ℕ → ℕ → Option FaultKind
  pub bytes : List ℕ → ℕ → List ℕ

abbrev pub kind_row : ℕ → ℕ → ℕ → ℕ → Style → (Bool → List ℕ → Bool) → (List ℕ → ℕ)
    → (List ℕ → ℕ → Option FaultKind) → (List ℕ → ℕ → List ℕ) → KindRow
kind_row letter alignment in_dc in_ds style is_whole own_length fault bytes =
    record {
      letter = letter;
      alignment = alignment;
      greatest_in_dc = in_dc;
      greatest_in_ds = in_ds;
      style = style;
      is_whole = is_whole;
      own_length = own_length;
      fault = fault;
      bytes = bytes;
    }

abbrev pub row_of_kind : ConstantKind → KindRow
row_of_kind Character =
    kind_row (byte "C") 1 256 65535 Text (λ _. is_paired) (λ v. length (characters v))
    (bad_unless has_codes) character_bytes
row_of_kind Hexadecimal =
    kind_row (byte "X") 1 256 65535 Text is_whole_text (λ v. (length v + 1) / 2) (bad_unless (is_number 16))
    (half_bytes Hexadecimal)
row_of_kind Binary =
    kind_row (byte "B") 1 256 256 Text is_whole_text (λ v. (length v + 7) / 8) (bad_unless (is_number 2))
    (half_bytes Binary)
row_of_kind Fullword = kind_row (byte "F") 4 4 4 Values is_whole_text (λ v. 4) integer_fault decimal_bytes
row_of_kind Halfword = kind_row (byte "H") 2 4 4 Values is_whole_text (λ v. 2) integer_fault decimal_bytes
row_of_kind Packed =
    kind_row (byte "P") 1 16 16 Values
    (λ modified v. is_whole_text modified v && (modified || list_all is_decimal (fields v)))
    (λ v. length (without_sign v) / 2 + 1) (bad_unless is_decimal) (half_bytes Packed)
row_of_kind Address = kind_row (byte "A") 4 4 4 Expression (λ _ v. true) (λ v. 4) (λ v n. None) (λ v n. [])
row_of_kind External =
    kind_row (byte "V") 4 0 0 Expression (λ _ v. true) (λ v. 4) (bad_unless (λ v. bytes_eq v (codes "DFHEI1")))
    (λ v n. 0 ∷ 0 ∷ 8 ∷ 0 ∷ [])
row_of_kind Doubleword = kind_row (byte "D") 8 0 0 Nothing is_whole_text (λ v. 8) (λ v n. None) (λ v n. [])

-- every type
abbrev pub kinds : List ConstantKind
kinds = Character ∷ Hexadecimal ∷ Binary ∷ Fullword ∷ Halfword ∷ Packed ∷ Address ∷ External ∷ Doubleword ∷ []

-- the type that a letter stands for
unfoldable pub kind_of : ℕ → Option ConstantKind
kind_of letter = find (λ kind. (row_of_kind kind).letter == letter) kinds
