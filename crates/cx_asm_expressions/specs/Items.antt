-- One item of a DC, a DS or a literal (GC33-4010, "DC -- Define Constant"): duplication factor, type, length modifier,
-- nominal value.
use Rattle.std.specs.Prelude.{ℕ, ◌+◌, ◌*◌, Bool, not, ◌&&◌, ◌==◌, if◌then◌else◌, Option, Some, None, Result, Ok, Err, List, [], ◌∷◌, length, take, drop, slice_index, option_map, option_and_then, is_some, unwrap_or, sum_by}
use Rattle.std.specs.List.{prefix_len, take_while}
use Rattle.std.specs.Option.{option_map_or}
use Rattle.std.specs.Str.{byte}
use Rattle.cx_source.specs.Marks.{first_mark}
use Rattle.cx_source.specs.declared.marks.Delimiter.TheVariants.{Closing}
use Rattle.cx_asm_expressions.specs.Digits.{at_most, is_digit, number_in}
use Rattle.cx_asm_expressions.specs.Texts.{before_apostrophe}
use Rattle.cx_asm_expressions.specs.TermValues.{greatest}
use Rattle.cx_asm_expressions.specs.Kinds.{kind_of, row_of_kind}
use Rattle.cx_asm_expressions.specs.Fields.{fields}
use Rattle.cx_asm_expressions.specs.declared.kinds.ConstantKind.{ConstantKind}
use Rattle.cx_asm_expressions.specs.declared.kinds.Style.{Style}
use Rattle.cx_asm_expressions.specs.declared.kinds.Style.TheVariants.{Values, Expression, Nothing}
use Rattle.cx_asm_expressions.specs.declared.faults.FaultKind.{FaultKind}
use Rattle.cx_asm_expressions.specs.declared.faults.FaultKind.TheVariants.{BadOperand, ValueOutOfRange}

-- A constant: its duplication factor, type, length modifier and value.
pub record Constant : Type 0 where
  pub duplication : ℕ
  pub kind : ConstantKind
  pub modifier : Option ℕ
  pub value : Option (List ℕ)

abbrev pub constant : ℕ → ConstantKind → Option ℕ → Option (List ℕ) → Constant
constant duplication kind modifier value =
    record { duplication = duplication; kind = kind; modifier = modifier; value = value }

-- ---- reading an item
-- what follows the digits that a text begins with
abbrev pub after_digits : List ℕ → List ℕ
after_digits text = drop (prefix_len (is_digit 10) text) text

-- what is in one pair of parentheses: the one that closes the first character is the last
abbrev pub parenthesized_body : List ℕ → Option (List ℕ)
parenthesized_body value =
    let after = drop 1 value in
    if slice_index value 0 == byte "(" && first_mark Closing after + 1 == length after
    then Some (take (first_mark Closing after) after) else None

abbrev pub body_in : Style → List ℕ → Option (List ℕ)
body_in Expression value = parenthesized_body value
body_in Nothing value = None
body_in style value = if slice_index value 0 == byte "'" then before_apostrophe (drop 1 value) else None

-- An item's value, which isn't empty; a DS may leave it out. None where it is no value.
abbrev pub value_in : Bool → ConstantKind → Bool → List ℕ → Option (Option (List ℕ))
value_in is_ds kind modified value =
    if length value == 0 then (if is_ds then Some None else None)
    else option_and_then
    (λ body. if not (length body == 0) && (row_of_kind kind).is_whole modified body then Some (Some body) else None)
    (body_in (row_of_kind kind).style value)

-- ---- the limits
abbrev pub duplication_in : List ℕ → Option ℕ
duplication_in digits = if length digits == 0 then Some 1 else at_most greatest (number_in 10 digits)

-- a length modifier within its limits; Some None where there is none
abbrev pub modifier_in : Bool → ConstantKind → Option (List ℕ) → Option (Option ℕ)
modifier_in is_ds kind None = Some None
modifier_in is_ds kind (Some digits) =
    let most = if is_ds then (row_of_kind kind).greatest_in_ds else (row_of_kind kind).greatest_in_dc in
    option_map Some
    (option_and_then (λ number. if number == 0 then None else Some number) (at_most most (number_in 10 digits)))

abbrev pub constant_or_fault : Option ℕ → Option (Option ℕ) → ConstantKind → Option (List ℕ) → Result Constant FaultKind
constant_or_fault (Some duplication) (Some modifier) kind value = Ok (constant duplication kind modifier value)
constant_or_fault duplication modifier kind value = Err ValueOutOfRange

-- ---- an item, by the digits of its duplication factor and of its length modifier
abbrev pub with_value : Bool → List ℕ → ConstantKind → Option (List ℕ) → List ℕ → Result Constant FaultKind
with_value is_ds duplication kind modifier value =
    option_map_or (constant_or_fault (duplication_in duplication) (modifier_in is_ds kind modifier) kind)
    (value_in is_ds kind (is_some modifier) value) (Err BadOperand)

-- L and at least one digit are a length modifier, where the type takes one.
abbrev pub with_modifier : Bool → List ℕ → ConstantKind → List ℕ → Result Constant FaultKind
with_modifier is_ds duplication kind rest =
    if slice_index rest 0 == byte "L" then
    (let digits = take_while (is_digit 10) (drop 1 rest) in
    if not ((row_of_kind kind).greatest_in_dc == 0) && not (length digits == 0)
    then with_value is_ds duplication kind (Some digits) (after_digits (drop 1 rest)) else Err BadOperand)
    else with_value is_ds duplication kind None rest

-- The constant that an item of a DS, or of a DC or a literal, is. What is no item is BadOperand, a duplication factor
-- above 4,294,967,295 and a length modifier outside its limits ValueOutOfRange.
unfoldable pub constant_in : Bool → List ℕ → Result Constant FaultKind
constant_in is_ds text =
    let rest = after_digits text in
    option_map_or (λ kind. with_modifier is_ds (take_while (is_digit 10) text) kind (drop 1 rest))
    (kind_of (slice_index rest 0))
    (Err BadOperand)

-- ---- alignment and length
-- A length modifier takes the alignment away.
abbrev pub alignment_of : Constant → ℕ
alignment_of item = if is_some item.modifier then 1 else (row_of_kind item.kind).alignment

-- the values of a constant: several only in F, H and P
abbrev pub values_in : Style → List ℕ → List (List ℕ)
values_in Values body = fields body
values_in style body = body ∷ []

-- the length of one value: the modifier, or its own
abbrev pub value_length : ConstantKind → Option ℕ → List ℕ → ℕ
value_length kind modifier value = unwrap_or modifier ((row_of_kind kind).own_length value)

-- the length of one copy: of all its values, without duplication
unfoldable pub length_of : Constant → ℕ
length_of item =
    option_map_or (λ body. sum_by (value_length item.kind item.modifier) (values_in (row_of_kind item.kind).style body))
    item.value (unwrap_or item.modifier (row_of_kind item.kind).alignment)

-- the length of all copies
abbrev pub size_of : Constant → ℕ
size_of item = item.duplication * length_of item
