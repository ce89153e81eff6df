-- The bytes of a constant (GC33-4010, "DC -- Define Constant").
use Rattle.std.specs.Prelude.{ℕ, ℤ, ◌*◌, ◌^◌, Bool, true, false, ◌&&◌, ◌==◌, if◌then◌else◌, Option, Some, None, Result, Ok, Err, List, [], map}
use Rattle.std.specs.List.{flat_map}
use Rattle.std.specs.Option.{option_map_or}
use Rattle.cx_asm_expressions.specs.Faults.{lowest}
use Rattle.cx_asm_expressions.specs.Weights.{stands_in}
use Rattle.cx_asm_expressions.specs.Expressions.{value_of}
use Rattle.cx_asm_expressions.specs.Kinds.{integer_bytes, is_below, row_of_kind}
use Rattle.cx_asm_expressions.specs.Items.{Constant, values_in, value_length}
use Rattle.cx_asm_expressions.specs.declared.values.Value.{Value}
use Rattle.cx_asm_expressions.specs.declared.kinds.ConstantKind.{ConstantKind}
use Rattle.cx_asm_expressions.specs.declared.kinds.ConstantKind.TheVariants.{Address}
use Rattle.cx_asm_expressions.specs.declared.faults.FaultKind.{FaultKind}
use Rattle.cx_asm_expressions.specs.declared.faults.FaultKind.TheVariants.{ValueOutOfRange, NotRelocatable}

-- What one copy of a constant is: its bytes, and whether they are a word to which the load address is added.
pub record CopyOfConstant : Type 0 where
  pub bytes : List ℕ
  pub is_relocated : Bool

abbrev pub copy_of_constant : List ℕ → Bool → CopyOfConstant
copy_of_constant bytes is_relocated = record { bytes = bytes; is_relocated = is_relocated }

-- ---- all values of a constant that is no address
-- the lowest fault of all values, or their bytes, one after the other
abbrev pub plain_made : ConstantKind → Option ℕ → List ℕ → Result CopyOfConstant FaultKind
plain_made kind modifier body =
    let values = values_in (row_of_kind kind).style body in
    let faults = map (λ value. (row_of_kind kind).fault value (value_length kind modifier value)) values in
    let bytes = flat_map (λ value. (row_of_kind kind).bytes value (value_length kind modifier value)) values in
    option_map_or Err (lowest faults) (Ok (copy_of_constant bytes false))

-- ---- an address of n bytes
-- An absolute one is its number. A place must be of the control section and have 4 bytes, which hold its offset; the
-- load address is added to it.
abbrev pub address_constant : ℕ → Option (List ℕ) → Option (List ℕ) → ℤ → Result CopyOfConstant FaultKind
address_constant n control None number =
    if is_below n number (2 ^ (8 * n)) then Ok (copy_of_constant (integer_bytes n number) false)
    else Err ValueOutOfRange
address_constant n control (Some section) number =
    if n == 4 && stands_in section control then Ok (copy_of_constant (integer_bytes 4 number) true)
    else Err NotRelocatable

abbrev pub address_made : ℕ → Option (List ℕ) → Result Value FaultKind → Result CopyOfConstant FaultKind
address_made n control (Ok value) = address_constant n control value.section value.number
address_made n control (Err fault) = Err fault

-- ---- a constant
abbrev pub body_made : (List ℕ → Option Value) → Option Value → Option (List ℕ) → ConstantKind → Option ℕ
    → Option (List ℕ) → Result CopyOfConstant FaultKind
body_made find here control kind modifier None = Ok (copy_of_constant [] false)
body_made find here control Address modifier (Some body) =
    address_made (value_length Address modifier body) control (value_of find here body)
body_made find here control kind modifier (Some body) = plain_made kind modifier body

-- One copy of a constant, where `find` knows the symbols, `here` is where the location counter is and `control` is the
-- control section; or the lowest fault of its values.
unfoldable pub constant_copy : (List ℕ → Option Value) → Option Value → Option (List ℕ) → Constant
    → Result CopyOfConstant FaultKind
constant_copy find here control item = body_made find here control item.kind item.modifier item.value
