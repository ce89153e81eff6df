-- What a statement gives to symbols (GC33-4010, "Symbols", "EQU -- Equate Symbol", "CSECT", "DSECT"; DFHREGS and the
-- member DFHAID are this product's own).
use Rattle.std.specs.Prelude.{ℕ, ℤ, pos, neg_ℤ, int_le, ◌&&◌, not, Bool, false, if◌then◌else◌, codes, Option, Some, None, option_map, Result, Ok, Err, List, [], ◌∷◌, ◌++◌, map, is_some}
use Rattle.std.specs.List.{filter_map, list_any}
use Rattle.std.specs.Option.{option_map_or}
use Rattle.std.specs.Str.{bytes_eq}
use Rattle.cx_ebcdic.specs.Aids.{key_of}
use Rattle.cx_ebcdic.specs.declared.aids.Aid.TheVariants.{Enter, Clear, Pa1, Pa2, Pf1, Pf2, Pf3, Pf4, Pf5, Pf6, Pf7, Pf8, Pf9, Pf10, Pf11, Pf12}
use Rattle.cx_asm_expressions.specs.Expressions.{value_of}
use Rattle.cx_asm_expressions.specs.Names.{symbol_name}
use Rattle.cx_asm_expressions.specs.Symbols.{Symbols, absolute}
use Rattle.cx_asm_expressions.specs.Weights.{stands_in}
use Rattle.cx_asm_expressions.specs.declared.faults.FaultKind.{FaultKind}
use Rattle.cx_asm_expressions.specs.declared.faults.FaultKind.TheVariants.{DuplicateSymbol, ValueOutOfRange}
use Rattle.cx_asm_expressions.specs.declared.values.Value.{Value}
use Rattle.cx_asm_pools.specs.Pools.{cap}
use Rattle.cx_asm_pass1.specs.declared.layout.Extent.{Extent}
use Rattle.cx_asm_pass1.specs.declared.roles.Role.{Role}
use Rattle.cx_asm_pass1.specs.declared.roles.Role.TheVariants.{Control, Dummy, Equate, Registers, Member, Nothing}

-- a place in a section, with a length attribute
abbrev pub place_value : Option (List ℕ) → ℕ → ℕ → Value
place_value section offset length = record { section = section; number = pos (cap offset); length = length }

-- where the location counter is: nowhere before the first section
abbrev pub location_counter : Option (List ℕ) → ℕ → ℕ → Option Value
location_counter section offset length = option_map (λ name. place_value (Some name) offset length) section

-- A value of EQU is from -2^31 to 2^32-1 (own).
abbrev pub is_in_range : ℤ → Bool
is_in_range number = int_le (neg_ℤ (pos 2147483648)) number && int_le number (pos 4294967295)

abbrev pub value_in_range : Result Value FaultKind → Result (Option Value) FaultKind
value_in_range (Ok value) = if is_in_range value.number then Ok (Some value) else Err ValueOutOfRange
value_in_range (Err fault) = Err fault

-- The value that a statement gives to its name, if it gives one. `find` knows the symbols of the statements before.
abbrev pub value_given : Role → Option (List ℕ) → (List ℕ → Option Value) → Option (List ℕ) → List ℕ → Extent
    → Result (Option Value) FaultKind
value_given Control name find section operand extent = Ok (Some (place_value name 0 1))
value_given Dummy name find section operand extent = Ok (Some (place_value name 0 1))
value_given Equate name find section operand extent =
    value_in_range (value_of find (location_counter section extent.offset 1) operand)
value_given Registers name find section operand extent = Ok None
value_given Member name find section operand extent = Ok None
value_given Nothing name find section operand extent = Ok None
value_given _ name find section operand extent = Ok (Some (place_value section extent.offset extent.length))

-- ---- symbols that are defined together
-- a name and a number
abbrev pub row_symbols : List (List ℕ × ℕ) → Symbols
row_symbols rows =
    filter_map (λ (row : List ℕ × ℕ). option_map (λ name. (name, absolute (pos row.1))) (symbol_name row.0)) rows

-- the registers, which DFHREGS defines
abbrev pub register_rows : List (List ℕ × ℕ)
register_rows =
    (codes "R0", 0) ∷ (codes "R1", 1) ∷ (codes "R2", 2) ∷ (codes "R3", 3) ∷ (codes "R4", 4) ∷ (codes "R5", 5)
    ∷ (codes "R6", 6) ∷ (codes "R7", 7) ∷ (codes "R8", 8) ∷ (codes "R9", 9) ∷ (codes "R10", 10) ∷ (codes "R11", 11)
    ∷ (codes "R12", 12) ∷ (codes "R13", 13) ∷ (codes "R14", 14) ∷ (codes "R15", 15) ∷ []

-- the attention identifiers, which the member DFHAID defines
abbrev pub aid_rows : List (List ℕ × ℕ)
aid_rows =
    map (λ aid. (codes "DFH" ++ (key_of aid).name, (key_of aid).code))
    (Enter ∷ Clear ∷ Pa1 ∷ Pa2 ∷ Pf1 ∷ Pf2 ∷ Pf3 ∷ Pf4 ∷ Pf5 ∷ Pf6 ∷ Pf7 ∷ Pf8 ∷ Pf9 ∷ Pf10 ∷ Pf11 ∷ Pf12 ∷ [])

-- ---- all that a statement defines
-- CSECT and START resume the control section, and DSECT a dummy section, where the name is that section's already:
-- nothing is defined.
abbrev pub resumes : Role → List ℕ → Option (List ℕ) → (List ℕ → Option Value) → Bool
resumes Control name control find = stands_in name control
resumes Dummy name control find =
    option_map_or (λ v. stands_in name v.section) (find name) false && not (stands_in name control)
resumes _ name control find = false

abbrev pub symbol_entry : Role → Option (List ℕ) → Option (List ℕ) → (List ℕ → Option Value) → Option Value → Symbols
symbol_entry role (Some name) control find (Some value) =
    if resumes role name control find then [] else (name, value) ∷ []
symbol_entry role _ control find _ = []

abbrev pub definitions : Role → Option (List ℕ) → Option (List ℕ) → (List ℕ → Option Value) → List ℕ → Option Value
    → Symbols
definitions Registers name control find operand value = row_symbols register_rows
definitions Member name control find operand value =
    if bytes_eq operand (codes "DFHAID") then row_symbols aid_rows else []
definitions role name control find operand value = symbol_entry role name control find value

-- A symbol keeps the value that it was given first; to define it again is a fault.
abbrev pub is_any_known : (List ℕ → Option Value) → Symbols → Bool
is_any_known find symbols = list_any (λ symbol. is_some (find symbol.0)) symbols

abbrev pub duplicate : (List ℕ → Option Value) → Symbols → Option FaultKind
duplicate find symbols = if is_any_known find symbols then Some DuplicateSymbol else None
