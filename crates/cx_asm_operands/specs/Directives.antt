-- The operands of USING, DROP, END and COPY (GC33-4010, under these names).
use Rattle.std.specs.Prelude.{ℕ, ℤ, ◌==◌, Bool, true, false, if◌then◌else◌, Option, Some, None, option_map, Result, Ok, Err, List, [], ◌∷◌, length, codes}
use Rattle.std.specs.Option.{ok_or, option_map_or}
use Rattle.std.specs.Str.{bytes_eq}
use Rattle.cx_asm_expressions.specs.Weights.{stands_in}
use Rattle.cx_asm_expressions.specs.declared.values.Value.{Value}
use Rattle.cx_asm_expressions.specs.declared.faults.FaultKind.{FaultKind}
use Rattle.cx_asm_expressions.specs.declared.faults.FaultKind.TheVariants.{BadOperand, ValueOutOfRange, NotRelocatable}
use Rattle.cx_asm_operations.specs.declared.operations.Operation.{Operation}
use Rattle.cx_asm_operations.specs.declared.operations.Operation.TheVariants as operation
use Rattle.cx_asm_operations.specs.declared.operations.Directive.TheVariants as directive
use Rattle.cx_asm_operands.specs.Checking.{both_or_lower_fault, then_check, with_made}
use Rattle.cx_asm_operands.specs.Bases.{Bases, UsingStatement, using_with, after_using, after_drop}
use Rattle.cx_asm_operands.specs.Addresses.{number_within}
use Rattle.cx_asm_operands.specs.Context.{Context, expression_value, register_in}
use Rattle.cx_asm_operands.specs.Forms.{operands_of}

-- ---- registers
-- the registers that operands name, or their lowest fault
abbrev pub registers_in : Context → List (List ℕ) → Result (List ℕ) FaultKind
registers_in c [] = Ok []
registers_in c (text ∷ texts) =
    with_made (λ v. v.0 ∷ v.1) (both_or_lower_fault (register_in c text) (registers_in c texts))

-- ---- USING: a place and a register or more
-- the base is a place in a section
abbrev pub place_in : Value → Result (List ℕ × ℤ) FaultKind
place_in value = ok_or (option_map (λ section. (section, value.number)) value.section) NotRelocatable

abbrev pub using_in : Context → List (List ℕ) → Result UsingStatement FaultKind
using_in c (base ∷ register ∷ registers) =
    with_made (λ v. using_with v.0.0 v.0.1 v.1)
    (both_or_lower_fault (then_check place_in (expression_value c base)) (registers_in c (register ∷ registers)))
using_in c operands = Err BadOperand

-- ---- DROP: registers, or nothing
unfoldable pub drop_in : Context → List ℕ → Result (Option (List ℕ)) FaultKind
drop_in c operand = if length operand == 0 then Ok None else with_made Some (registers_in c (operands_of operand))

-- ---- The bases in use after a statement with this operation and operand, where those of the context are in use before
-- it, or the lowest fault of a USING or a DROP. No other statement changes them.
unfoldable pub bases_in : Operation → Context → List ℕ → Result Bases FaultKind
bases_in (operation.Directive directive.Using) c operand =
    with_made (λ given. after_using given.section given.number given.registers c.bases)
    (using_in c (operands_of operand))
bases_in (operation.Directive directive.Drop) c operand =
    with_made (λ registers. after_drop registers c.bases) (drop_in c operand)
bases_in operation c operand = Ok c.bases

abbrev pub changes_bases : Operation → Bool
changes_bases (operation.Directive directive.Using) = true
changes_bases (operation.Directive directive.Drop) = true
changes_bases operation = false

-- ---- END: the entry, an offset in the control section, its start where no operand is written
abbrev pub end_entry : Option (List ℕ) → Value → Result ℕ FaultKind
end_entry control value =
    let is_inside = option_map_or (λ section. stands_in section control) value.section false in
    if is_inside then ok_or (number_within 65535 value.number) ValueOutOfRange else Err NotRelocatable

unfoldable pub entry_in : Option (List ℕ) → Context → List ℕ → Result ℕ FaultKind
entry_in control c operand =
    if length operand == 0 then Ok 0 else then_check (end_entry control) (expression_value c operand)

-- ---- COPY: of the member DFHAID alone (own)
abbrev pub copy_fault : List ℕ → Option FaultKind
copy_fault operand = if bytes_eq operand (codes "DFHAID") then None else Some BadOperand
