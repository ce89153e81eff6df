-- What an operand is read by, and operands that are numbers: registers, masks, immediate bytes, lengths (GC33-4010,
-- "Operand Fields and Subfields").
use Rattle.std.specs.Prelude.{ℕ, if◌then◌else◌, Option, is_some, Result, Err, List}
use Rattle.std.specs.Option.{ok_or}
use Rattle.cx_asm_expressions.specs.Symbols.{find_in}
use Rattle.cx_asm_expressions.specs.Expressions.{value_of}
use Rattle.cx_asm_expressions.specs.declared.values.Value.{Value}
use Rattle.cx_asm_expressions.specs.declared.faults.FaultKind.{FaultKind}
use Rattle.cx_asm_expressions.specs.declared.faults.FaultKind.TheVariants.{BadOperand, ValueOutOfRange}
use Rattle.cx_asm_operands.specs.Checking.{then_check}
use Rattle.cx_asm_operands.specs.Bases.{Bases}
use Rattle.cx_asm_operands.specs.Addresses.{number_within}
use Rattle.cx_asm_operands.specs.declared.context.Context.{Context as ProductContext}

-- What a statement's operands are read by: each symbol's value, where the location counter is, the bases in use,
-- and the place of the statement's literal, if it has one.
pub record Context : Type 0 where
  pub find : List ℕ → Option Value
  pub here : Option Value
  pub bases : Bases
  pub literal : Option Value

abbrev pub context : (List ℕ → Option Value) → Option Value → Bases → Option Value → Context
context find here bases literal = record { find = find; here = here; bases = bases; literal = literal }

-- what is known by the product's own, with its table of symbols
abbrev pub lookup_context : ProductContext → Context
lookup_context c = context (find_in c.symbols.now) c.here c.bases.now c.literal

-- the value of an expression
abbrev pub expression_value : Context → List ℕ → Result Value FaultKind
expression_value c text = value_of c.find c.here text

-- A number is absolute, and 0 to `most`.
abbrev pub number_at_most : ℕ → Value → Result ℕ FaultKind
number_at_most most value =
    if is_some value.section then Err BadOperand else ok_or (number_within most value.number) ValueOutOfRange

-- the number, 0 to `most`, that an operand is
unfoldable pub operand_number : ℕ → Context → List ℕ → Result ℕ FaultKind
operand_number most c text = then_check (number_at_most most) (expression_value c text)

-- a register, or a mask
abbrev pub register_in : Context → List ℕ → Result ℕ FaultKind
register_in c text = operand_number 15 c text
