-- That each operand is addressed by its own expression.
use Rattle.std.specs.Prelude.{◌≡◌, ℕ, Ok, List}
use Rattle.cx_asm_operands.specs.Context.{Context}
use Rattle.cx_asm_operands.specs.Storage.{indexed_in}
use Rattle.cx_asm_operands.specs.declared.addresses.Address.{Address}
use Rattle.cx_asm_execution.specs.Arguments.{IsAddressed, Sections}

abbrev pub OperandsAddress : Type 0
OperandsAddress = (sections : Sections) (regs : List ℕ) (c : Context) (text : List ℕ) (x : ℕ) (address : Address)
    → indexed_in c text ≡ Ok (x, address) → IsAddressed sections regs c text x address
