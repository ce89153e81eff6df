-- Lines whose statements are instructions, resolved one after the other.
use Rattle.std.specs.Prelude.{◌≡◌, ℕ, ◌+◌, true, false, Bool, Ok, Option, Some, None, List, [], ◌∷◌, ◌++◌, fold, reverse}
use Rattle.std.specs.List.{AllByRecursion}
use Rattle.cx_code.specs.declared.disassembly.Line.{Line}
use Rattle.cx_code.specs.Spelling.{Instruction}
use Rattle.cx_code.specs.Table.{length_of}
use Rattle.cx_source.specs.declared.source.Item.{Item}
use Rattle.cx_source.specs.declared.source.Source.{Source}
use Rattle.cx_source.specs.declared.source.Stmt.{Stmt}
use Rattle.cx_asm_operations.specs.Operations.{operation_named}
use Rattle.cx_asm_operations.specs.declared.operations.Operation.{Operation}
use Rattle.cx_asm_pass1.specs.PassState.{state_after, place_in, role_in}
use Rattle.cx_asm_pass1.specs.declared.roles.Role.{Role}
use Rattle.cx_asm_pass1.specs.declared.roles.Role.TheVariants as role
use Rattle.cx_asm_operands.specs.Bases.{Bases, none_in_use}
use Rattle.cx_asm_operands.specs.Forms.{instruction_or_fault}
use Rattle.cx_asm_pass2.specs.Statements.{PlacedStatement, placed_statement, statements_of}
use Rattle.cx_asm_pass2.specs.Whole.{Whole, instruction_context, whole_of}
use Rattle.cx_asm_pass2.specs.SecondFaults.{bases_after}
use Rattle.cx_asm.specs.Assembly.{AssemblyParts, assembly_of}
use Rattle.cx_asm_execution.specs.MadeLines.{code_lines}

-- an instruction's statement begins on a line
abbrev pub is_instruction_role : Role → Bool
is_instruction_role (role.Instruction size) = true
is_instruction_role _ = false

abbrev pub is_instruction : Option Stmt → Bool
is_instruction None = false
is_instruction (Some stmt) = is_instruction_role (role_in stmt)

-- the bases in use after statements, and after the first lines of a source
abbrev pub bases_from : Whole → Bases → List PlacedStatement → Bases
bases_from whole bases statements = fold (bases_after whole) bases statements

abbrev pub bases_in_use : Source → List Item → Bases
bases_in_use source first = bases_from (whole_of source) none_in_use (statements_of (record { items = first }))

-- The statement of a line, which is at an offset, is resolved to an instruction by these bases.
pub record IsResolved (whole : Whole) (bases : Bases) (before : List Item) (at : ℕ) (item : Item) (instruction : Instruction) : Type 0 where
  pub statement : Stmt
  pub begins : item.stmt ≡ Some statement
  pub place : (place_in statement (state_after before)).offset ≡ at
  pub operation : Operation
  pub named : operation_named statement.operation ≡ Some operation
  pub resolves : instruction_or_fault operation (instruction_context whole bases (placed_statement item.line statement (place_in statement (state_after before)))) statement.operand
      ≡ Ok instruction

-- So are the statements of lines, each right after the one before it.
unfoldable pub AreResolved : Whole → Bases → List Item → ℕ → List Item → List Instruction → Type 0
AreResolved whole bases before at [] [] = Unit {0}
AreResolved whole bases before at [] (i ∷ code) = ⊥
AreResolved whole bases before at (item ∷ items) [] = ⊥
AreResolved whole bases before at (item ∷ items) (i ∷ code) =
    IsResolved whole bases before at item i × AreResolved whole bases (item ∷ before) (at + length_of i.op) items code

-- Lines of a source after its first ones: their statements' instructions are resolved lines one right after the other.
pub record StandInCode (source : Source) (first items : List Item) (lines : List Line) : Type 0 where
  pub at : ℕ
  pub code : List Instruction
  pub resolved : AreResolved (whole_of source) (bases_in_use source first) (reverse first) at items code
  pub front : List Line
  pub back : List Line
  pub stand : lines ≡ front ++ code_lines at code ++ back

-- In an accepted source this holds of all lines with nothing but instructions on them.
abbrev pub InstructionsStand : Type 0
InstructionsStand = (source : Source) (assembly : AssemblyParts) (first items after : List Item) → assembly_of source ≡ Ok assembly
    → source.items ≡ first ++ items ++ after → AllByRecursion (λ item. is_instruction item.stmt ≡ true) items
    → StandInCode source first items assembly.section.resolved
