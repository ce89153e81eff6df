-- The loads of pointers after a call.
use Rattle.std.specs.Prelude.{◌≡◌, ℕ, ◌+◌, Ok, List, [], ◌∷◌, ◌++◌, codes, map, reverse}
use Rattle.cx_asm_execution.specs.Stands.{code_length}
use Rattle.cx_code.specs.declared.table.Op.TheVariants as op
use Rattle.cx_code.specs.Spelling.{Instruction}
use Rattle.cx_base.specs.declared.commands.Command.{Command}
use Rattle.cx_base.specs.Commands.{row_of}
use Rattle.cx_source.specs.declared.source.Item.{Item}
use Rattle.cx_source.specs.declared.source.Source.{Source}
use Rattle.cx_source.specs.declared.source.Stmt.{Stmt}
use Rattle.cx_translate.specs.declared.words.Word.{Word}
use Rattle.cx_translate.specs.Call.{pointers_of}
use Rattle.cx_translate.specs.Expansion.{load, made_item}
use Rattle.cx_translate.specs.Sections.{lines}
use Rattle.cx_asm_operands.specs.Bases.{Bases}
use Rattle.cx_asm_operands.specs.Context.{Context, register_in}
use Rattle.cx_asm_operands.specs.Forms.{operands_of}
use Rattle.cx_asm_pass2.specs.Whole.{Whole, whole_of}
use Rattle.cx_asm.specs.Assembly.{AssemblyParts}
use Rattle.cx_asm_execution.proofs.Called.{call_statements}
use Rattle.cx_asm_execution.proofs.Commands.{AreMade}
use Rattle.cx_asm_execution.proofs.Resolved.{AreResolved, IsResolved, StandInCode, bases_in_use}
use Rattle.cx_asm_execution.proofs.Stores.{HasOperand, context_of}

-- one for each pointer, in the order of the command's options
abbrev pub pointer_loads : Command → List Word → List Stmt
pointer_loads command words = map load (pointers_of (row_of command).options words)

-- The instructions made of a command after some lines of a source: the call, and right after it the loads of the
-- pointers.
pub record LoadsPointers (source : Source) (assembly : AssemblyParts) (line : ℕ) (first : List Item) (command : Command) (words : List Word) : Type 0 where
  pub code : StandInCode source first (lines line (call_statements command words) ++ lines line (pointer_loads command words)) assembly.section.resolved
  pub calls : List Instruction
  pub loads : List Instruction
  pub split : code.code ≡ calls ++ loads
  pub here : AreResolved (whole_of source) (bases_in_use source first) (reverse first) code.at (lines line (call_statements command words)) calls
  pub called : AreMade (whole_of source) (bases_in_use source first) line (reverse first) command words calls
  pub loaded : AreResolved (whole_of source) (bases_in_use source first) (reverse (lines line (call_statements command words)) ++ reverse first)
      (code.at + code_length calls) (lines line (pointer_loads command words)) loads

-- a load, as the assembler resolves it: L of the register that the pointer's operand is, with index, base and
-- displacement of DFHEITP
pub record IsPointerLoad (c : Context) (register : List ℕ) (made : Instruction) : Type 0 where
  pub number : ℕ
  pub named : register_in c register ≡ Ok number
  pub takes : HasOperand op.L number c (codes "DFHEITP") made

-- So is each load whose register is an operand by itself.
abbrev pub LoadsAreResolved : Type 0
LoadsAreResolved = (whole : Whole) (bases : Bases) (line at : ℕ) (before : List Item) (register : List ℕ) (made : Instruction)
    → operands_of (register ++ codes ",DFHEITP") ≡ register ∷ codes "DFHEITP" ∷ [] → IsResolved whole bases before at (made_item line (load register)) made
    → IsPointerLoad (context_of whole bases line before (load register)) register made
