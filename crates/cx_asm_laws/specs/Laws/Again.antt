-- The lines of a disassembly as statements, that they are read back, and that they are assembled to the same text
-- (GC33-4010, "Machine Instructions", "DC -- Define Constant", "DS -- Define Storage"; that they are is this product's
-- own).
use Rattle.std.specs.Prelude.{◌≡◌, ◌≢◌, ℕ, ◌-◌, ◌<◌, ◌≤◌, ◌==◌, if◌then◌else◌, true, false, Option, Some, None, Ok, List, [], ◌∷◌, ◌++◌, codes, decimal, length, map}
use Rattle.std.specs.List.{AllByRecursion, filter_map}
use Rattle.cx_code.specs.Lines.{lines}
use Rattle.cx_code.specs.declared.disassembly.Line.{Line}
use Rattle.cx_source.specs.declared.source.Source.{Source}
use Rattle.cx_asm_expressions.specs.Names.{symbol_name}
use Rattle.cx_asm_image.specs.Resolved.{offset_after}
use Rattle.cx_asm.specs.Assembly.{AssemblyParts, assembly_of}
use Rattle.cx_code.specs.declared.disassembly.LineContent.{LineContent}
use Rattle.cx_code.specs.declared.disassembly.LineContent.TheVariants.{Code, Data, Space}
use Rattle.cx_code.specs.Spelling.{Instruction, IsWellFormed}
use Rattle.cx_code.specs.Table.{is_shift, mnemonic_of}
use Rattle.cx_code.specs.Text.{hex_text, operands, what_text}
use Rattle.cx_source.specs.declared.source.Stmt.{Stmt}
use Rattle.cx_asm_expressions.specs.Bytes.{copy_of_constant}
use Rattle.cx_asm_expressions.specs.Items.{constant, constant_in}
use Rattle.cx_asm_expressions.specs.declared.kinds.ConstantKind.TheVariants.{Hexadecimal}
use Rattle.cx_asm_expressions.specs.declared.values.Value.{Value}
use Rattle.cx_asm_operations.specs.Operations.{operation_named}
use Rattle.cx_asm_operations.specs.declared.operations.Operation.TheVariants.{Machine}
use Rattle.cx_asm_operands.specs.Context.{Context}
use Rattle.cx_asm_operands.specs.Forms.{instruction_or_fault}
use Rattle.cx_asm_pass2.specs.Whole.{Whole, item_made}

-- ---- what is at a place as a statement without a name: the operation and the operand that its line writes
abbrev pub statement : List ℕ → List ℕ → List ℕ → Stmt
statement name operation operand = record { name = name; operation = operation; operand = operand }

unfoldable pub statement_of : LineContent → Stmt
statement_of (Code i) = statement [] (mnemonic_of i.op) (operands (is_shift i.op) i.fields)
statement_of (Data bytes) = statement [] (codes "DC") (codes "X'" ++ hex_text bytes ++ codes "'")
statement_of (Space n) = statement [] (codes "DS") (codes "XL" ++ decimal n)

-- a line is an operation and an operand with a blank between them
abbrev pub LinesAreStatements : Type 0
LinesAreStatements =
    (what : LineContent) → what_text what ≡ (statement_of what).operation ++ codes " " ++ (statement_of what).operand

-- ---- a well-formed instruction is read back, whatever symbols and bases its operand is read by
-- a well-formed instruction is read back as itself, by whatever symbols and bases
abbrev pub InstructionsAreReadBack : Type 0
InstructionsAreReadBack = (i : Instruction) (c : Context) → IsWellFormed i
    → (operation_named (statement_of (Code i)).operation ≡ Some (Machine i.op))
    × (instruction_or_fault (Machine i.op) c (statement_of (Code i)).operand ≡ Ok i)

-- Bytes are read back as the value of a constant without duplication, wherever it is; a space of at most 65,535 bytes
-- as one without a value.
abbrev pub BytesAreReadBack : Type 0
BytesAreReadBack = (bytes : List ℕ) (whole : Whole) (counter : Option Value) → AllByRecursion (λ byte. byte < 256) bytes
    → 0 < length bytes
    → (constant_in false (statement_of (Data bytes)).operand ≡ Ok (constant 1 Hexadecimal None (Some (hex_text bytes))))
    × (item_made whole false counter (statement_of (Data bytes)).operand ≡ Ok (copy_of_constant bytes false))

-- a space of 1 to 65,535 bytes is read back as one of its length
abbrev pub SpacesAreReadBack : Type 0
SpacesAreReadBack = (n : ℕ) → 1 ≤ n → n ≤ 65535
    → constant_in true (statement_of (Space n)).operand ≡ Ok (constant 1 Hexadecimal (Some n) None)

-- ---- the lines of a section, with gaps as spaces
abbrev pub space : ℕ → List LineContent
space n = if n == 0 then [] else Space n ∷ []

-- what is at each offset from one up to a size, where lines ascend
abbrev pub filled : ℕ → List Line → ℕ → List LineContent
filled from [] size = space (size - from)
filled from (line ∷ rest) size = space (line.at - from) ++ line.what ∷ filled (offset_after line) rest size

-- CSECT with a name, a statement for each of them, and END
abbrev pub statements_again : List ℕ → List LineContent → List Stmt
statements_again name whats =
    statement name (codes "CSECT") [] ∷ (map statement_of whats ++ statement [] (codes "END") [] ∷ [])

-- ---- what is assembled again
-- The text is that of the image before, the lines are those that were written; the entry is the section's start, no
-- word is relocated, and the working storage is the least.
pub record IsAssembledAgain (again : Source) (text : List ℕ) (whats : List LineContent) : Type 0 where
  pub made : AssemblyParts
  pub accepted : assembly_of again ≡ Ok made
  pub image : made.section.image ≡ record { text = text; entry = 0; relocs = []; stg_len = 80 }
  pub lines : map (λ line. line.what) made.section.resolved ≡ whats

-- A source is accepted, with the same text, where its statements are these, of the disassembly of an accepted source's
-- text by its spans, under any name of a section. A text that is one space of 65,536 bytes is apart: no length modifier
-- is above 65,535.
abbrev pub AssemblesAgain : Type 0
AssemblesAgain = (source again : Source) (made : AssemblyParts) (whats : List LineContent) (name section : List ℕ)
    → assembly_of source ≡ Ok made → symbol_name name ≡ Some section
    → filled 0 (lines made.section.image.text made.section.spans) (length made.section.image.text) ≡ whats
    → whats ≢ Space 65536 ∷ [] → filter_map (λ item. item.stmt) again.items ≡ statements_again name whats
    → IsAssembledAgain again made.section.image.text whats
