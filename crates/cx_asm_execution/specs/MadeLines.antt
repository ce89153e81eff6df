-- The statements made of an EXEC statement: which they are, what they are resolved to, and where they are in an
-- assembly (OS/VS-DOS/VSE-VM/370 Assembler Language, GC33-4010, "Location Counter Reference", "USING -- Use Base
-- Address Register"; that they are resolved lines is this product's own).
use Rattle.std.specs.Prelude.{◌≡◌, ℕ, ◌+◌, ◌-◌, Ok, Some, None, option_map, List, [], ◌∷◌, ◌++◌, drop, fold, length, reverse}
use Rattle.cx_code.specs.declared.disassembly.Line.{Line}
use Rattle.cx_code.specs.declared.disassembly.LineContent.TheVariants.{Code}
use Rattle.cx_code.specs.Spelling.{Instruction}
use Rattle.cx_code.specs.Table.{length_of}
use Rattle.cx_base.specs.declared.commands.Command.{Command}
use Rattle.cx_source.specs.declared.source.Item.{Item}
use Rattle.cx_source.specs.declared.source.Source.{Source}
use Rattle.cx_source.specs.declared.source.Stmt.{Stmt}
use Rattle.cx_translate.specs.declared.words.Word.{Word}
use Rattle.cx_translate.specs.Call.{list_of}
use Rattle.cx_translate.specs.Expansion.{call, label, made_item, made_of, stores}
use Rattle.cx_translate.specs.Refusals.{command_in, refusal_of}
use Rattle.cx_translate.specs.Sections.{lines}
use Rattle.cx_translate.specs.Words.{words_of}
use Rattle.cx_asm_operations.specs.Operations.{operation_named}
use Rattle.cx_asm_pass1.specs.PassState.{state_after, place_in}
use Rattle.cx_asm_operands.specs.Bases.{Bases, none_in_use}
use Rattle.cx_asm_operands.specs.Context.{Context}
use Rattle.cx_asm_operands.specs.Forms.{instruction_or_fault}
use Rattle.cx_asm_pass2.specs.Statements.{placed_statement, statements_of}
use Rattle.cx_asm_pass2.specs.Whole.{instruction_context, whole_of}
use Rattle.cx_asm_pass2.specs.SecondFaults.{bases_after}
use Rattle.cx_asm.specs.Resolving.{line}

-- ---- which they are
-- Of an EXEC statement that begins on a line: its command, whose name has `named` words; it has no fault; and the
-- statements made of it are together, with its line.
pub record IsMade (item : Item) (exec : Stmt) (items : List Item) : Type 0 where
  pub command : Command
  pub named : ℕ
  pub found : command_in (words_of exec.operand) ≡ Some (command, named)
  pub accepted : refusal_of item.line (words_of exec.operand) ≡ None
  pub before : List Item
  pub after : List Item
  pub is : items ≡ before ++ lines item.line (made_of exec.name (words_of exec.operand)) ++ after

-- What made instructions are of: a source that was translated, its lines before the first of them, the line that they
-- have, the command, and the words after its name.
pub record Site : Type 0 where
  pub source : Source
  pub first : List Item
  pub line : ℕ
  pub command : Command
  pub words : List Word

abbrev pub site_of : {item : Item} {exec : Stmt} (source : Source) → IsMade item exec source.items → Site
site_of {item} {exec} source made =
    record {
      source = source;
      first = made.before ++ lines item.line (label exec.name);
      line = item.line;
      command = made.command;
      words = drop made.named (drop 1 (words_of exec.operand));
    }

-- the words of the argument list, and the statements of a call: their stores, and the call with the last word's mark
abbrev pub list_in : Site → List (List ℕ)
list_in site = list_of site.command site.words

abbrev pub statements_of_call : Site → List Stmt
statements_of_call site = stores 0 (list_in site) ++ call (length (list_in site) - 1)

-- ---- what they are resolved to
-- the bases in use after the first lines
abbrev pub bases_of : Site → Bases
bases_of site = fold (bases_after (whole_of site.source)) none_in_use (statements_of (record { items = site.first }))

-- the lines up to the end of these statements, the latest first
abbrev pub lines_after : Site → List Stmt → List Item
lines_after site statements = reverse (lines site.line statements) ++ reverse site.first

-- what the operand of a statement after such lines is read by
abbrev pub context_in : Site → List Item → Stmt → Context
context_in site before s =
    instruction_context (whole_of site.source) (bases_of site)
    (placed_statement site.line s (place_in s (state_after before)))

-- The statement is at an offset, and is resolved to an instruction.
abbrev pub IsResolved : Site → List Item → ℕ → Stmt → Instruction → Type 0
IsResolved site before at s made =
    ((place_in s (state_after before)).offset ≡ at)
    × (option_map (λ o. instruction_or_fault o (context_in site before s) s.operand) (operation_named s.operation)
    ≡ Some (Ok made))

-- So are statements, each right after the one before it.
unfoldable pub AreResolved : Site → List Item → ℕ → List Stmt → List Instruction → Type 0
AreResolved site before at [] [] = Unit {0}
AreResolved site before at (s ∷ statements) (i ∷ code) =
    IsResolved site before at s i
    × AreResolved site (made_item site.line s ∷ before) (at + length_of i.op) statements code
AreResolved site before at statements code = ⊥

-- ---- where they are
-- instructions as resolved lines, one right after the other
unfoldable pub code_lines : ℕ → List Instruction → List Line
code_lines at [] = []
code_lines at (i ∷ code) = line at (Code i) ∷ code_lines (at + length_of i.op) code
