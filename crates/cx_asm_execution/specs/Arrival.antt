-- How EXEC statements of a source that is translated, assembled and loaded come to their commands, and their pointers
-- back (Application Programmer's Reference Manual, SC33-0077, the expansion of a command, SET of GETMAIN and READQ TS,
-- ADDRESS; GA22-7000, "Address Generation", "Load"; the instructions, the argument list and DFHEITP are this project's
-- own).
use Rattle.std.specs.Prelude.{◌≡◌, ◌≢◌, ℕ, pos, ◌+◌, ◌<◌, true, Ok, Some, List, [], ◌∷◌, ◌++◌, codes, is_some, length, map, slice_get, slice_set, take}
use Rattle.std.specs.List.{AllByRecursion, Contains}
use Rattle.cx_asm_execution.specs.Arrives.{Arrives}
use Rattle.cx_asm_execution.specs.Expansion.{Argument, ImpliedAddress, Statement, argument_address, resolved_block_bytes, instructions_made as made_code, address_reached, words_of_list}
use Rattle.cx_asm_execution.specs.Stands.{IsApart, IsMachine, code_length, list_length}
use Rattle.cx_code.specs.declared.disassembly.Line.{Line}
use Rattle.cx_code.specs.Spelling.{Instruction}
use Rattle.cx_base.specs.declared.commands.Command.{Command}
use Rattle.cx_base.specs.declared.options.CommandOption.{CommandOption}
use Rattle.cx_base.specs.declared.options.ArgumentKind.TheVariants.{Pointer}
use Rattle.cx_base.specs.Commands.{row_of}
use Rattle.cx_base.specs.Options.{option_name}
use Rattle.cx_exec.specs.declared.machine.Step.TheVariants.{Done}
use Rattle.cx_exec.specs.Machine.{Machine}
use Rattle.cx_exec.specs.Step.{Steps}
use Rattle.cx_load.specs.Fault.{IsFit}
use Rattle.cx_load.specs.Program.{IsLoaded}
use Rattle.cx_code.specs.declared.image.Image.{Image}
use Rattle.cx_load.specs.declared.program.Loaded.{Loaded}
use Rattle.cx_source.specs.declared.source.Item.{Item}
use Rattle.cx_source.specs.declared.source.Source.{Source}
use Rattle.cx_source.specs.declared.source.Stmt.{Stmt}
use Rattle.cx_storage.specs.Address.{address_after}
use Rattle.cx_storage.specs.Storage.{Storage, byte_at, span}
use Rattle.cx_storage.specs.Word.{word_at}
use Rattle.cx_asm_expressions.specs.Names.{symbol_name}
use Rattle.cx_translate.specs.declared.words.Word.{Word}
use Rattle.cx_translate.specs.Call.{argument_of, listed_of, operands_of as arguments_handed, pointers_of}
use Rattle.cx_translate.specs.Expansion.{load, stmt, stores}
use Rattle.cx_translate.specs.Refusals.{first_byte, second_byte}
use Rattle.cx_translate.specs.Sections.{begins_exec}
use Rattle.cx_translate.specs.Translation.{translation_of}
use Rattle.cx_asm_pass1.specs.Given.{location_counter}
use Rattle.cx_asm_operands.specs.Addresses.{address}
use Rattle.cx_asm_operands.specs.Context.{register_in}
use Rattle.cx_asm_operands.specs.Forms.{operands_of}
use Rattle.cx_asm_pass2.specs.Whole.{whole_of}
use Rattle.cx_asm.specs.Assembly.{AssemblyParts, assembly_of}
use Rattle.cx_asm_execution.specs.Arguments.{HoldsBase, IsAddressed, Sections}
use Rattle.cx_asm_execution.specs.MadeLines.{AreResolved, IsMade, Site, bases_of, lines_after, statements_of_call, code_lines, context_in, list_in, site_of}

-- ---- the statement
-- The statement that a call is of, which is at an offset: what the translator has put into the block, and the addresses
-- that the made statements are resolved to.
pub record IsStatement (site : Site) (at : ℕ) (s : Statement) : Type 0 where
  pub command : s.command ≡ site.command
  pub first : s.first ≡ first_byte site.command site.words
  pub second : s.second ≡ second_byte site.words
  pub conditions : s.conditions ≡ listed_of site.words
  pub resolved : AreResolved site (lines_after site []) at (statements_of_call site) (made_code s)

-- ---- arriving
-- n bytes from an address on are the same in two storages
abbrev pub AreKept : Storage → Storage → ℕ → ℕ → Type 0
AreKept before now a n = (k : ℕ) → k < n → byte_at now (address_after a k) ≡ byte_at before (address_after a k)

-- A machine that is about to perform a statement's instructions, of which the first is at an offset. The control
-- section is where the program was loaded; the base registers around the arguments hold their bases, and that of the
-- entry's word isn't 1; DFHEIPL is in storage; and so are, as they were loaded, the instructions, the block and the
-- entry's word, no byte of which lies in DFHEIPL.
pub record IsReady (loaded : Storage) (program : ℕ) (sections : Sections) (site : Site) (at : ℕ) (s : Statement)
    (m : Machine) : Type 0 where
  pub machine : IsMachine m
  pub next : m.next ≡ address_after program at
  pub control : (name : List ℕ) (offset : ℕ) → (whole_of site.source).control ≡ Some name
      → sections.place name (pos offset) ≡ address_after program offset
  pub bases : AllByRecursion (λ (p : ImpliedAddress). (p.base ≢ 0) × HoldsBase sections m.regs (bases_of site) p.base)
      (s.block ∷ s.last ∷ s.list ∷ s.entry ∷ map (λ a. a.word) (words_of_list s))
  pub other : s.entry.base ≢ 1
  pub there : is_some (span m.storage (address_reached m.regs s.list) list_length) ≡ true
  pub kept : AllByRecursion (λ (part : ℕ × ℕ). AreKept loaded m.storage part.0 part.1
      × IsApart (address_reached m.regs s.list) part.0 part.1)
      ((m.next, code_length (made_code s)) ∷ (address_reached m.regs s.block, length (resolved_block_bytes s))
      ∷ (address_reached m.regs s.entry, 4) ∷ [])

-- ---- pointers
-- A pointer that is given with a command: an option of it, after these, that has this register as its argument.
pub record IsPointer (command : Command) (words : List Word) (earlier : List CommandOption)
    (register : List ℕ) : Type 0 where
  pub option : CommandOption
  pub after : List CommandOption
  pub is : (row_of command).options ≡ earlier ++ option ∷ after
  pub marked : option.kind ≡ Pointer
  pub given : argument_of words (option_name option.name) ≡ Some register

-- Of a pointer that a statement hands over: its argument, after those of the options before it, and the number of the
-- register that it names. Where the program is loaded, and a machine is at the pointer's load, which is right after
-- the call, since a command has one pointer at most, that register gets the word at the address that the argument had
-- when it was handed over, with the registers at that time, and all else stays. Storage holds the load's four bytes as
-- they were loaded, and the argument's base register, then and now, its USING's base.
pub record PointerComesBack (site : Site) (image : Image) (at : ℕ) (s : Statement) (earlier : List CommandOption)
    (register : List ℕ) : Type 0 where
  pub argument : Argument
  pub handed : slice_get s.arguments (length (arguments_handed earlier site.words)) ≡ Some argument
  pub number : ℕ
  pub named : register_in (context_in site (lines_after site (statements_of_call site)) (load register)) register
      ≡ Ok number
  pub gets : (before loaded : Storage) (program : Loaded) (sections : Sections) (regs : List ℕ) (m : Machine) (word : ℕ)
      → IsFit image → IsLoaded before image program loaded → HoldsBase sections regs (bases_of site) argument.base
      → IsMachine m → m.next ≡ address_after program.at (at + code_length (made_code s))
      → AreKept loaded m.storage m.next 4
      → HoldsBase sections m.regs (bases_of site) argument.base
      → word_at m.storage (argument_address regs argument) ≡ Some word
      → Steps m Done (record m { regs = slice_set m.regs number word; next = address_after m.next 4 })

-- ---- an EXEC statement
-- A call of an accepted translation is in the code, at an offset that this name stands for, and right after it the
-- loads of its pointers. Each argument's address is that of its own expression, whatever the sections' places and the
-- registers are. Where the program is loaded, a machine that is about to perform the instructions arrives at the
-- command; and each pointer comes back, if its register is an operand by itself.
pub record CallArrives (site : Site) (assembly : AssemblyParts) (name : List ℕ) : Type 0 where
  pub at : ℕ
  pub statement : Statement
  pub is : IsStatement site at statement
  pub loads : List Instruction
  pub loaded : AreResolved site (lines_after site (statements_of_call site)) (at + code_length (made_code statement))
      (map load (pointers_of (row_of site.command).options site.words)) loads
  pub front : List Line
  pub back : List Line
  pub stand : assembly.section.resolved ≡ front ++ code_lines at (made_code statement ++ loads) ++ back
  pub named : (symbol : List ℕ) → symbol_name name ≡ Some symbol
      → (whole_of site.source).find symbol ≡ location_counter (whole_of site.source).control at 2
  pub places : (sections : Sections) (regs : List ℕ) (k : ℕ) (text : List ℕ) (a : Argument)
      → slice_get (list_in site) k ≡ Some text → slice_get (words_of_list statement) k ≡ Some a
      → IsAddressed sections regs (context_in site (lines_after site (stores 0 (take k (list_in site))))
      (stmt [] (codes "LA") (codes "0," ++ text))) text a.index (address a.base a.displacement)
  pub arrives : (storage loaded : Storage) (program : Loaded) (sections : Sections) (m : Machine)
      → IsFit assembly.section.image → IsLoaded storage assembly.section.image program loaded
      → IsReady loaded program.at sections site at statement m → (after : Machine) × Arrives m statement after
  pub returns : (earlier : List CommandOption) (register : List ℕ) → IsPointer site.command site.words earlier register
      → operands_of (register ++ codes ",DFHEITP") ≡ register ∷ codes "DFHEITP" ∷ []
      → PointerComesBack site assembly.section.image at statement earlier register

pub record CommandArrives (translated : Source) (assembly : AssemblyParts) (item : Item) (exec : Stmt) : Type 0 where
  pub made : IsMade item exec translated.items
  pub call : CallArrives (site_of translated made) assembly exec.name

-- Each EXEC statement that begins on a line of the source arrives so.
abbrev pub CommandsArrive : Type 0
CommandsArrive = (source translated : Source) (assembly : AssemblyParts) (item : Item) (exec : Stmt)
    → translation_of source ≡ Ok translated → assembly_of translated ≡ Ok assembly → Contains source.items item
    → item.stmt ≡ Some exec → begins_exec item ≡ true → CommandArrives translated assembly item exec
