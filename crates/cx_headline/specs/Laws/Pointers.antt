-- What a program gets of a pointer that its command gives, from the EXEC statement to the load after it (Application
-- Programmer's Reference Manual, SC33-0077, SET of GETMAIN and READQ TS, ADDRESS; that pointers are handed over in
-- DFHEITP is this product's own).
use Rattle.std.specs.Prelude.{◌≡◌, ◌≢◌, ℕ, ◌+◌, ◌<◌, false, List, [], ◌∷◌, ◌++◌, codes, slice_set}
use Rattle.cx_base.specs.declared.conditions.Condition.{Condition}
use Rattle.cx_base.specs.declared.options.CommandOption.{CommandOption}
use Rattle.cx_base.specs.declared.options.OptionName.{OptionName}
use Rattle.cx_storage.specs.Address.{address_after}
use Rattle.cx_storage.specs.Storage.{Storage, IsSoundStorage}
use Rattle.cx_load.specs.Fault.{IsFit}
use Rattle.cx_load.specs.Program.{IsLoaded}
use Rattle.cx_load.specs.declared.program.Loaded.{Loaded}
use Rattle.cx_exec.specs.Machine.{Machine}
use Rattle.cx_exec.specs.Step.{Steps}
use Rattle.cx_exec.specs.declared.machine.Step.TheVariants.{Done}
use Rattle.cx_region_state.specs.declared.outputs.Output.{Output}
use Rattle.cx_region_state.specs.declared.outputs.OutputValue.TheVariants.{Word}
use Rattle.cx_asm_execution.specs.Arrives.{Arrives}
use Rattle.cx_asm_execution.specs.Expansion.{Statement, argument_address, call_made, instructions_made}
use Rattle.cx_asm_execution.specs.Stands.{IsMachine, code_length}
use Rattle.cx_source.specs.declared.source.Item.{Item}
use Rattle.cx_source.specs.declared.source.Source.{Source}
use Rattle.cx_source.specs.declared.source.Stmt.{Stmt}
use Rattle.cx_asm_operands.specs.Bases.{Bases}
use Rattle.cx_asm_operands.specs.Forms.{operands_of}
use Rattle.cx_asm.specs.Assembly.{AssemblyParts}
use Rattle.cx_asm_execution.specs.Arguments.{HoldsBase, Sections}
use Rattle.cx_asm_execution.specs.Arrival.{AreKept, CommandArrives, PointerComesBack, IsPointer}
use Rattle.cx_asm_execution.specs.MadeLines.{Site, bases_of, site_of}
use Rattle.cx_region_commands.specs.Common.{output as output_of}
use Rattle.cx_region_state.specs.State.{TaskContext}
use Rattle.cx_region_state.specs.Verdicts.{handed_over}
use Rattle.cx_region_state.specs.declared.replies.TurnReply.TheVariants as turn
use Rattle.cx_region_task.specs.Sound.{IsSoundTask}
use Rattle.cx_region_task.specs.Turn.{HalfTurn, machine_of}
use Rattle.cx_region_laws.specs.Laws.Pointers.{HasPutOut, is_written_again}

-- A machine at a statement's first instruction, which is at an address, has come to the statement's command, and a
-- half-turn of its sound task has performed it. A register that is in use as a base held its USING's base at the first
-- instruction, and is none of 1, 14 and 15, which the call sets. After the half-turn the pointer's load has the four
-- bytes that were loaded.
pub record IsCommandPerformed (loaded : Storage) (at load : ℕ) (sections : Sections) (bases : Bases) (base : ℕ)
    (s : Statement)
    (m : Machine) (before : TaskContext) (condition : Condition) (after : TaskContext) : Type 0 where
  pub next : m.next ≡ at
  pub arrives : Arrives m s (machine_of before)
  pub storage : IsSoundStorage before.shared.storage
  pub task : IsSoundTask before.shared.storage before.terminal_entry.slot before.task
  pub half_turn : HalfTurn before (turn.Performed condition) after
  pub machine : IsMachine (machine_of after)
  pub holds : HoldsBase sections m.regs bases base
  pub stays : (base ≢ 1) × (base ≢ 14) × (base ≢ 15)
  pub kept : AreKept loaded after.shared.storage load 4

-- After the half-turn the program is at the load. Where one of the command's outputs gives the option a pointer, and
-- none of the four addresses of the argument may be written again, the load gives the register this very pointer, and
-- all else stays.
pub record GetsPointer (load place number : ℕ) (option : OptionName) (s : Statement) (m : Machine)
    (before : TaskContext)
    (condition : Condition) (after : TaskContext) : Type 0 where
  pub next : after.task.next ≡ load
  pub put : HasPutOut condition before after
  pub call : put.call ≡ call_made m.regs s
  pub gets : (front later : List Output) (given : ℕ) → put.outputs ≡ front ++ output_of option (Word given) ∷ later
      → ((k : ℕ) → k < 4
      → is_written_again (address_after place k) before.task.eib put.call (handed_over put.change before) later ≡ false)
      → Steps (machine_of after) Done
      (record (machine_of after) { regs = slice_set after.task.regs number given; next = address_after load 4 })

-- So a loaded program gets the pointer of a call that is at an offset and comes to its command. Which argument
-- was handed over for it, and which register is named, `back` says.
abbrev pub GivesPointer : {earlier : List CommandOption} {register : List ℕ} (site : Site) (assembly : AssemblyParts)
    (at : ℕ) (s : Statement) (name : OptionName) → PointerComesBack site assembly.section.image at s earlier register
    → Type 0
GivesPointer site assembly at s name back =
    (storage loaded : Storage) (program : Loaded) (sections : Sections) (m : Machine) (before : TaskContext)
    (condition : Condition) (after : TaskContext) → IsFit assembly.section.image
    → IsLoaded storage assembly.section.image program loaded
    → IsCommandPerformed loaded (address_after program.at at)
    (address_after program.at (at + code_length (instructions_made s))) sections (bases_of site)
    back.argument.base s m before condition after
    → GetsPointer (address_after program.at (at + code_length (instructions_made s)))
    (argument_address m.regs back.argument) back.number name
    s m before condition after

-- Each EXEC statement that arrives gives its pointer back, if the register is an operand by itself.
abbrev pub PointersAreGiven : Type 0
PointersAreGiven = (translated : Source) (assembly : AssemblyParts) (item : Item) (exec : Stmt)
    (arrives : CommandArrives translated assembly item exec) (earlier : List CommandOption) (register : List ℕ)
    (pointer : IsPointer arrives.made.command (site_of translated arrives.made).words earlier register)
    (cut : operands_of (register ++ codes ",DFHEITP") ≡ register ∷ codes "DFHEITP" ∷ [])
    → GivesPointer (site_of translated arrives.made) assembly arrives.call.at arrives.call.statement pointer.option.name
    (arrives.call.returns earlier register pointer cut)
