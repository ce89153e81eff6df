-- What a key asks for, found before anything changes; no public contract cites it.
use Rattle.std.specs.Prelude.{◌≡◌, ℕ, List, length, Some, None}
use Rattle.cx_ebcdic.specs.declared.aids.Aid.{Aid}
use Rattle.cx_region_state.specs.declared.verdict.NewLevel.{NewLevel}
use Rattle.cx_region_state.specs.State.{Input, TaskState}
use Rattle.cx_region.specs.declared.asking.KeyEffect.{KeyEffect}
use Rattle.cx_region.specs.declared.asking.KeyEffect.TheVariants.{Answer, Hold, Attach}
use Rattle.cx_region.specs.declared.asking.Start.{Start}
use Rattle.cx_region.specs.State.{RegionState, TerminalState}
use Rattle.cx_region.specs.Tables.{program_of, terminal_of, transaction_of}
use Rattle.cx_region.specs.Attach.{TakesKey, commarea_kept, first_level, fresh_task, transaction_named}
use Rattle.cx_region.specs.declared.asking.Places.{Places}

-- an input by its parts
abbrev pub input_with : Aid → List ℕ → Input
input_with aid bytes = record { aid = aid; bytes = bytes }

-- the terminal has no task, and its transaction's program is there
pub record Starting (r : RegionState) (name bytes : List ℕ) (start : Start) : Type 0 where
  pub terminal : TerminalState
  pub there : terminal_of r name ≡ Some terminal
  pub idle : terminal.task ≡ None
  pub slot : start.slot ≡ terminal.entry.slot
  pub tran : start.tran ≡ transaction_named terminal.entry.following bytes
  pub defined : transaction_of r start.tran ≡ Some start.program
  pub program : program_of r start.program ≡ Some start.loaded
  pub calen : start.calen ≡ length (commarea_kept terminal.entry.following)

-- the terminal has a task, and no input is held for it
pub record Giving (r : RegionState) (name : List ℕ) : Type 0 where
  pub terminal : TerminalState
  pub there : terminal_of r name ≡ Some terminal
  pub task : TaskState
  pub live : terminal.task ≡ Some task
  pub none : terminal.entry.input ≡ None

-- an answer that is due with no change; that the input be held; that a task be attached
abbrev pub Asks : RegionState → List ℕ → List ℕ → KeyEffect → Type 0
Asks region name bytes (Answer reply) = (aid : Aid) → TakesKey region name (input_with aid bytes) reply region
Asks region name bytes Hold = Giving region name
Asks region name bytes (Attach start) = Starting region name bytes start

-- the level and the task that begin
abbrev pub level_of : Start → Places → NewLevel
level_of start areas = first_level start.program start.loaded start.calen areas

abbrev pub task_of_start : Start → ℕ → Places → TaskState
task_of_start start number areas = fresh_task start.tran number areas.eib (level_of start areas)
