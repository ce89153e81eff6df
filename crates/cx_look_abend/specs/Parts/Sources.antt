-- What a level's DFHEISTG at an abend is found by.
use Rattle.std.specs.Prelude.{◌≡◌, ℕ, min, List, Option, None, Some, MatchBool, MatchOption}
use Rattle.cx_exec.specs.Machine.{Machine}
use Rattle.cx_program.specs.declared.level.Level.{Level}
use Rattle.cx_region.specs.State.{RegionState}
use Rattle.cx_region.specs.Tables.{task_of}
use Rattle.cx_region.specs.declared.replies.Event.TheVariants as event
use Rattle.cx_region_state.specs.State.{TaskState}
use Rattle.cx_region_task.specs.Turn.{most_steps}
use Rattle.cx_storage.specs.Address.{address_in}
use Rattle.cx_storage.specs.Storage.{Storage}
use Rattle.cx_edf.specs.declared.answers.EdfEvent.{EdfEvent}
use Rattle.cx_edf.specs.declared.answers.EdfEvent.TheVariants as edf_event
use Rattle.cx_look_turn.specs.NextTurn.{task_machine}
use Rattle.cx_look_turn.specs.Traces.{Leaves}
use Rattle.cx_look_abend.specs.Dumps.{Dump, dump_at, dump_in}

-- where it is, and how many bytes it has
pub record Room : Type 0 where
  pub program : List ℕ
  pub at : ℕ
  pub n : ℕ

abbrev pub room_of : Level → Room
room_of level = record { program = level.program; at = address_in level.stg; n = min level.stg_len 65520 }

-- the machine whose run leaves it
pub record LevelMachine : Type 0 where
  pub machine : Machine
  pub room : Room

-- one that is found already, or that machine
pub record DumpSource : Type 0 where
  pub found : Option Dump
  pub run : Option LevelMachine

abbrev pub no_source : DumpSource
no_source = record { found = None; run = None }

-- of a task
unfoldable pub IsSourceOf : Storage → TaskState → DumpSource → Type 0
IsSourceOf s task source =
    MatchBool task.due (source ≡ record { found = dump_in s task.levels.current; run = None })
    (source
    ≡ record { found = None; run = Some (record { machine = task_machine s task; room = room_of task.levels.current }) })

-- of the task of a terminal that takes its turn
unfoldable pub IsSourceAt : RegionState → EdfEvent → DumpSource → Type 0
IsSourceAt region (edf_event.Plain (event.Turn name)) source =
    MatchOption (task_of region name) (source ≡ no_source) (λ task. IsSourceOf region.shared.storage task source)
IsSourceAt region _ source = source ≡ no_source

-- what it gives
pub record RunGives (it : LevelMachine) (dump : Option Dump) : Type 0 where
  pub left : Machine
  pub leaves : Leaves most_steps it.machine left
  pub is : dump ≡ dump_at left.storage it.room.program it.room.at it.room.n

abbrev pub GivesDump : DumpSource → Option Dump → Type 0
GivesDump source dump = MatchOption source.run (dump ≡ source.found) (λ it. RunGives it dump)
