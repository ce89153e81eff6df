-- Which exit takes an abend, and what it leaves (Application Programmer's Reference Manual, SC33-0077, "HANDLE ABEND").
use Rattle.std.specs.Prelude.{◌≡◌, ◌⊎◌, ℕ, ◌<◌, Bool, true, false, List, ◌∷◌, ◌++◌, length, reverse, slice_set, Some, None, Ok, MatchBool}
use Rattle.std.specs.List.{AllByRecursion, list_all}
use Rattle.cx_base.specs.declared.conditions.Condition.{Condition}
use Rattle.cx_storage.specs.declared.areas.Area.{Area}
use Rattle.cx_storage.specs.Address.{address_in}
use Rattle.cx_storage.specs.Storage.{Storage, area_at, starts_elsewhere, with_areas_kept}
use Rattle.cx_exec.specs.declared.machine.Halt.{Halt}
use Rattle.cx_exec.specs.Advance.{Advances}
use Rattle.cx_program.specs.declared.level.Level.{Level}
use Rattle.cx_program.specs.Entries.{label_on}
use Rattle.cx_program.specs.Levels.{IsNearestExit, all_levels, has_exit, has_exit_at}
use Rattle.cx_region_state.specs.declared.outputs.Output.{Output}
use Rattle.cx_region_state.specs.Call.{Call, call_of}
use Rattle.cx_region_state.specs.Eib.{with_calen}
use Rattle.cx_region_commands.specs.CommandVerdicts.{HasVerdict}
use Rattle.cx_region_state.specs.declared.replies.TurnReply.{TurnReply}
use Rattle.cx_region_state.specs.declared.replies.TurnReply.TheVariants as turn
use Rattle.cx_region_state.specs.declared.verdict.TaskChange.{TaskChange}
use Rattle.cx_region_state.specs.declared.verdict.Verdict.TheVariants.{Meets}
use Rattle.cx_region_state.specs.State.{TaskContext, TaskState}
use Rattle.cx_region_task.specs.Abends.{Abends, with_exit_off}
use Rattle.cx_region_task.specs.Changes.{Commits}
use Rattle.cx_region_task.specs.Performing.{argument_list}
use Rattle.cx_region_task.specs.Turn.{HalfTurn, after_machine, machine_of, most_steps}

-- the area is none of the levels' DFHEISTGs
abbrev pub is_no_stg_of : List Level → Area → Bool
is_no_stg_of levels area = list_all (λ level. starts_elsewhere (address_in level.stg) area) levels

-- no area starts where the levels' DFHEISTGs did
abbrev pub AreFreed : Storage → List Level → Type 0
AreFreed storage levels = AllByRecursion (λ level. area_at storage (address_in level.stg) ≡ None) levels

-- a task with the levels, the registers and the place in its program that a second task has
abbrev pub with_program : TaskState → TaskState → TaskState
with_program task other =
    record task { levels = other.levels; regs = other.regs; cc = other.cc; next = other.next; due = other.due }

-- What an abend that an exit takes leaves of a task.
pub record TakesExit (before after : TaskContext) : Type 0 where
  -- the levels above the exit's, the nearest to it first; the exit's level; and those below it, the current one last
  pub callers : List Level
  pub level : Level
  pub ended : List Level
  pub split : all_levels before.task.levels ≡ reverse callers ++ level ∷ ended
  -- it is the nearest exit that is on
  pub nearest : IsNearestExit (all_levels before.task.levels) (Some (length callers))
  -- its level is the current one, and the exit is off; the levels above it are as they were
  pub levels : after.task.levels ≡ record { callers = callers; current = with_exit_off level }
  pub off : has_exit after.task.levels.current ≡ false
  -- the areas of the levels below it are freed
  pub freed : AreFreed after.shared.storage ended
  -- the program goes on at the exit's label, which R15 holds, with the other registers and the code that the level
  -- kept, and no command is due
  pub label : ℕ
  pub labelled : label_on level.handles.active.exit ≡ Some label
  pub next : after.task.next ≡ address_in label
  pub regs : after.task.regs ≡ slice_set level.regs 15 label
  pub cc : after.task.cc ≡ level.cc
  pub due : after.task.due ≡ false
  -- EIBCALEN is the level's; every other byte that isn't in a freed area, and all else that is reached, is as at the
  -- abend
  pub storage : after.shared.storage
      ≡ with_calen (with_areas_kept (is_no_stg_of ended) before.shared.storage) before.task.eib (Some level.calen)
  pub others : after
      ≡ record before {
        shared = record before.shared { storage = after.shared.storage };
        task = with_program before.task after.task;
      }
  -- the next abend goes to an exit above it
  pub later : (i : ℕ) → IsNearestExit (all_levels after.task.levels) (Some i) → i < length callers

-- an exit takes an abend as the record says
abbrev pub ExitsAreNearest : Type 0
ExitsAreNearest =
    (code : List ℕ) (cancel : Bool) (before after : TaskContext) → Abends code cancel before (turn.TookExit code) after
    → TakesExit before after

-- where an exit is on, an abend without CANCEL is taken by one
abbrev pub ExitsTakeAbends : Type 0
ExitsTakeAbends =
    (code : List ℕ) (before after : TaskContext) (reply : TurnReply) (i : ℕ) → Abends code false before reply after
    → has_exit_at (all_levels before.task.levels) i ≡ true → reply ≡ turn.TookExit code

-- an abend with CANCEL is taken by no exit
abbrev pub CancelTakesNoExit : Type 0
CancelTakesNoExit =
    (code : List ℕ) (before after : TaskContext) (reply : TurnReply) → Abends code true before reply after
    → reply ≡ turn.Abended code

-- ---- over a half-turn
-- what is reached when the task's instructions have run
pub record HaveRun (before abend : TaskContext) : Type 0 where
  pub how : Halt
  pub advances : Advances most_steps (machine_of before) how (machine_of abend)
  pub rest : abend ≡ after_machine before (machine_of abend)

-- what is reached when all is done that the command that is due does for the condition it meets
pub record HasDone (before abend : TaskContext) : Type 0 where
  pub call : Call
  pub reads : call_of before.shared.storage (argument_list before.task) ≡ Ok call
  pub condition : Condition
  pub outputs : List Output
  pub change : TaskChange
  pub judged : HasVerdict call before (Meets condition outputs change)
  pub commits : Commits call condition outputs change before abend

-- How a half-turn comes to an abend: its instructions have run; or its command is refused, and nothing is done, or has
-- done all that it does.
abbrev pub ComesToAbend : TaskContext → TaskContext → Type 0
ComesToAbend before abend = MatchBool before.task.due ((abend ≡ before) ⊎ HasDone before abend) (HaveRun before abend)

-- A half-turn in which an exit takes an abend: the task comes to it with the levels that it had, and the exit takes it
-- there.
pub record ComesToExit (before after : TaskContext) : Type 0 where
  pub abend : TaskContext
  pub comes : ComesToAbend before abend
  pub levels : abend.task.levels ≡ before.task.levels
  pub takes : TakesExit abend after

-- a half-turn comes to an abend that an exit takes with its task's levels as they were
abbrev pub HalfTurnsTakeExits : Type 0
HalfTurnsTakeExits =
    (code : List ℕ) (before after : TaskContext) → HalfTurn before (turn.TookExit code) after → ComesToExit before after
