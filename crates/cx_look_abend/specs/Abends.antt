-- What is kept of a terminal's last abend (own).
use Rattle.std.specs.Prelude.{ℕ, Bool, true, false, List, [], Option, Some, None, if◌then◌else◌, map, reverse, slice_index}
use Rattle.std.specs.Option.{option_and_then, option_map, option_map_or}
use Rattle.std.specs.Result.{result_ok}
use Rattle.cx_base.specs.Abends.{abend_code}
use Rattle.cx_base.specs.declared.abends.Abend.TheVariants.{Xedf}
use Rattle.cx_program.specs.declared.level.Level.{Level}
use Rattle.cx_storage.specs.Address.{address_in}
use Rattle.cx_storage.specs.Storage.{Storage}
use Rattle.cx_region_state.specs.Call.{call_of}
use Rattle.cx_region_state.specs.State.{TaskState}
use Rattle.cx_region_state.specs.declared.replies.TurnReply.{TurnReply}
use Rattle.cx_region_state.specs.declared.replies.TurnReply.TheVariants as turn
use Rattle.cx_region_task.specs.declared.cause.Cause.{Cause}
use Rattle.cx_region_task.specs.declared.cause.Cause.TheVariants as cause
use Rattle.cx_region_task.specs.declared.cause.AbendRecord.{AbendRecord}
use Rattle.cx_region_task.specs.Performing.{argument_list}
use Rattle.cx_region.specs.State.{RegionState}
use Rattle.cx_region.specs.Tables.{task_of}
use Rattle.cx_look_abend.specs.Dumps.{Dump}
use Rattle.cx_look_abend.specs.declared.abends.Caller.{Caller}
use Rattle.cx_look_abend.specs.declared.abends.Explanation.{Explanation}
use Rattle.cx_look_abend.specs.declared.abends.KeptTask.{KeptTask}
use Rattle.cx_look_abend.specs.declared.abends.LastAbend.{LastAbend}
use Rattle.cx_look_abend.specs.declared.abends.TaskBefore.{TaskBefore}
use Rattle.cx_look_tasks.specs.Commands.{call_text}
use Rattle.cx_look_lines.specs.Words.{Lines}
use Rattle.cx_look_symbols.specs.Places.{place_at_address, spot_before}
use Rattle.cx_look_symbols.specs.declared.places.Place.{Place}

-- ---- an abend
-- the code of an abend, where a turn's reply is one
abbrev pub abend_code_in : TurnReply → Option (List ℕ)
abend_code_in (turn.TookExit code) = Some code
abend_code_in (turn.Abended code) = Some code
abend_code_in _ = None

-- whether an instruction led to it, and no command
abbrev pub is_of_instruction : Cause → Bool
is_of_instruction (cause.Interrupted interruption) = true
is_of_instruction cause.Limit = true
is_of_instruction _ = false

-- where the program was: at the next address, or after a command, where bits 8 to 31 of R14 lead
abbrev pub abend_place : AbendRecord → ℕ
abend_place it = if is_of_instruction it.cause then it.next else address_in (slice_index it.regs 14)

-- where the program goes on, where an exit took the abend
abbrev pub exit_place : RegionState → List ℕ → TurnReply → Option Place
exit_place region name (turn.TookExit code) =
    option_map (λ task. place_at_address region.shared.programs task.next) (task_of region name)
exit_place region name _ = None

-- why a turn led to an abend, where its program was, the arguments of its command, and its DFHEISTG; the byte before a
-- place after a command is the last of the command's EXEC
abbrev pub explanation_of : RegionState → TaskBefore → Option Dump → AbendRecord → Explanation
explanation_of region before dump abend_record =
    record {
      abend_record = abend_record;
      place = place_at_address region.shared.programs (abend_place abend_record);
      before = spot_before region.shared.programs (abend_place abend_record);
      arguments = before.arguments;
      dump = dump;
    }

-- a level that has called another: its program, and bits 8 to 31 of the R14 that it kept, where it goes on
abbrev pub caller_of : Level → Caller
caller_of level = record { program = level.program; next = address_in (slice_index level.regs 14) }

-- what is kept of a terminal's task: its transaction, its number, and those levels, the highest first
abbrev pub kept_task : RegionState → List ℕ → Option KeptTask
kept_task region name =
    option_map
    (λ it. record { tran = it.tran; number = it.number; callers = map caller_of (reverse it.levels.callers) })
    (task_of region name)

-- the arguments of a task's command that is due, as COMMAND shows them; none where none is due, or its list can't be
-- read
unfoldable pub due_arguments : Storage → TaskState → Lines
due_arguments s task =
    if task.due then option_map_or (call_text s) (result_ok (call_of s (argument_list task))) [] else []

-- what is kept of a terminal's task before a turn
abbrev pub before_turn : RegionState → List ℕ → TaskBefore
before_turn region name =
    record {
      task = kept_task region name;
      arguments = option_map_or (due_arguments region.shared.storage) (task_of region name) [];
    }

-- the abend of a turn of this terminal's task with that reply and record, and that DFHEISTG, in the region after it
abbrev pub last_of_turn :
    RegionState → List ℕ → TurnReply → TaskBefore → Option Dump → Option AbendRecord → Option LastAbend
last_of_turn region name reply before dump abend_record =
    option_and_then
    (λ it.
    let explanation = explanation_of region before dump it in
    let exit = exit_place region name reply in
    option_map (λ code. record { code = code; task = before.task; explanation = Some explanation; exit = exit })
    (abend_code_in reply))
    abend_record

-- an abend of a task that an operator asked for
abbrev pub by_operator : TaskBefore → LastAbend
by_operator before = record { code = abend_code Xedf; task = before.task; explanation = None; exit = None }
