-- How a task goes on after a command (Application Programmer's Reference Manual, SC33-0077, "Exceptional conditions",
-- "Program Control").
use Rattle.std.specs.Prelude.{◌≡◌, ℕ, Bool, true, false, ◌||◌, is_some, if◌then◌else◌, List, [], ◌∷◌, slice_index}
use Rattle.cx_base.specs.declared.conditions.Condition.{Condition}
use Rattle.cx_base.specs.declared.conditions.Condition.TheVariants.{Normal}
use Rattle.cx_base.specs.declared.options.OptionName.TheVariants.{Nosuspend}
use Rattle.cx_base.specs.Arguments.{has_option}
use Rattle.cx_storage.specs.Address.{address_in}
use Rattle.cx_program.specs.declared.choice.Choice.{Choice}
use Rattle.cx_program.specs.declared.choice.Choice.TheVariants as choice
use Rattle.cx_program.specs.declared.entries.Entries.{Entries}
use Rattle.cx_program.specs.declared.level.Level.{Level}
use Rattle.cx_program.specs.Handles.{choice as choice_by, condition_waits}
use Rattle.cx_program.specs.Levels.{Levels, with_called_level, with_current}
use Rattle.cx_region_state.specs.Call.{Call, has_nohandle, resp_place}
use Rattle.cx_region_state.specs.declared.replies.TurnReply.{TurnReply}
use Rattle.cx_region_state.specs.declared.replies.TurnReply.TheVariants as turn
use Rattle.cx_region_state.specs.declared.verdict.TaskChange.{TaskChange}
use Rattle.cx_region_state.specs.declared.verdict.TaskChange.TheVariants as change
use Rattle.cx_region_state.specs.declared.verdict.NewLevel.{NewLevel}
use Rattle.cx_region_state.specs.State.{TaskContext, TaskState}
use Rattle.cx_region_state.specs.Areas.{entry_level, registers_of}
use Rattle.cx_region_task.specs.declared.continuation.Continuation.{Continuation}
use Rattle.cx_region_task.specs.declared.continuation.Continuation.TheVariants.{GoesOn, TakesLabel, Waits, Abends, Enters, Replaces, LevelEnds, TaskEnds}
use Rattle.cx_region_task.specs.Abends.{Abends as AbendsWith, task_ended, without_stg}

-- ---- the choice for a condition
-- with NOHANDLE or RESP the entries aren't looked at
abbrev pub choice_unhandled : Condition → Choice
choice_unhandled condition = if condition_waits condition then choice.Wait else choice.GoOn

-- with NOSUSPEND the command goes on where it would wait
abbrev pub without_wait : Bool → Choice → Choice
without_wait true choice.Wait = choice.GoOn
without_wait _ chosen = chosen

unfoldable pub choice_for : Call → Entries → Condition → Choice
choice_for call entries condition =
    without_wait (has_option call.command call.first Nosuspend)
    (if has_nohandle call.second || is_some (resp_place call) then choice_unhandled condition
    else choice_by entries condition)

-- ---- the way
abbrev pub continuation_chosen : Choice → Continuation
continuation_chosen (choice.Label label) = TakesLabel label
continuation_chosen choice.GoOn = GoesOn
continuation_chosen choice.Wait = Waits
continuation_chosen (choice.Abend code) = Abends code false

-- where no condition is met, the way is the change's
abbrev pub continuation_by : TaskChange → Continuation
continuation_by (change.Enters level) = Enters level
continuation_by (change.Replaces copying level) = Replaces level
continuation_by change.LevelEnds = LevelEnds
continuation_by (change.TaskEnds next) = TaskEnds
continuation_by (change.AbendsWith code cancel) = Abends code cancel
continuation_by _ = GoesOn

abbrev pub is_normal : Condition → Bool
is_normal Normal = true
is_normal _ = false

unfoldable pub continuation_of : Call → Entries → Condition → TaskChange → Continuation
continuation_of call entries condition change =
    if is_normal condition then continuation_by change else continuation_chosen (choice_for call entries condition)

abbrev pub is_wait : Continuation → Bool
is_wait Waits = true
is_wait _ = false

-- ---- the task on its way
-- at an address; no command is due
abbrev pub at_next : TaskState → ℕ → TaskState
at_next task next = record task { next = next; due = false }

-- after its command: at the address in R14
abbrev pub gone_on : TaskState → TaskState
gone_on task = at_next task (address_in (slice_index task.regs 14))

abbrev pub on_its_way : TaskContext → TaskContext
on_its_way r = record r { task = gone_on r.task }

abbrev pub at_label : ℕ → TaskContext → TaskContext
at_label label r = record r { task = at_next r.task (address_in label) }

-- the task at the entry of a level's program, with these levels
abbrev pub at_entry : TaskState → NewLevel → Levels → TaskState
at_entry task level levels =
    record task { levels = levels; regs = registers_of level task.eib; cc = 0; next = level.loaded.entry; due = false }

-- LINK: the level begins under the current one
unfoldable pub enter_level : NewLevel → TaskContext → TaskContext
enter_level level r =
    record r { task = at_entry r.task level (with_called_level r.task.levels (entry_level level r.task.eib)) }

-- XCTL: the level begins in place of the current one, whose DFHEISTG is freed
unfoldable pub replace_level : NewLevel → TaskContext → TaskContext
replace_level level r =
    record r {
      shared = record r.shared { storage = without_stg r.task.levels.current r.shared.storage };
      task = at_entry r.task level (with_current r.task.levels (entry_level level r.task.eib));
    }

-- RETURN: the current level ends, and its DFHEISTG is freed; the linking level goes on after its LINK, with the
-- registers and code that it kept
abbrev pub returned_to : List Level → TaskContext → TaskContext
returned_to [] r = r
returned_to (caller ∷ callers) r =
    record r {
      shared = record r.shared { storage = without_stg r.task.levels.current r.shared.storage };
      task =
          gone_on
          (record r.task {
            levels = record { callers = callers; current = caller };
            regs = caller.regs;
            cc = caller.cc;
          });
    }

unfoldable pub return_to_caller : TaskContext → TaskContext
return_to_caller r = returned_to r.task.levels.callers r

-- the task goes its way, with a condition, from the state in which all that the command does is done
unfoldable pub Goes : Continuation → Condition → TaskContext → TurnReply → TaskContext → Type 0
Goes GoesOn condition committed reply after = (reply ≡ turn.Performed condition) × (after ≡ on_its_way committed)
Goes (TakesLabel label) condition committed reply after =
    (reply ≡ turn.TookLabel condition) × (after ≡ at_label label committed)
Goes Waits condition committed reply after = (reply ≡ turn.Waiting) × (after ≡ committed)
Goes (Abends code cancel) condition committed reply after = AbendsWith code cancel committed reply after
Goes (Enters level) condition committed reply after = (reply ≡ turn.Entered) × (after ≡ enter_level level committed)
Goes (Replaces level) condition committed reply after = (reply ≡ turn.Entered) × (after ≡ replace_level level committed)
Goes LevelEnds condition committed reply after = (reply ≡ turn.Returned) × (after ≡ return_to_caller committed)
Goes TaskEnds condition committed reply after = (reply ≡ turn.Ended) × (after ≡ task_ended committed)
