-- What each change of a command does (Application Programmer's Reference Manual, SC33-0077, the section of each
-- command).
-- What is made is made before the outputs are written, and what is ended or freed after RESP's word.
use Rattle.std.specs.Prelude.{◌≡◌, ℕ, Bool, true, false, List, [], ◌∷◌, replicate, slice_get, Option, Some, None, is_some, unwrap_or}
use Rattle.std.specs.Option.{option_map, option_map_or}
use Rattle.cx_ebcdic.specs.Aids.{key_of}
use Rattle.cx_base.specs.declared.commands.Command.TheVariants.{Link}
use Rattle.cx_base.specs.declared.conditions.Condition.{Condition}
use Rattle.cx_base.specs.Commands.{row_of}
use Rattle.cx_base.specs.Conditions.{entry_of}
use Rattle.cx_storage.specs.Storage.{Storage, starts_elsewhere, with_areas_kept}
use Rattle.cx_program.specs.declared.entries.Handler.TheVariants as entry
use Rattle.cx_program.specs.declared.entries.Exit.TheVariants.{On}
use Rattle.cx_program.specs.Entries.{turned_off, turned_on}
use Rattle.cx_program.specs.Handles.{Handles, after_pop, after_push, put_entry, put_exit}
use Rattle.cx_program.specs.Levels.{with_current}
use Rattle.cx_service.specs.Queues.{Queues, item_of, with_item, with_item_at, with_last_read, without_queue}
use Rattle.cx_service.specs.Resources.{Resources, dequeue, enqueue}
use Rattle.cx_service.specs.Screen.{ShowsText}
use Rattle.cx_region_state.specs.declared.report.CommandReport.{CommandReport}
use Rattle.cx_region_state.specs.declared.inputs.StorageSpan.{StorageSpan}
use Rattle.cx_region_state.specs.declared.listed.Listed.{Listed}
use Rattle.cx_region_state.specs.declared.outputs.Output.{Output}
use Rattle.cx_region_state.specs.Report.{with_report, resource_of}
use Rattle.cx_region_state.specs.Call.{Call}
use Rattle.cx_region_state.specs.Outputs.{put_out}
use Rattle.cx_region_state.specs.declared.verdict.TaskChange.{TaskChange}
use Rattle.cx_region_state.specs.declared.verdict.TaskChange.TheVariants.{Before, After, Gets, Enters, Replaces, LevelEnds, TaskEnds}
use Rattle.cx_region_state.specs.declared.verdict.Copying.{Copying}
use Rattle.cx_region_state.specs.declared.verdict.AfterOutputs.TheVariants.{TakesInput, MarksRead, QueueGone, Dequeues, Frees}
use Rattle.cx_region_state.specs.declared.verdict.Fill.{Fill}
use Rattle.cx_region_state.specs.declared.verdict.Fill.TheVariants.{Byte, Item}
use Rattle.cx_region_state.specs.declared.verdict.Got.{Got}
use Rattle.cx_region_state.specs.declared.verdict.BeforeOutputs.TheVariants as made
use Rattle.cx_region_state.specs.declared.verdict.NewLevel.{NewLevel}
use Rattle.cx_region_state.specs.declared.verdict.RequestedTransaction.{RequestedTransaction}
use Rattle.cx_region_state.specs.declared.verdict.Request.{Request}
use Rattle.cx_region_state.specs.declared.verdict.Request.TheVariants as request
use Rattle.cx_region_state.specs.State.{NextTransaction, TaskContext, TaskState, with_storage}
use Rattle.cx_region_state.specs.Areas.{bytes_in, got_owner, length_or_zero, with_cap, with_copied, with_copy_area, with_filled, with_stg_area}
use Rattle.cx_region_state.specs.Verdicts.{handed_over}

-- ---- the parts that a change replaces
abbrev pub with_queues : TaskContext → Queues → TaskContext
with_queues r queues = record r { shared = record r.shared { queues = queues } }

abbrev pub with_resources : TaskContext → Resources → TaskContext
with_resources r resources = record r { shared = record r.shared { resources = resources } }

abbrev pub with_handles : TaskState → Handles → TaskState
with_handles task handles =
    record task { levels = with_current task.levels (record task.levels.current { handles = handles }) }

-- ---- handles
-- HANDLE CONDITION: a label takes control; without one the condition has no entry any more
unfoldable pub with_labels : List Listed → Handles → Handles
with_labels [] handles = handles
with_labels (listed ∷ rest) handles =
    with_labels rest (put_entry handles listed.condition (option_map_or entry.Label listed.label entry.NoEntry))

-- IGNORE CONDITION
unfoldable pub with_ignored : List Listed → Handles → Handles
with_ignored [] handles = handles
with_ignored (listed ∷ rest) handles = with_ignored rest (put_entry handles listed.condition entry.Ignored)

-- the handles of a level after a request
unfoldable pub after_request : Request → Handles → Handles
after_request (request.Handle listed) handles = with_labels listed handles
after_request (request.Ignore listed) handles = with_ignored listed handles
after_request request.Push handles = after_push handles
after_request request.Pop handles = unwrap_or (after_pop handles.kept) handles
after_request (request.SetExit label) handles = put_exit handles (On label)
after_request request.ExitOff handles = put_exit handles (turned_off handles.active.exit)
after_request request.ExitOn handles = put_exit handles (turned_on handles.active.exit)

-- ---- made: before the outputs
-- the text is shown, and nothing else changes
pub record ShowsPiece (piece : StorageSpan) (erase : Bool) (before after : TaskContext) : Type 0 where
  pub text : ShowsText before.terminal_entry.screen (bytes_in before.shared.storage piece) erase
      after.terminal_entry.screen
  pub others : after
      ≡ record before { terminal_entry = record before.terminal_entry { screen = after.terminal_entry.screen } }

-- what an area is filled with
abbrev pub fill_bytes : Fill → ℕ → Queues → List ℕ
fill_bytes (Byte b) len queues = replicate len b
fill_bytes (Item name n) len queues = unwrap_or (item_of queues name n) []

unfoldable pub with_got : Storage → Queues → ℕ → Got → Storage
with_got storage queues slot got =
    with_filled storage got.place got.len (got_owner slot) (fill_bytes got.fill got.len queues)

-- the next transaction, with the COMMAREA's bytes; none without one
unfoldable pub kept_next : Storage → Option RequestedTransaction → Option NextTransaction
kept_next storage next =
    option_map (λ next. record { tran = next.tran; commarea = option_map_or (bytes_in storage) next.commarea [] }) next

-- storage with the DFHEISTG of a level that begins
unfoldable pub with_stg : Storage → ℕ → NewLevel → Storage
with_stg storage slot level = with_cap (with_stg_area storage slot level) level

-- storage with the areas of a level that begins in place of another: the copy of its COMMAREA, and its DFHEISTG
unfoldable pub with_replacement : Storage → ℕ → Option Copying → NewLevel → Storage
with_replacement storage slot copying level =
    let bytes = option_map_or (λ copying. bytes_in storage copying.from) copying [] in
    with_cap (with_copied (with_stg_area (with_copy_area storage slot copying) slot level) copying bytes) level

-- what is made
unfoldable pub AppliesBefore : TaskChange → TaskContext → TaskContext → Type 0
AppliesBefore (Before (made.ItemLast name piece)) before after =
    after ≡ with_queues before (with_item before.shared.queues name (bytes_in before.shared.storage piece))
AppliesBefore (Before (made.ItemAt name n piece)) before after =
    after ≡ with_queues before (with_item_at before.shared.queues name n (bytes_in before.shared.storage piece))
AppliesBefore (Before (made.Enqueues resource)) before after =
    after ≡ with_resources before (enqueue before.shared.resources before.terminal_entry.slot resource)
AppliesBefore (Before (made.Shows piece erase)) before after = ShowsPiece piece erase before after
AppliesBefore (Before (made.Handles request)) before after =
    after ≡ record before { task = with_handles before.task (after_request request before.task.levels.current.handles) }
AppliesBefore (Gets got) before after =
    after ≡ with_storage before (with_got before.shared.storage before.shared.queues before.terminal_entry.slot got)
AppliesBefore (Enters level) before after =
    after ≡ with_storage before (with_stg before.shared.storage before.terminal_entry.slot level)
AppliesBefore (Replaces copying level) before after =
    after ≡ with_storage before (with_replacement before.shared.storage before.terminal_entry.slot copying level)
AppliesBefore (TaskEnds next) before after =
    after ≡ record before {
      terminal_entry = record before.terminal_entry { following = kept_next before.shared.storage next };
    }
AppliesBefore _ before after = after ≡ before

-- ---- the outputs, of the text that the command hands over
unfoldable pub write_outputs : Call → List Output → TaskChange → TaskContext → TaskContext
write_outputs call outputs change r = with_storage r (put_out r.shared.storage call (handed_over change r) outputs)

-- ---- the report in the EIB, and RESP's word
-- What a change adds to it: RECEIVE the key of its input; a level that begins the length of its COMMAREA; RETURN to a
-- level, which goes on after its LINK, that command and the EIBCALEN of the level.
abbrev pub with_change : TaskChange → TaskContext → CommandReport → CommandReport
with_change (After TakesInput) r answer =
    record answer { aid = option_map (λ held. (key_of held.aid).code) r.terminal_entry.input }
with_change (Enters level) r answer = record answer { calen = Some (length_or_zero level.commarea) }
with_change (Replaces copying level) r answer = record answer { calen = Some (length_or_zero level.commarea) }
with_change LevelEnds r answer =
    record answer {
      function = (row_of Link).function;
      calen = option_map (λ caller. caller.calen) (slice_get r.task.levels.callers 0);
    }
with_change _ r answer = answer

unfoldable pub report_of : Call → Condition → TaskChange → TaskContext → CommandReport
report_of call condition change r =
    with_change change r (record {
      function = (row_of call.command).function;
      condition = (entry_of condition).number;
      resource = resource_of r.shared.storage call;
      aid = None;
      calen = None;
    })

unfoldable pub write_report : Call → CommandReport → TaskContext → TaskContext
write_report call answer r = with_storage r (with_report r.shared.storage r.task.eib call answer)

-- ---- ended: after RESP's word
-- an item that fills an area is the one last read
abbrev pub read_for : Fill → TaskContext → TaskContext
read_for (Byte b) r = r
read_for (Item name n) r = with_queues r (with_last_read r.shared.queues name n)

unfoldable pub apply_after : TaskChange → TaskContext → TaskContext
apply_after (After TakesInput) r = record r { terminal_entry = record r.terminal_entry { input = None } }
apply_after (After (MarksRead name reading)) r = with_queues r (with_last_read r.shared.queues name reading.number)
apply_after (After (QueueGone name)) r = with_queues r (without_queue r.shared.queues name)
apply_after (After (Dequeues resource)) r = with_resources r (dequeue r.shared.resources r.terminal_entry.slot resource)
apply_after (After (Frees place)) r = with_storage r (with_areas_kept (starts_elsewhere place) r.shared.storage)
apply_after (Gets got) r = read_for got.fill r
apply_after _ r = r

-- ---- all of it, in its order: the inputs and the report's resource are those that the command found
pub record Commits (call : Call) (condition : Condition) (outputs : List Output) (change : TaskChange)
    (before after : TaskContext) : Type 0 where
  pub made : TaskContext
  pub applied : AppliesBefore change before made
  pub committed : after
      ≡ apply_after change
      (write_report call (report_of call condition change before) (write_outputs call outputs change made))

-- ---- memory: the changes that take some
abbrev pub change_takes_memory : TaskChange → Bool
change_takes_memory (Before (made.ItemLast name piece)) = true
change_takes_memory (Before (made.ItemAt name n piece)) = true
change_takes_memory (Before (made.Enqueues resource)) = true
change_takes_memory (Gets got) = true
change_takes_memory (Enters level) = true
change_takes_memory (Replaces copying level) = true
change_takes_memory (TaskEnds (Some next)) = is_some next.commarea
change_takes_memory _ = false
