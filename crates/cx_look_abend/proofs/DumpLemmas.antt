-- The DFHEISTG that is kept is decided, and of the machine whose registers are kept; what is kept before a turn finds it.
use Rattle.std.proofs.Common.{◌≡◌, ℕ, Bool, true, false, Option, Some, None, List, refl, sym, subst, ap, ◌∙◌}
use Rattle.std.specs.Prelude.{MatchBool, MatchOption, option_and_then}
use Rattle.std.specs.Option.{option_map}
use Rattle.cx_base.specs.declared.commands.Command.{Command}
use Rattle.cx_exec.specs.Advance.{Advances}
use Rattle.cx_exec.specs.Machine.{Machine}
use Rattle.cx_exec.specs.declared.machine.Halt.{Halt}
use Rattle.cx_exec_laws.specs.Laws.Decide.{RunsDecide}
use Rattle.cx_edf.specs.declared.answers.EdfEvent.{EdfEvent}
use Rattle.cx_edf.specs.declared.answers.EdfEvent.TheVariants as edf_event
use Rattle.cx_region.specs.State.{RegionState, TerminalState}
use Rattle.cx_region.specs.Tables.{task_of, terminal_of}
use Rattle.cx_region.specs.Turn.{TurnHasAbendRecord, context_of}
use Rattle.cx_region.specs.declared.replies.Event.TheVariants as event
use Rattle.cx_region_state.specs.State.{TaskContext, TaskState}
use Rattle.cx_region_task.specs.Decisions.{decided_command}
use Rattle.cx_region_task.specs.Performing.{decision_cause}
use Rattle.cx_region_task.specs.Turn.{HasAbendRecord, HalfTurnWith, PerformsCommand, RunsOn, abend_record_with, halt_cause, machine_of, most_steps}
use Rattle.cx_region_task.specs.declared.cause.AbendRecord.{AbendRecord}
use Rattle.cx_region_task.specs.declared.cause.Cause.{Cause}
use Rattle.cx_storage.specs.Storage.{Storage}
use Rattle.cx_look_turn.specs.NextTurn.{task_machine}
use Rattle.cx_look_turn.specs.Traces.{Leaves}
use Rattle.cx_look_abend.specs.Dumps.{Dump, HasDump, IsAtAbend, TurnHasDump, dump_at, dump_in}
use Rattle.cx_look_abend.specs.Laws.{DumpsAreOfRecords, IsOfRecord}
use Rattle.cx_look_abend.specs.Noting.{EventHasDump}
use Rattle.cx_look_abend.specs.Parts.Sources.{DumpSource, GivesDump, IsSourceAt, IsSourceOf, LevelMachine, Room, RunGives, no_source, room_of}

abbrev pub RunsAreDecided : Type 0
RunsAreDecided = (limit : ℕ) → RunsDecide (Advances limit)

-- ---- decided
machine_decides : RunsAreDecided → (s : Storage) (task : TaskState) (one other : Machine) → IsAtAbend s task one → IsAtAbend s task other → one ≡ other
unfolding IsAtAbend
machine_decides law s task one other p q = by_due task.due p q
  where
    by_due : (due : Bool) → MatchBool due (one ≡ task_machine s task) (Leaves most_steps (task_machine s task) one)
        → MatchBool due (other ≡ task_machine s task) (Leaves most_steps (task_machine s task) other) → one ≡ other
    by_due true h k = h ∙ sym k
    by_due false h k = (law most_steps (task_machine s task) h.how k.how one other h.advances k.advances).1

pub dumps_decide : RunsAreDecided → (region : RegionState) (name : List ℕ) (one other : Option Dump) → TurnHasDump region name one → TurnHasDump region name other → one ≡ other
unfolding TurnHasDump
dumps_decide law region name one other p q = by_task (task_of region name) p q
  where
    by_task : (o : Option TaskState) → MatchOption o (one ≡ None) (λ task. HasDump region.shared.storage task one)
        → MatchOption o (other ≡ None) (λ task. HasDump region.shared.storage task other) → one ≡ other
    by_task None h k = h ∙ sym k
    by_task (Some task) h k =
        let same = machine_decides law region.shared.storage task h.machine k.machine h.reached k.reached in
        h.is ∙ ap (λ (m : Machine). dump_in m.storage task.levels.current) same ∙ sym k.is

pub event_dumps_decide : RunsAreDecided → (region : RegionState) (e : EdfEvent) (one other : Option Dump) → EventHasDump region e one → EventHasDump region e other → one ≡ other
unfolding EventHasDump
event_dumps_decide law region (edf_event.Plain (event.Turn name)) one other h k = dumps_decide law region name one other h k
event_dumps_decide law region (edf_event.Plain (event.Program name image)) one other h k = h ∙ sym k
event_dumps_decide law region (edf_event.Plain (event.Transaction tran program)) one other h k = h ∙ sym k
event_dumps_decide law region (edf_event.Plain (event.Terminal name)) one other h k = h ∙ sym k
event_dumps_decide law region (edf_event.Plain (event.Clock time date)) one other h k = h ∙ sym k
event_dumps_decide law region (edf_event.Plain (event.Key name aid bytes)) one other h k = h ∙ sym k
event_dumps_decide law region (edf_event.Plain (event.Alter name change)) one other h k = h ∙ sym k
event_dumps_decide law region (edf_event.On name) one other h k = h ∙ sym k
event_dumps_decide law region (edf_event.Off name) one other h k = h ∙ sym k

-- ---- found by what is kept before
at_abend : (s : Storage) (task : TaskState) (m : Machine) (due : Bool) → due ≡ task.due → MatchBool due (m ≡ task_machine s task) (Leaves most_steps (task_machine s task) m)
    → IsAtAbend s task m
unfolding IsAtAbend
at_abend s task m due e p = subst (λ (b : Bool). MatchBool b (m ≡ task_machine s task) (Leaves most_steps (task_machine s task) m)) e p

source_gives : (s : Storage) (task : TaskState) (source : DumpSource) (dump : Option Dump) → IsSourceOf s task source → GivesDump source dump → HasDump s task dump
unfolding IsSourceOf dump_in
source_gives s task source dump of gives = by_due task.due refl of
  where
    found : DumpSource
    found = record { found = dump_in s task.levels.current; run = None }

    run : DumpSource
    run = record { found = None; run = Some (record { machine = task_machine s task; room = room_of task.levels.current }) }

    by_due : (due : Bool) → due ≡ task.due → MatchBool due (source ≡ found) (source ≡ run) → HasDump s task dump
    by_due true e is =
        let given : GivesDump found dump = subst (λ (it : DumpSource). GivesDump it dump) is gives in
        record { machine = task_machine s task; reached = at_abend s task (task_machine s task) true e refl; is = given }
    by_due false e is =
        let given : GivesDump run dump = subst (λ (it : DumpSource). GivesDump it dump) is gives in
        record { machine = given.left; reached = at_abend s task given.left false e given.leaves; is = given.is }

none_gives : (source : DumpSource) (dump : Option Dump) → source ≡ no_source → GivesDump source dump → dump ≡ None
none_gives source dump is gives = subst (λ (it : DumpSource). GivesDump it dump) is gives

source_at : (region : RegionState) (e : EdfEvent) (source : DumpSource) (dump : Option Dump) → IsSourceAt region e source → GivesDump source dump → EventHasDump region e dump
unfolding IsSourceAt EventHasDump TurnHasDump
source_at region (edf_event.Plain (event.Turn name)) source dump is gives = by_task (task_of region name) is
  where
    by_task : (o : Option TaskState) → MatchOption o (source ≡ no_source) (λ task. IsSourceOf region.shared.storage task source)
        → MatchOption o (dump ≡ None) (λ task. HasDump region.shared.storage task dump)
    by_task None none = none_gives source dump none gives
    by_task (Some task) of = source_gives region.shared.storage task source dump of gives
source_at region (edf_event.Plain (event.Program name image)) source dump is gives = none_gives source dump is gives
source_at region (edf_event.Plain (event.Transaction tran program)) source dump is gives = none_gives source dump is gives
source_at region (edf_event.Plain (event.Terminal name)) source dump is gives = none_gives source dump is gives
source_at region (edf_event.Plain (event.Clock time date)) source dump is gives = none_gives source dump is gives
source_at region (edf_event.Plain (event.Key name aid bytes)) source dump is gives = none_gives source dump is gives
source_at region (edf_event.Plain (event.Alter name change)) source dump is gives = none_gives source dump is gives
source_at region (edf_event.On name) source dump is gives = none_gives source dump is gives
source_at region (edf_event.Off name) source dump is gives = none_gives source dump is gives

pub event_gives : (region : RegionState) (e : EdfEvent) (source : DumpSource) (dump : Option Dump) (abend_record : Option AbendRecord) → IsSourceAt region e source
    → MatchOption abend_record (dump ≡ None) (λ it. GivesDump source dump) → MatchOption abend_record (dump ≡ None) (λ it. EventHasDump region e dump)
event_gives region e source dump None is gives = gives
event_gives region e source dump (Some abend_record) is gives = source_at region e source dump is gives

-- ---- of the record
some_record : (s : Storage) (task : TaskState) (command : Option Command) (m : Machine) (cause : Option Cause) (abend_record : AbendRecord) (dump : Dump)
    → Some abend_record ≡ option_map (abend_record_with command m) cause → IsAtAbend s task m → Some dump ≡ dump_in m.storage task.levels.current
    → IsOfRecord s task abend_record dump
some_record s task command m None abend_record dump e reached d = cc
some_record s task command m (Some why) abend_record dump e reached d =
    let same : abend_record ≡ abend_record_with command m why = cc in
    record { command = command; why = why; machine = m; reached = reached; recorded = same; dumped = d }

of_half : RunsAreDecided → (region : RegionState) (terminal : TerminalState) (task : TaskState) (abend_record : AbendRecord) (dump : Dump)
    → HasAbendRecord (context_of region terminal task) (Some abend_record) → HasDump region.shared.storage task (Some dump)
    → IsOfRecord region.shared.storage task abend_record dump
unfolding HalfTurnWith
of_half law region terminal task abend_record dump it d = by_due task.due refl it.turns
  where
    s : Storage
    s = region.shared.storage

    before : TaskContext
    before = context_of region terminal task

    dumped : (m : Machine) → IsAtAbend s task m → Some dump ≡ dump_in m.storage task.levels.current
    dumped m reached =
        d.is ∙ ap (λ (x : Machine). dump_in x.storage task.levels.current) (machine_decides law s task d.machine m d.reached reached)

    by_due : (due : Bool) → due ≡ task.due → MatchBool due (PerformsCommand before it.reply (Some abend_record) it.after) (RunsOn before it.reply (Some abend_record) it.after)
        → IsOfRecord s task abend_record dump
    by_due true e p =
        let reached = at_abend s task (machine_of before) true e refl in
        some_record s task (decided_command p.decided) (machine_of before) (decision_cause p.decided) abend_record dump p.recorded reached
        (dumped (machine_of before) reached)
    by_due false e p =
        let m : Machine = machine_of p.between in
        let reached = at_abend s task m false e (record { how = p.how; advances = p.advances }) in
        some_record s task None m (halt_cause p.how) abend_record dump p.recorded reached (dumped m reached)

pub dumps_are_of_records : RunsAreDecided → DumpsAreOfRecords
unfolding TurnHasAbendRecord TurnHasDump
dumps_are_of_records law region name task abend_record dump there recorded dumped = by_terminal (terminal_of region name) there recorded dumped
  where
    by_task : (terminal : TerminalState) (o : Option TaskState) → o ≡ Some task
        → MatchOption o (Some abend_record ≡ None) (λ it. HasAbendRecord (context_of region terminal it) (Some abend_record))
        → MatchOption o (Some dump ≡ None) (λ it. HasDump region.shared.storage it (Some dump)) → IsOfRecord region.shared.storage task abend_record dump
    by_task terminal None e r d = cc
    by_task terminal (Some other) e r d =
        let same : other ≡ task = cc in
        subst (λ (t : TaskState). IsOfRecord region.shared.storage t abend_record dump) same (of_half law region terminal other abend_record dump r d)

    by_terminal : (o : Option TerminalState) → option_and_then (λ terminal. terminal.task) o ≡ Some task
        → MatchOption o (Some abend_record ≡ None) (λ terminal. MatchOption terminal.task (Some abend_record ≡ None) (λ it. HasAbendRecord (context_of region terminal it) (Some abend_record)))
        → MatchOption (option_and_then (λ terminal. terminal.task) o) (Some dump ≡ None) (λ it. HasDump region.shared.storage it (Some dump))
        → IsOfRecord region.shared.storage task abend_record dump
    by_terminal None e r d = cc
    by_terminal (Some terminal) e r d = by_task terminal terminal.task e r d

-- ---- what a run leaves
pub run_gives : (it : LevelMachine) (machine : Machine) (room : Room) (how : Halt) (left : Machine) (s : Storage) (dump : Option Dump)
    → it ≡ record { machine = machine; room = room } → Advances most_steps machine how left → s ≡ left.storage
    → dump ≡ dump_at s room.program room.at room.n → RunGives it dump
run_gives it machine room how left s dump same advances stored is =
    rw same (record {
      left = left;
      leaves = record { how = how; advances = advances };
      is = is ∙ ap (λ (x : Storage). dump_at x room.program room.at room.n) stored;
    })
