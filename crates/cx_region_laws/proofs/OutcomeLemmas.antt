-- Each half-turn and each event has an outcome, and each list of events is a run.
use Rattle.std.proofs.Common.{◌≡◌, ℕ, ◌+◌, Bool, true, false, ◌&&◌, Option, Some, None, List, [], ◌∷◌, length, refl, sym, subst}
use Rattle.std.specs.Prelude.{MatchBool, MatchOption, MatchResult, Result, Ok, Err, nat_lt}
use Rattle.indexmap.specs.IndexMap.{insert_entry}
use Rattle.cx_ebcdic.specs.Names.{is_name}
use Rattle.cx_code.specs.declared.image.Image.{Image}
use Rattle.cx_base.specs.declared.abends.Abend.TheVariants as abend
use Rattle.cx_base.specs.declared.commands.Command.{Command}
use Rattle.cx_base.specs.declared.commands.Command.TheVariants as command
use Rattle.cx_base.specs.declared.options.OptionName.TheVariants as option
use Rattle.cx_base.specs.Abends.{abend_code}
use Rattle.cx_exec.specs.declared.machine.Halt.{Halt}
use Rattle.cx_exec.specs.declared.machine.Halt.TheVariants as halt
use Rattle.cx_load.specs.Fault.{IsFit}
use Rattle.cx_load.specs.declared.program.Loaded.{Loaded}
use Rattle.cx_load.specs.Program.{IsProgramPlace, first_of_programs, last_of_programs}
use Rattle.cx_program.specs.Levels.{Levels}
use Rattle.cx_region_state.specs.Call.{Call, call_of}
use Rattle.cx_region_state.specs.Inputs.{are_inputs_there}
use Rattle.cx_service.specs.Lines.{AreLinesOf}
use Rattle.cx_storage.specs.Storage.{Storage}
use Rattle.cx_region_commands.specs.CommandVerdicts.{HasVerdict, JudgedBy}
use Rattle.cx_region_commands.specs.Common.{AtPlace, commarea_of, condition_alone, has, name_at, named_program}
use Rattle.cx_region_commands.specs.Getmain.{GetmainRow, asked_len, is_area_length}
use Rattle.cx_region_commands.specs.Link.{LinkRow, Links}
use Rattle.cx_region_commands.specs.ReadqTs.{ReadqRow, ReadsQueueItem}
use Rattle.cx_region_commands.specs.Xctl.{Copies, Transfers, XctlRow, XctlTo, copying_to, replaces}
use Rattle.cx_region_commands.specs.declared.common.Called.{Called}
use Rattle.cx_service.specs.declared.queues.Reading.{Reading}
use Rattle.cx_region_state.specs.Inputs.{halfword_of, is_length_negative}
use Rattle.cx_region_state.specs.declared.call.CallFault.{CallFault}
use Rattle.cx_region_state.specs.declared.inputs.StorageSpan.{StorageSpan}
use Rattle.cx_region_state.specs.Areas.{bytes_in, first_of_tasks, last_of_tasks, with_copy_area}
use Rattle.cx_region_state.specs.State.{Input, TaskContext, TaskState}
use Rattle.cx_region_state.specs.declared.replies.TurnReply.{TurnReply}
use Rattle.cx_region_state.specs.declared.replies.TurnReply.TheVariants as turn
use Rattle.cx_region_state.specs.declared.verdict.BeforeOutputs.{BeforeOutputs}
use Rattle.cx_region_state.specs.declared.verdict.BeforeOutputs.TheVariants as made
use Rattle.cx_region_state.specs.declared.verdict.TaskChange.{TaskChange}
use Rattle.cx_region_state.specs.declared.verdict.TaskChange.TheVariants.{Before, Gets, Enters, Replaces, TaskEnds}
use Rattle.cx_region_state.specs.declared.verdict.Verdict.{Verdict}
use Rattle.cx_region_state.specs.declared.verdict.Verdict.TheVariants.{Refuses}
use Rattle.cx_region_task.specs.Decisions.{decision_by}
use Rattle.cx_region_task.specs.Changes.{AppliesBefore, apply_after, report_of, write_outputs, write_report}
use Rattle.cx_region_task.specs.Performing.{CarriesOut, Decides, DecidesCall, Does, LeavesAll, fault_abend, argument_list}
use Rattle.cx_region_task.specs.declared.cause.AbendRecord.{AbendRecord}
use Rattle.cx_region_task.specs.declared.decision.Act.{Act}
use Rattle.cx_region_task.specs.declared.decision.Decision.{Decision}
use Rattle.cx_region_task.specs.declared.decision.Decision.TheVariants as decision
use Rattle.cx_region_task.specs.Turn.{EndsRun, HalfTurnWith, PerformsCommand, RunsOn, after_machine, machine_of}
use Rattle.cx_service.specs.Queues.{Queues, queue_of, reading_of_queue}
use Rattle.cx_service.specs.Screen.{screen_before_text, with_lines}
use Rattle.cx_base.specs.declared.conditions.Condition.TheVariants.{Itemerr}
use Rattle.cx_region.specs.Alter.{Alters, alter_refusal, altered_region}
use Rattle.cx_region.specs.Attach.{Gives, OnlyAnswers, StartsTask, TakesKey, input_from, transaction_named}
use Rattle.cx_region.specs.Defining.{DefinesProgram, DefinesTerminal, DefinesTransaction, LoadsProgram, program_fault, terminal_fault, transaction_fault}
use Rattle.cx_region.specs.Events.{Applies, Run}
use Rattle.cx_region.specs.State.{RegionState, TerminalState}
use Rattle.cx_region.specs.Tables.{fresh_terminal, program_of, terminal_of, transaction_of}
use Rattle.cx_region.specs.Turn.{TakesTurn, TaskTakesTurn, context_of, put_back, task_after}
use Rattle.cx_region.specs.declared.changes.AlterReply.{AlterReply}
use Rattle.cx_region.specs.declared.changes.AlterReply.TheVariants as alter
use Rattle.cx_region.specs.declared.changes.Change.{Change}
use Rattle.cx_region.specs.declared.replies.DefineFault.{DefineFault}
use Rattle.cx_region.specs.declared.replies.DefineFault.TheVariants.{NoRoom}
use Rattle.cx_region.specs.declared.replies.Event.TheVariants as event
use Rattle.cx_region.specs.declared.replies.KeyReply.{KeyReply}
use Rattle.cx_region.specs.declared.replies.KeyReply.TheVariants as key
use Rattle.cx_region.specs.declared.replies.Reply.TheVariants as reply
use Rattle.cx_region_laws.specs.Laws.Outcomes.{AdvancesHaveOutcomes, EventListsAreRuns, EventsHaveOutcomes, HalfTurnsHaveEnds, HasEnd}
use Rattle.cx_region_laws.proofs.LoadedLemmas.{ImagesAreLoaded}
use Rattle.cx_region_laws.proofs.EndingLemmas.{Answered, Ended, abends_somehow, attaches_somehow, found_place, goes_somehow}

-- every text has lines
abbrev pub HaveLines : Type 0
HaveLines = (text : List ℕ) → (lines : List (List ℕ)) × AreLinesOf text lines

-- ---- one of two, whatever is tested
abbrev Found : {X : Type 0} → (X → Type 0) → Type 0
Found {X} P = (x : X) × P x

either : {X : Type 0} (A B : X → Type 0) (b : Bool) → Found A → Found B → Found (λ x. MatchBool b (A x) (B x))
either A B true one other = one
either A B false one other = other

optional : {X Y : Type 0} (A : X → Type 0) (F : Y → X → Type 0) (o : Option Y) → Found A → ((y : Y) → Found (F y)) → Found (λ x. MatchOption o (A x) (λ y. F y x))
optional A F None none some = none
optional A F (Some y) none some = some y

-- ---- verdicts
at_place : (storage : Storage) (len : ℕ) (row : Option ℕ → Verdict) → Found (AtPlace storage len row)
at_place storage len row =
    let found = found_place storage first_of_tasks last_of_tasks len in
    (row found.0, record { place = found.0; least = found.1; is = refl })

getmain : (storage : Storage) (call : Call) → Found (GetmainRow storage call)
unfolding GetmainRow
getmain storage call = either _ _ (is_area_length (asked_len storage call)) (at_place _ _ _) (_, refl)

links : (storage : Storage) (call : Call) (levels : Levels) (called : Called) → Found (Links storage call levels called)
unfolding Links
links storage call levels called = either _ _ (nat_lt (length levels.callers) 15) (at_place _ _ _) (_, refl)

link : (storage : Storage) (programs : List (List ℕ × Loaded)) (levels : Levels) (call : Call) → Found (LinkRow storage programs levels call)
unfolding LinkRow
link storage programs levels call =
    either _ _ (is_length_negative storage call) (_, refl)
    (optional _ (λ called verdict. Links storage call levels called verdict) (named_program storage call programs) (_, refl) (λ called. links storage call levels called))

reads : (storage : Storage) (call : Call) (name : List ℕ) (reading : Reading) → Found (ReadsQueueItem storage call name reading)
unfolding ReadsQueueItem
reads storage call name reading = either _ _ (has call option.Set) (at_place _ _ _) (_, refl)

reads_in : (storage : Storage) (call : Call) (name : List ℕ) (o : Option Reading)
    → Found (λ verdict. MatchOption o (verdict ≡ condition_alone Itemerr) (λ reading. ReadsQueueItem storage call name reading verdict))
reads_in storage call name o = optional _ (λ reading verdict. ReadsQueueItem storage call name reading verdict) o (_, refl) (reads storage call name)

readq : (storage : Storage) (queues : Queues) (call : Call) → Found (ReadqRow storage queues call)
unfolding ReadqRow
readq storage queues call =
    let name = name_at storage call option.Queue in
    let asked = halfword_of storage call option.Item in
    either _ _ (has call option.Into && is_length_negative storage call) (_, refl)
    (optional _
    (λ queue verdict. MatchOption (reading_of_queue asked queue) (verdict ≡ condition_alone Itemerr) (λ reading. ReadsQueueItem storage call name reading verdict))
    (queue_of queues name) (_, refl) (λ queue. reads_in storage call name (reading_of_queue asked queue)))

copies_to : (storage : Storage) (slot : ℕ) (called : Called) (piece : StorageSpan) → (place : Option ℕ)
    → Found (λ verdict. MatchOption place (verdict ≡ Refuses abend.Xstg) (λ to. Transfers storage slot called (Some (copying_to piece to)) verdict))
copies_to storage slot called piece None = (_, refl)
copies_to storage slot called piece (Some to) = at_place (with_copy_area storage slot (Some (copying_to piece to))) called.loaded.stg_len (replaces called (Some (copying_to piece to)))

copies : (storage : Storage) (slot : ℕ) (called : Called) (piece : StorageSpan) → Found (Copies storage slot called piece)
copies storage slot called piece =
    let found = found_place storage first_of_tasks last_of_tasks piece.len in
    let goes = copies_to storage slot called piece found.0 in
    (goes.0, record { place = found.0; least = found.1; goes = goes.1 })

xctl_to : (storage : Storage) (slot : ℕ) (call : Call) (called : Called) → Found (XctlTo storage slot call called)
unfolding XctlTo
xctl_to storage slot call called =
    optional _ (λ piece verdict. Copies storage slot called piece verdict) (commarea_of storage call)
    (at_place (with_copy_area storage slot None) called.loaded.stg_len (replaces called None)) (λ piece. copies storage slot called piece)

xctl : (storage : Storage) (slot : ℕ) (programs : List (List ℕ × Loaded)) (call : Call) → Found (XctlRow storage slot programs call)
unfolding XctlRow
xctl storage slot programs call =
    either _ _ (is_length_negative storage call) (_, refl)
    (optional _ (λ called verdict. XctlTo storage slot call called verdict) (named_program storage call programs) (_, refl) (λ called. xctl_to storage slot call called))

judged : (c : Command) (call : Call) (r : TaskContext) → Found (JudgedBy c call r)
judged command.ReadqTs call r = readq r.shared.storage r.shared.queues call
judged command.Getmain call r = getmain r.shared.storage call
judged command.Link call r = link r.shared.storage r.shared.programs r.task.levels call
judged command.Xctl call r = xctl r.shared.storage r.terminal_entry.slot r.shared.programs call
judged _ call r = (_, refl)

has_verdict : (call : Call) (r : TaskContext) → Found (HasVerdict call r)
unfolding HasVerdict
has_verdict call r = judged call.command call r

-- ---- what a verdict leads to
made_of : HaveLines → (it : BeforeOutputs) (before : TaskContext) → Found (AppliesBefore (Before it) before)
unfolding AppliesBefore
made_of law (made.ItemLast name piece) before = (_, refl)
made_of law (made.ItemAt name n piece) before = (_, refl)
made_of law (made.Enqueues resource) before = (_, refl)
made_of law (made.Shows piece erase) before =
    let lines = law (bytes_in before.shared.storage piece) in
    let screen : List (List ℕ) = with_lines (screen_before_text before.terminal_entry.screen erase) lines.0 in
    (record before { terminal_entry = record before.terminal_entry { screen = screen } }, record { text = record { lines = lines.0; are_lines = lines.1; over = refl }; others = refl })
made_of law (made.Handles request) before = (_, refl)

applied : HaveLines → (change : TaskChange) (before : TaskContext) → Found (AppliesBefore change before)
unfolding AppliesBefore
applied law (Before it) before = made_of law it before
applied law (Gets got) before = (_, refl)
applied law (Enters level) before = (_, refl)
applied law (Replaces copying level) before = (_, refl)
applied law (TaskEnds next) before = (_, refl)
applied law _ before = (_, refl)

does : HaveLines → (act : Act) (before : TaskContext) → Ended (Does act before)
does law act before =
    let made = applied law act.change before in
    let committed = apply_after act.change (write_report act.call (report_of act.call act.condition act.change before) (write_outputs act.call act.outputs act.change made.0)) in
    let end = goes_somehow act.continuation act.condition committed in
    (end.0, end.1, record { committed = committed; commits = record { made = made.0; applied = made.1; committed = refl }; goes = end.2 })

leaves_all : (before : TaskContext) → Ended (LeavesAll before)
leaves_all before = (turn.Waiting, before, record { waiting = refl; same = refl })

carries_out : HaveLines → (decided : Decision) (before : TaskContext) → Ended (CarriesOut decided before)
unfolding CarriesOut
carries_out law (decision.Refuse call refusal) before = abends_somehow (abend_code refusal) false before
carries_out law (decision.Wait call wait) before = leaves_all before
carries_out law (decision.Act act) before = does law act before

decides_call : (call : Call) (before : TaskContext) → Found (DecidesCall call before)
decides_call call before = let verdict = has_verdict call before in (decision_by call verdict.0 before, record { verdict = verdict.0; judged = verdict.1; is = refl })

decides : (before : TaskContext) → Found (Decides before)
unfolding Decides
decides before = go (call_of before.shared.storage (argument_list before.task))
  where
    go : (r : Result Call CallFault)
        → Found (λ decided. MatchResult r (λ call. MatchBool (are_inputs_there before.shared.storage call) (DecidesCall call before decided) (decided ≡ decision.Refuse (Some call) abend.Xarg))
        (λ fault. decided ≡ decision.Refuse None (fault_abend fault)))
    go (Ok call) = either _ _ (are_inputs_there before.shared.storage call) (decides_call call before) (_, refl)
    go (Err fault) = (_, refl)

-- ---- half-turns
ends_run : (how : Halt) (before : TaskContext) → Ended (EndsRun how before)
unfolding EndsRun
ends_run halt.AtEntry before = (turn.AtCommand, _, (refl, refl))
ends_run (halt.Interrupt cause place) before = abends_somehow (abend_code abend.Asra) false before
ends_run halt.Limit before = abends_somehow (abend_code abend.Aica) false before

pub half_turns_have_ends : AdvancesHaveOutcomes → HaveLines → HalfTurnsHaveEnds
unfolding HalfTurnWith
half_turns_have_ends advance law before = go before.task.due refl
  where
    turned : (b : Bool) → before.task.due ≡ b → (reply : TurnReply) (abend_record : Option AbendRecord) (after : TaskContext)
        → MatchBool b (PerformsCommand before reply abend_record after) (RunsOn before reply abend_record after) → HasEnd before
    turned b due reply abend_record after turns =
        let whole = subst (λ b. MatchBool b (PerformsCommand before reply abend_record after) (RunsOn before reply abend_record after)) (sym due) turns in
        record { reply = reply; after = after; half_turn = record { abend_record = abend_record; turns = whole } }

    go : (b : Bool) → before.task.due ≡ b → HasEnd before
    go true due =
        let decided = decides before in
        let end = carries_out law decided.0 before in
        turned true due end.0 _ end.1 (record { decided = decided.0; decides = decided.1; carries = end.2; recorded = refl })
    go false due =
        let ran = advance (machine_of before) in
        let between : TaskContext = after_machine before ran.after in
        let end = ends_run ran.how between in
        turned false due end.0 _ end.1 (record { how = ran.how; between = between; advances = ran.advances; rest = refl; ends = end.2; recorded = refl })

-- ---- events
optional_key : {Y : Type 0} (A : KeyReply → RegionState → Type 0) (F : Y → KeyReply → RegionState → Type 0) (o : Option Y) → Answered A → ((y : Y) → Answered (F y))
    → Answered (λ reply new. MatchOption o (A reply new) (λ y. F y reply new))
optional_key A F None none some = none
optional_key A F (Some y) none some = some y

only_answers : (due : KeyReply) (old : RegionState) → Answered (OnlyAnswers due old)
only_answers due old = (due, old, (refl, refl))

starts : (old : RegionState) (name : List ℕ) (terminal : TerminalState) (input : Input) (tran : List ℕ) → Answered (StartsTask old name terminal input tran)
starts old name terminal input tran =
    optional_key _ _ (transaction_of old tran) (only_answers key.NoSuchTransaction old)
    (λ program. optional_key _ _ (program_of old program) (only_answers key.NoSuchTransaction old) (λ loaded. attaches_somehow old name terminal input tran program loaded))

gives : (old : RegionState) (name : List ℕ) (terminal : TerminalState) (input : Input) → Answered (Gives old name terminal input)
gives old name terminal input = optional_key _ _ terminal.entry.input (key.Given, _, (refl, refl)) (λ held. only_answers key.AlreadyHeldInput old)

takes_key : (old : RegionState) (name : List ℕ) (input : Input) → Answered (TakesKey old name input)
unfolding TakesKey
takes_key old name input =
    optional_key _ _ (terminal_of old name) (only_answers key.NoSuchTerminal old)
    (λ terminal. optional_key _ _ terminal.task (starts old name terminal input (transaction_named terminal.entry.following input.bytes)) (λ task. gives old name terminal input))

abbrev TurnEnds : (TurnReply → RegionState → Type 0) → Type 0
TurnEnds P = (reply : TurnReply) × (new : RegionState) × P reply new

optional_turn : {Y : Type 0} (A : TurnReply → RegionState → Type 0) (F : Y → TurnReply → RegionState → Type 0) (o : Option Y) → TurnEnds A → ((y : Y) → TurnEnds (F y))
    → TurnEnds (λ reply new. MatchOption o (A reply new) (λ y. F y reply new))
optional_turn A F None none some = none
optional_turn A F (Some y) none some = some y

takes_turn : HalfTurnsHaveEnds → (old : RegionState) (name : List ℕ) → TurnEnds (TakesTurn old name)
unfolding TakesTurn
takes_turn law old name =
    optional_turn _ _ (terminal_of old name) (turn.NoSuchTerminal, old, (refl, refl))
    (λ terminal. optional_turn _ _ terminal.task (turn.Idle, old, (refl, refl)) (λ task. task_takes terminal task))
  where
    task_takes : (terminal : TerminalState) (task : TaskState) → TurnEnds (TaskTakesTurn old name terminal task)
    task_takes terminal task =
        let end = law (context_of old terminal task) in
        (end.reply, put_back old name end.after (task_after end.reply end.after.task), record { reached = end.after; half_turn = end.half_turn; after = refl })

alters : (old : RegionState) (name : List ℕ) (change : Change) → (reply : AlterReply) × (new : RegionState) × Alters old name change reply new
unfolding Alters
alters old name change = go (alter_refusal old name change)
  where
    go : (o : Option AlterReply) → (reply : AlterReply) × (new : RegionState) × MatchOption o ((reply ≡ alter.Altered) × (new ≡ altered_region old name change)) (λ refusal. (reply ≡ refusal) × (new ≡ old))
    go None = (alter.Altered, altered_region old name change, (refl, refl))
    go (Some refusal) = (refusal, old, (refl, refl))

-- what a definition does
abbrev Defined : {A : Type 0} → (Result A DefineFault → RegionState → Type 0) → Type 0
Defined {A} P = (result : Result A DefineFault) × (new : RegionState) × P result new

by_fault : {A : Type 0} (P : Result A DefineFault → RegionState → Type 0) (o : Option DefineFault) (old : RegionState) → Defined P
    → Defined (λ result new. MatchOption o (P result new) (λ fault. (result ≡ Err fault) × (new ≡ old)))
by_fault P None old defined = defined
by_fault P (Some fault) old defined = (Err fault, old, (refl, refl))

loads : ImagesAreLoaded → (old : RegionState) (name : List ℕ) (image : Image) → IsFit image → Defined (LoadsProgram old name image)
loads loading old name image fit = go (found_place old.shared.storage first_of_programs last_of_programs (length image.text))
  where
    go : (place : Option ℕ) × IsProgramPlace old.shared.storage (length image.text) place → Defined (LoadsProgram old name image)
    go (None, none) = (Err NoRoom, old, (none, refl))
    go (Some at, place) =
        let done = loading old.shared.storage image at fit place in
        (Ok done.0, record old { shared = record old.shared { programs = insert_entry is_name old.shared.programs name done.0; storage = done.1 } }, (done.2, refl))

pub events_have_outcomes : ImagesAreLoaded → HalfTurnsHaveEnds → EventsHaveOutcomes
unfolding Applies DefinesProgram DefinesTransaction DefinesTerminal
events_have_outcomes loading law old (event.Program name image) fit =
    let end = by_fault (LoadsProgram old name image) (program_fault old name) old (loads loading old name image fit) in
    record { reply = reply.Program end.0; new = end.1; applies = end.2 }
events_have_outcomes loading law old (event.Transaction tran program) fit =
    let end = by_fault (λ result new. (result ≡ Ok tt) × (new ≡ record old { transactions = insert_entry is_name old.transactions tran program })) (transaction_fault old tran program) old (Ok tt, _, (refl, refl)) in
    record { reply = reply.Transaction end.0; new = end.1; applies = end.2 }
events_have_outcomes loading law old (event.Terminal name) fit =
    let end = by_fault (λ result new. (result ≡ Ok tt) × (new ≡ record old { terminals = insert_entry is_name old.terminals name (fresh_terminal (length old.terminals + 1)) })) (terminal_fault old name) old (Ok tt, _, (refl, refl)) in
    record { reply = reply.Terminal end.0; new = end.1; applies = end.2 }
events_have_outcomes loading law old (event.Clock time date) fit = record { reply = reply.Clock; new = _; applies = refl }
events_have_outcomes loading law old (event.Key name aid bytes) fit =
    let end = takes_key old name (input_from aid bytes) in record { reply = reply.Key end.0; new = end.1; applies = end.2 }
events_have_outcomes loading law old (event.Turn name) fit =
    let end = takes_turn law old name in record { reply = reply.Turn end.0; new = end.1; applies = end.2 }
events_have_outcomes loading law old (event.Alter name change) fit =
    let end = alters old name change in record { reply = reply.Alter end.0; new = end.1; applies = end.2 }

pub event_lists_are_runs : EventsHaveOutcomes → EventListsAreRuns
unfolding Run
event_lists_are_runs law old [] fit = record { replies = []; new = old; run = refl }
event_lists_are_runs law old (e ∷ events) fit =
    let one = law old e fit.0 in
    let rest = event_lists_are_runs law one.new events fit.1 in
    record { replies = one.reply ∷ rest.replies; new = rest.new; run = (one.new, one.applies, rest.run) }
