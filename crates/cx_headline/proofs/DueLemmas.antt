-- Where a command is due, the current level keeps what its program has at it.
use Rattle.std.proofs.Common.{◌≡◌, ℕ, Bool, true, false, Option, Some, None, List, [], ◌∷◌, length, refl, sym, ◌∙◌, ap, subst, inl, inr}
use Rattle.std.specs.Prelude.{◌+◌, MatchOption, Result, Ok, Err, if◌then◌else◌}
use Rattle.std.specs.Option.{option_and_then, option_map_or}
use Rattle.std.specs.Map.{lookup, set_value}
use Rattle.std.proofs.lemmas.Bool.{cases_Bool, true≢false}
use Rattle.std.proofs.lemmas.Option.{none-some, same_Some}
use Rattle.cx_code.specs.declared.image.Image.{Image}
use Rattle.cx_ebcdic.specs.Facts.Names.{is_name-decides, is_name-laws}
use Rattle.cx_base.specs.Facts.Lookups.{lookup-insert_entry-other, lookup-insert_entry-same, lookup-set_value-other, lookup-set_value-same}
use Rattle.cx_load.specs.declared.program.Loaded.{Loaded}
use Rattle.cx_region_state.specs.declared.replies.TurnReply.{TurnReply}
use Rattle.cx_region_state.specs.declared.replies.TurnReply.TheVariants as turn
use Rattle.cx_region_state.specs.declared.verdict.NewLevel.{NewLevel}
use Rattle.cx_region_state.specs.Replies.{is_over}
use Rattle.cx_region_state.specs.State.{Input, TaskContext, TaskState}
use Rattle.cx_region_laws.specs.Laws.Levels.{DueIsKept, Keeps}
use Rattle.cx_region.specs.declared.changes.AlterReply.{AlterReply}
use Rattle.cx_region.specs.declared.changes.AlterReply.TheVariants as alter
use Rattle.cx_region.specs.declared.changes.Change.{Change}
use Rattle.cx_region.specs.declared.replies.DefineFault.{DefineFault}
use Rattle.cx_region.specs.declared.replies.DefineFault.TheVariants.{NoRoom}
use Rattle.cx_region.specs.declared.replies.Event.TheVariants as event
use Rattle.cx_region.specs.declared.replies.KeyReply.{KeyReply}
use Rattle.cx_region.specs.declared.replies.KeyReply.TheVariants as key
use Rattle.cx_region.specs.declared.replies.Reply.TheVariants as reply
use Rattle.cx_ebcdic.specs.Names.{is_name}
use Rattle.cx_region.specs.State.{RegionState, TerminalState}
use Rattle.cx_region.specs.Tables.{fresh_terminal, program_of, terminal_of, transaction_of, with_terminal}
use Rattle.cx_region.specs.Defining.{DefinesProgram, DefinesTerminal, DefinesTransaction, LoadsProgram, fresh_region, program_fault, terminal_fault, transaction_fault}
use Rattle.cx_region.specs.Attach.{Attaches, Gives, TakesKey, OnlyAnswers, StartsTask, commarea_kept, first_level, fresh_task, input_from, next_number, transaction_named, with_task}
use Rattle.cx_region.specs.Turn.{TaskTakesTurn, TakesTurn, context_of, task_after}
use Rattle.cx_region.specs.Alter.{Alters, alter_refusal, after_change, altered_at, altered_region, ends_task, task_left}
use Rattle.cx_region.specs.Events.{Applies, Run}
use Rattle.cx_region_laws.specs.Laws.Alterations.{AlterationsKeepLevels}
use Rattle.cx_region_laws.specs.Laws.Regions.{OthersAsBefore}
use Rattle.cx_script.specs.Laws.Events.{ScriptsRunTheirEvents}
use Rattle.cx_edf.specs.Laws.Edf.{FrontsAreTraces, WhatIsLeftIsARun}
use Rattle.cx_headline.specs.Laws.Runs.{OfEachRun, OfEachScript, state_after_first}
use Rattle.cx_headline.specs.Laws.Watching.{left_of_first, replies_of_first}
use Rattle.cx_headline.specs.Laws.Due.{AlwaysKeepsWhatIsDue, EventsKeepWhatIsDue, KeepsWhatIsDue, RunsKeepWhatIsDue, StillKeepsWhatIsDue}
use Rattle.cx_headline.proofs.ScriptLemmas.{of_scripts}
use Rattle.cx_headline.proofs.WatchLemmas.{left_so_far}

-- of one task, and of the one that there may be
abbrev KeepsDue : TaskState → Type 0
KeepsDue task = task.due ≡ true → Keeps task

abbrev KeepsDueIn : Option TaskState → Type 0
KeepsDueIn found = (task : TaskState) → found ≡ Some task → KeepsDue task

no_task : KeepsDueIn None
no_task task is = absurd (none-some task is)

one_task : (task : TaskState) → KeepsDue task → KeepsDueIn (Some task)
one_task task keeps other is = subst KeepsDue (same_Some task other is) keeps

-- the task that is left, where it isn't over
task_left_keeps : (over : Bool) (task : TaskState) → (over ≡ false → KeepsDue task) → KeepsDueIn (if over then None else Some task)
task_left_keeps true task keeps = no_task
task_left_keeps false task keeps = one_task task (keeps refl)

-- ---- a terminal put under its name
-- the task of a terminal that is found
abbrev task_in : Option TerminalState → Option TaskState
task_in found = option_and_then (λ t. t.task) found

own_kept : (region : RegionState) (name : List ℕ) (t : TerminalState) → KeepsWhatIsDue region → terminal_of region name ≡ Some t → KeepsDueIn t.task
own_kept region name t kept there = subst (λ (o : Option TerminalState). KeepsDueIn (task_in o)) there (kept name)

put_kept : (old new : RegionState) (name : List ℕ) (t : TerminalState) → terminal_of new name ≡ Some t → OthersAsBefore old name new
    → KeepsDueIn t.task → KeepsWhatIsDue old → KeepsWhatIsDue new
put_kept old new name t there others own kept other = elim (cases_Bool (is_name name other)) [
  | inl same ↦
      let is : name ≡ other = (is_name-decides name other).0 same in
      let found : terminal_of new other ≡ Some t = subst (λ (n : List ℕ). terminal_of new n ≡ Some t) is there in
      subst (λ (o : Option TerminalState). KeepsDueIn (task_in o)) (sym found) own
  | inr apart ↦ subst (λ (o : Option TerminalState). KeepsDueIn (task_in o)) (sym (others other apart)) (kept other)
]

set_kept : (old new : RegionState) (name : List ℕ) (before t : TerminalState) → terminal_of old name ≡ Some before
    → new.terminals ≡ set_value (is_name name) old.terminals t → KeepsDueIn t.task → KeepsWhatIsDue old → KeepsWhatIsDue new
set_kept old new name before t there is own kept =
    put_kept old new name t (ap (lookup (is_name name)) is ∙ lookup-set_value-same is_name is_name-laws old.terminals name before t there)
    (λ other apart. ap (lookup (is_name other)) is ∙ lookup-set_value-other is_name is_name-laws old.terminals name other t apart) own kept

-- ---- definitions
program_kept : (old new : RegionState) (name : List ℕ) (image : Image) (result : Result Loaded DefineFault)
    → KeepsWhatIsDue old → DefinesProgram old name image result new → KeepsWhatIsDue new
unfolding DefinesProgram
program_kept old new name image result kept h = by_fault (program_fault old name) h
  where
    loads : (answer : Result Loaded DefineFault) → LoadsProgram old name image answer new → KeepsWhatIsDue new
    loads (Ok loaded) h = subst KeepsWhatIsDue (sym h.1) kept
    loads (Err NoRoom) h = subst KeepsWhatIsDue (sym h.1) kept
    loads (Err _) h = absurd h

    by_fault : (o : Option DefineFault) → MatchOption o (LoadsProgram old name image result new) (λ fault. (result ≡ Err fault) × (new ≡ old)) → KeepsWhatIsDue new
    by_fault None h = loads result h
    by_fault (Some fault) h = subst KeepsWhatIsDue (sym h.1) kept

-- a definition that is done or refused
done_kept : (old after new : RegionState) (o : Option DefineFault) (result : Result (Unit {0}) DefineFault)
    → MatchOption o ((result ≡ Ok tt) × (new ≡ after)) (λ fault. (result ≡ Err fault) × (new ≡ old))
    → KeepsWhatIsDue old → KeepsWhatIsDue after → KeepsWhatIsDue new
done_kept old after new None result h kept done = subst KeepsWhatIsDue (sym h.1) done
done_kept old after new (Some fault) result h kept done = subst KeepsWhatIsDue (sym h.1) kept

transaction_kept : (old new : RegionState) (tran program : List ℕ) (result : Result (Unit {0}) DefineFault)
    → KeepsWhatIsDue old → DefinesTransaction old tran program result new → KeepsWhatIsDue new
unfolding DefinesTransaction
transaction_kept old new tran program result kept h = done_kept old _ new (transaction_fault old tran program) result h kept kept

-- a terminal that is new, under its name
added_kept : (old after new : RegionState) (name : List ℕ) (fresh : TerminalState) (o : Option DefineFault) (result : Result (Unit {0}) DefineFault)
    → MatchOption o ((result ≡ Ok tt) × (new ≡ after)) (λ fault. (result ≡ Err fault) × (new ≡ old))
    → KeepsWhatIsDue old → terminal_of after name ≡ Some fresh → OthersAsBefore old name after → KeepsDueIn fresh.task → KeepsWhatIsDue new
added_kept old after new name fresh o result h kept there others own =
    done_kept old after new o result h kept (put_kept old after name fresh there others own kept)

-- a new terminal has no task
terminal_kept : (old new : RegionState) (name : List ℕ) (result : Result (Unit {0}) DefineFault)
    → KeepsWhatIsDue old → DefinesTerminal old name result new → KeepsWhatIsDue new
unfolding DefinesTerminal
terminal_kept old new name result kept h =
    let fresh = fresh_terminal (length old.terminals + 1) in
    added_kept old _ new name fresh (terminal_fault old name) result h kept
    (lookup-insert_entry-same is_name is_name-laws old.terminals name fresh)
    (λ other apart. lookup-insert_entry-other is_name is_name-laws old.terminals name other fresh apart) no_task

-- ---- keys
-- nothing is due in a task that is attached
fresh_keeps : (tran : List ℕ) (number eib : ℕ) (level : NewLevel) → KeepsDueIn (Some (fresh_task tran number eib level))
unfolding fresh_task
fresh_keeps tran number eib level = one_task (fresh_task tran number eib level) (λ due. absurd (true≢false (sym due)))

attach_kept : (old new : RegionState) (name : List ℕ) (t : TerminalState) (input : Input) (tran program : List ℕ) (loaded : Loaded) (reply : KeyReply)
    → KeepsWhatIsDue old → terminal_of old name ≡ Some t → Attaches old name t input tran program loaded reply new → KeepsWhatIsDue new
attach_kept old new name t input tran program loaded key.Attached kept there h =
    let level = first_level program loaded (length (commarea_kept t.entry.following)) h.areas in
    let task = fresh_task tran (next_number old.counter) h.areas.eib level in
    set_kept old new name t (with_task t input task) there (ap (λ (r : RegionState). r.terminals) h.after)
    (fresh_keeps tran (next_number old.counter) h.areas.eib level) kept
attach_kept old new name t input tran program loaded key.NoStorage kept there h = subst KeepsWhatIsDue (sym h.1) kept
attach_kept old new name t input tran program loaded _ kept there h = absurd h

key_kept : (old new : RegionState) (name : List ℕ) (input : Input) (reply : KeyReply) → KeepsWhatIsDue old → TakesKey old name input reply new → KeepsWhatIsDue new
unfolding TakesKey
key_kept old new name input reply kept h = at_terminal (terminal_of old name) refl h
  where
    only : (due : KeyReply) → OnlyAnswers due old reply new → KeepsWhatIsDue new
    only due h = subst KeepsWhatIsDue (sym h.1) kept

    at_program : (t : TerminalState) (tran program : List ℕ) → terminal_of old name ≡ Some t → (o : Option Loaded)
        → MatchOption o (OnlyAnswers key.NoSuchTransaction old reply new) (λ loaded. Attaches old name t input tran program loaded reply new) → KeepsWhatIsDue new
    at_program t tran program there None h = only key.NoSuchTransaction h
    at_program t tran program there (Some loaded) h = attach_kept old new name t input tran program loaded reply kept there h

    at_tran : (t : TerminalState) (tran : List ℕ) → terminal_of old name ≡ Some t → (o : Option (List ℕ))
        → MatchOption o (OnlyAnswers key.NoSuchTransaction old reply new) (λ program.
        MatchOption (program_of old program) (OnlyAnswers key.NoSuchTransaction old reply new) (λ loaded. Attaches old name t input tran program loaded reply new)) → KeepsWhatIsDue new
    at_tran t tran there None h = only key.NoSuchTransaction h
    at_tran t tran there (Some program) h = at_program t tran program there (program_of old program) h

    at_input : (t : TerminalState) → terminal_of old name ≡ Some t → (o : Option Input)
        → MatchOption o ((reply ≡ key.Given) × (new ≡ with_terminal old name (record t { entry = record t.entry { input = Some input } }))) (λ held. OnlyAnswers key.AlreadyHeldInput old reply new) → KeepsWhatIsDue new
    at_input t there None h =
        set_kept old new name t (record t { entry = record t.entry { input = Some input } }) there (ap (λ (r : RegionState). r.terminals) h.1) (own_kept old name t kept there) kept
    at_input t there (Some held) h = only key.AlreadyHeldInput h

    at_task : (t : TerminalState) → terminal_of old name ≡ Some t → (o : Option TaskState)
        → MatchOption o (StartsTask old name t input (transaction_named t.entry.following input.bytes) reply new) (λ task. Gives old name t input reply new) → KeepsWhatIsDue new
    at_task t there None h =
        let tran = transaction_named t.entry.following input.bytes in at_tran t tran there (transaction_of old tran) h
    at_task t there (Some task) h = at_input t there t.entry.input h

    at_terminal : (o : Option TerminalState) → terminal_of old name ≡ o → MatchOption o (OnlyAnswers key.NoSuchTerminal old reply new) (λ t. MatchOption t.task (StartsTask old name t input (transaction_named t.entry.following input.bytes) reply new) (λ task. Gives old name t input reply new)) → KeepsWhatIsDue new
    at_terminal None there h = only key.NoSuchTerminal h
    at_terminal (Some t) there h = at_task t there t.task h

-- ---- turns
turn_kept : DueIsKept → (old new : RegionState) (name : List ℕ) (reply : TurnReply) → KeepsWhatIsDue old → TakesTurn old name reply new → KeepsWhatIsDue new
unfolding TakesTurn
turn_kept law old new name reply kept h = at_terminal (terminal_of old name) refl h
  where
    turned : (t : TerminalState) (task : TaskState) → terminal_of old name ≡ Some t → t.task ≡ Some task → TaskTakesTurn old name t task reply new → KeepsWhatIsDue new
    turned t task there live h =
        let own = task_left_keeps (is_over reply) h.reached.task (law (context_of old t task) h.reached reply (own_kept old name t kept there task live) h.half_turn) in
        set_kept old new name t (record { entry = h.reached.terminal_entry; task = task_after reply h.reached.task }) there (ap (λ (r : RegionState). r.terminals) h.after) own kept

    at_task : (t : TerminalState) → terminal_of old name ≡ Some t → (o : Option TaskState) → t.task ≡ o
        → MatchOption o ((reply ≡ turn.Idle) × (new ≡ old)) (λ task. TaskTakesTurn old name t task reply new) → KeepsWhatIsDue new
    at_task t there None live h = subst KeepsWhatIsDue (sym h.1) kept
    at_task t there (Some task) live h = turned t task there live h

    at_terminal : (o : Option TerminalState) → terminal_of old name ≡ o
        → MatchOption o ((reply ≡ turn.NoSuchTerminal) × (new ≡ old)) (λ t. MatchOption t.task ((reply ≡ turn.Idle) × (new ≡ old)) (λ task. TaskTakesTurn old name t task reply new)) → KeepsWhatIsDue new
    at_terminal None there h = subst KeepsWhatIsDue (sym h.1) kept
    at_terminal (Some t) there h = at_task t there t.task refl h

-- ---- alterations
change_keeps : AlterationsKeepLevels → (change : Change) (before : TaskContext) → KeepsDue before.task → KeepsDue (after_change change before).task
change_keeps law change before keeps due =
    let both = (law change before).kept (λ was. ((keeps was).regs, (keeps was).cc)) due in record { regs = both.0; cc = both.1 }

alter_kept : AlterationsKeepLevels → (old new : RegionState) (name : List ℕ) (change : Change) (reply : AlterReply)
    → KeepsWhatIsDue old → Alters old name change reply new → KeepsWhatIsDue new
unfolding Alters altered_region
alter_kept law old new name change reply kept h = by_refusal (alter_refusal old name change) h
  where
    changed : (t : TerminalState) (task : TaskState) → terminal_of old name ≡ Some t → t.task ≡ Some task → KeepsWhatIsDue (altered_at old name change t task)
    changed t task there live =
        let after = after_change change (context_of old t task) in
        let own = task_left_keeps (ends_task change) after.task (λ on. change_keeps law change (context_of old t task) (own_kept old name t kept there task live)) in
        set_kept old (altered_at old name change t task) name t (record { entry = after.terminal_entry; task = task_left change after.task }) there refl own kept

    by_task : (t : TerminalState) → terminal_of old name ≡ Some t → (o : Option TaskState) → t.task ≡ o → KeepsWhatIsDue (option_map_or (altered_at old name change t) o old)
    by_task t there None live = kept
    by_task t there (Some task) live = changed t task there live

    by_terminal : (o : Option TerminalState) → terminal_of old name ≡ o → KeepsWhatIsDue (option_map_or (λ t. option_map_or (altered_at old name change t) t.task old) o old)
    by_terminal None there = kept
    by_terminal (Some t) there = by_task t there t.task refl

    by_refusal : (o : Option AlterReply) → MatchOption o ((reply ≡ alter.Altered) × (new ≡ altered_region old name change)) (λ refusal. (reply ≡ refusal) × (new ≡ old)) → KeepsWhatIsDue new
    by_refusal None h = subst KeepsWhatIsDue (sym h.1) (by_terminal (terminal_of old name) refl)
    by_refusal (Some refusal) h = subst KeepsWhatIsDue (sym h.1) kept

-- ---- events and runs
fresh_region_keeps : KeepsWhatIsDue fresh_region
fresh_region_keeps name = no_task

pub events_keep : DueIsKept → AlterationsKeepLevels → EventsKeepWhatIsDue
unfolding Applies
events_keep turns changes old (event.Program name image) (reply.Program result) new kept h = program_kept old new name image result kept h
events_keep turns changes old (event.Program name image) _ new kept h = absurd h
events_keep turns changes old (event.Transaction tran program) (reply.Transaction result) new kept h = transaction_kept old new tran program result kept h
events_keep turns changes old (event.Transaction tran program) _ new kept h = absurd h
events_keep turns changes old (event.Terminal name) (reply.Terminal result) new kept h = terminal_kept old new name result kept h
events_keep turns changes old (event.Terminal name) _ new kept h = absurd h
events_keep turns changes old (event.Clock time date) reply.Clock new kept h = subst KeepsWhatIsDue (sym h) kept
events_keep turns changes old (event.Clock time date) _ new kept h = absurd h
events_keep turns changes old (event.Key name aid bytes) (reply.Key answer) new kept h = key_kept old new name (input_from aid bytes) answer kept h
events_keep turns changes old (event.Key name aid bytes) _ new kept h = absurd h
events_keep turns changes old (event.Turn name) (reply.Turn answer) new kept h = turn_kept turns old new name answer kept h
events_keep turns changes old (event.Turn name) _ new kept h = absurd h
events_keep turns changes old (event.Alter name change) (reply.Alter answer) new kept h = alter_kept changes old new name change answer kept h
events_keep turns changes old (event.Alter name change) _ new kept h = absurd h

pub runs_keep : DueIsKept → AlterationsKeepLevels → RunsKeepWhatIsDue
unfolding Run
runs_keep turns changes old [] [] new kept run = subst KeepsWhatIsDue (sym run) kept
runs_keep turns changes old (e ∷ events) (r ∷ replies) new kept run =
    runs_keep turns changes run.0 events replies new (events_keep turns changes old e r run.0 kept run.1) run.2
runs_keep turns changes old _ _ new kept run = absurd run

-- ---- under EDF
-- up to each event the region is that of a plain run
pub watched_keep : DueIsKept → AlterationsKeepLevels → FrontsAreTraces → WhatIsLeftIsARun → OfEachRun StillKeepsWhatIsDue
watched_keep turns changes fronts law make old events answers states trace kept n =
    let left = left_of_first old events answers states n in
    runs_keep turns changes old.region left (replies_of_first old events answers states n) (state_after_first old states n).region kept
    (left_so_far fronts law make old events answers states trace n)

pub scripts_keep : DueIsKept → AlterationsKeepLevels → FrontsAreTraces → WhatIsLeftIsARun → ScriptsRunTheirEvents → OfEachScript AlwaysKeepsWhatIsDue
scripts_keep turns changes fronts whole law make calls answer session ending bytes read =
    let of_script = of_scripts law StillKeepsWhatIsDue (watched_keep turns changes fronts whole) make calls answer session ending bytes read in
    (of_script.0, of_script.1 fresh_region_keeps)
