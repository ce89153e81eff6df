-- Why a half-turn leads to an abend is determined, and explains its reply.
use Rattle.std.proofs.Common.{◌≡◌, ℕ, Bool, true, false, Option, Some, None, List, refl, sym, ◌∙◌, subst}
use Rattle.cx_base.specs.declared.conditions.Condition.TheVariants.{Error}
use Rattle.cx_program.specs.Entries.{entry_for}
use Rattle.std.specs.Prelude.{MatchBool, if◌then◌else◌, ⊤, ◌||◌, is_some}
use Rattle.std.specs.Option.{option_map}
use Rattle.cx_base.specs.Abends.{abend_code}
use Rattle.cx_base.specs.declared.abends.Abend.TheVariants as abend
use Rattle.cx_base.specs.declared.commands.Command.{Command}
use Rattle.cx_base.specs.declared.conditions.Condition.{Condition}
use Rattle.cx_exec.specs.declared.machine.Halt.{Halt}
use Rattle.cx_exec.specs.declared.machine.Halt.TheVariants as halt
use Rattle.cx_exec.specs.Machine.{Machine}
use Rattle.cx_exec.specs.Advance.{Advances}
use Rattle.cx_exec_laws.specs.Laws.Decide.{RunsDecide}
use Rattle.cx_program.specs.declared.choice.Choice.{Choice}
use Rattle.cx_program.specs.declared.choice.Choice.TheVariants as choice
use Rattle.cx_program.specs.declared.entries.Entries.{Entries}
use Rattle.cx_program.specs.declared.entries.Handler.{Handler}
use Rattle.cx_program.specs.declared.entries.Handler.TheVariants as entry
use Rattle.cx_program.specs.Handles.{condition_abend_code as condition_code, choice as choice_by, choice_by_entry, condition_waits}
use Rattle.cx_base.specs.Arguments.{has_option}
use Rattle.cx_base.specs.declared.options.OptionName.TheVariants.{Nosuspend}
use Rattle.cx_region_state.specs.Call.{Call, has_nohandle, resp_place}
use Rattle.cx_region_commands.specs.Laws.Rows.{JudgedOnce}
use Rattle.cx_region_state.specs.declared.replies.TurnReply.{TurnReply}
use Rattle.cx_region_state.specs.declared.verdict.TaskChange.{TaskChange}
use Rattle.cx_region_state.specs.State.{TaskContext}
use Rattle.cx_region_task.specs.declared.cause.Cause.{Cause}
use Rattle.cx_region_task.specs.declared.cause.Cause.TheVariants as cause
use Rattle.cx_region_task.specs.declared.cause.AbendRecord.{AbendRecord}
use Rattle.cx_region_task.specs.declared.continuation.Continuation.{Continuation}
use Rattle.cx_region_task.specs.declared.continuation.Continuation.TheVariants as continuation
use Rattle.cx_region_task.specs.Abends.{Abends, AbendsAt}
use Rattle.cx_region_task.specs.declared.decision.Decision.{Decision}
use Rattle.cx_region_task.specs.declared.decision.Decision.TheVariants as decision
use Rattle.cx_region_task.specs.Decisions.{decided_command}
use Rattle.cx_region_task.specs.Facts.Met.{to_be_done}
use Rattle.cx_region_task.specs.Laws.AbendRecords.{Explains, IsCodeOf, AbendRecordsDecide, AbendRecordsExplain}
use Rattle.cx_region_task.specs.Performing.{CarriesOut, Decides, continuation_cause, decision_cause}
use Rattle.cx_region_task.specs.Turn.{HalfTurnWith, HasAbendRecord, PerformsCommand, EndsRun, RunsOn, abend_record_with, halt_cause, machine_of, most_steps}
use Rattle.cx_region_task.specs.Continuations.{Goes, choice_for, choice_unhandled, is_normal, continuation_by, continuation_chosen, continuation_of, without_wait}
use Rattle.cx_region_task.proofs.DecideLemmas.{decisions_decide}

-- ---- it is determined
runs_once : ((limit : ℕ) → RunsDecide (Advances limit)) → (before after later : TaskContext) (p q : TurnReply) (one other : Option AbendRecord) → RunsOn before p one after → RunsOn before q other later → one ≡ other
runs_once runs before after later p q one other h k =
    let same = runs most_steps (machine_of before) h.how k.how (machine_of h.between) (machine_of k.between) h.advances k.advances in
    h.recorded ∙ (rw (same.0, same.1) refl) ∙ sym k.recorded

commands_once : JudgedOnce → (before after later : TaskContext) (p q : TurnReply) (one other : Option AbendRecord) → PerformsCommand before p one after → PerformsCommand before q other later → one ≡ other
commands_once once before after later p q one other h k =
    let same : h.decided ≡ k.decided = decisions_decide once before h.decided k.decided h.decides k.decides in
    h.recorded ∙ (rw same refl) ∙ sym k.recorded

pub abend_records_decide : ((limit : ℕ) → RunsDecide (Advances limit)) → JudgedOnce → AbendRecordsDecide
unfolding HalfTurnWith
abend_records_decide runs once before one other h k = by_due before.task.due h.turns k.turns
  where
    by_due : (b : Bool) → MatchBool b (PerformsCommand before h.reply one h.after) (RunsOn before h.reply one h.after)
        → MatchBool b (PerformsCommand before k.reply other k.after) (RunsOn before k.reply other k.after) → one ≡ other
    by_due true it that = commands_once once before h.after k.after h.reply k.reply one other it that
    by_due false it that = runs_once runs before h.after k.after h.reply k.reply one other it that

-- ---- a condition that leads to an abend does so with its code
abbrev Codes : Choice → Condition → Type 0
Codes (choice.Abend code) condition = code ≡ condition_code condition
Codes _ condition = ⊤

entry_codes : (e : Handler) (otherwise : Choice) (condition : Condition) → Codes otherwise condition → Codes (choice_by_entry e otherwise) condition
entry_codes (entry.Label label) otherwise condition codes = tt
entry_codes entry.Ignored otherwise condition codes = tt
entry_codes entry.NoEntry otherwise condition codes = codes

by_codes : (entries : Entries) (condition : Condition) → Codes (choice_by entries condition) condition
unfolding choice_by
by_codes entries condition =
    entry_codes (entry_for entries condition)
    (if condition_waits condition then choice.Wait else choice_by_entry (entry_for entries Error) (choice.Abend (condition_code condition))) condition (go (condition_waits condition))
  where
    go : (b : Bool) → Codes (if b then choice.Wait else choice_by_entry (entry_for entries Error) (choice.Abend (condition_code condition))) condition
    go true = tt
    go false = entry_codes (entry_for entries Error) (choice.Abend (condition_code condition)) condition refl

unhandled_codes : (condition : Condition) → Codes (choice_unhandled condition) condition
unhandled_codes condition = go (condition_waits condition)
  where
    go : (b : Bool) → Codes (if b then choice.Wait else choice.GoOn) condition
    go true = tt
    go false = tt

suspended_codes : (b : Bool) (c : Choice) (condition : Condition) → Codes c condition → Codes (without_wait b c) condition
suspended_codes true (choice.Label label) condition codes = codes
suspended_codes true choice.GoOn condition codes = codes
suspended_codes true choice.Wait condition codes = tt
suspended_codes true (choice.Abend code) condition codes = codes
suspended_codes false c condition codes = codes

choice_codes : (call : Call) (entries : Entries) (condition : Condition) → Codes (choice_for call entries condition) condition
unfolding choice_for
choice_codes call entries condition =
    suspended_codes (has_option call.command call.first Nosuspend)
    (if has_nohandle call.second || is_some (resp_place call) then choice_unhandled condition else choice_by entries condition)
    condition (go (has_nohandle call.second || is_some (resp_place call)))
  where
    go : (b : Bool) → Codes (if b then choice_unhandled condition else choice_by entries condition) condition
    go true = unhandled_codes condition
    go false = by_codes entries condition

-- the cause of an abend on this way leads to its code
abbrev WayCodes : Continuation → Condition → Type 0
WayCodes (continuation.Abends code cancel) condition = IsCodeOf (if is_normal condition then cause.Asked else cause.Met condition) code
WayCodes _ condition = ⊤

normal_codes : (gone : Continuation) (condition : Condition) → is_normal condition ≡ true → WayCodes gone condition
normal_codes continuation.GoesOn condition e = tt
normal_codes (continuation.TakesLabel label) condition e = tt
normal_codes continuation.Waits condition e = tt
normal_codes (continuation.Abends code cancel) condition e = rw e tt
normal_codes (continuation.Enters level) condition e = tt
normal_codes (continuation.Replaces level) condition e = tt
normal_codes continuation.LevelEnds condition e = tt
normal_codes continuation.TaskEnds condition e = tt

chosen_codes : (c : Choice) (condition : Condition) → is_normal condition ≡ false → Codes c condition → WayCodes (continuation_chosen c) condition
chosen_codes (choice.Label label) condition e codes = tt
chosen_codes choice.GoOn condition e codes = tt
chosen_codes choice.Wait condition e codes = tt
chosen_codes (choice.Abend code) condition e codes = rw e codes

way_codes : (call : Call) (entries : Entries) (condition : Condition) (change : TaskChange) → WayCodes (continuation_of call entries condition change) condition
unfolding continuation_of
way_codes call entries condition change = go (is_normal condition) refl
  where
    go : (b : Bool) → is_normal condition ≡ b → WayCodes (if b then continuation_by change else continuation_chosen (choice_for call entries condition)) condition
    go true e = normal_codes (continuation_by change) condition e
    go false e = chosen_codes (choice_for call entries condition) condition e (choice_codes call entries condition)

-- ---- it explains the reply
explains_abend : (command : Option Command) (m : Machine) (why : Cause) (code : List ℕ) (cancel : Bool) (mid after : TaskContext) (reply : TurnReply)
    → IsCodeOf why code → Abends code cancel mid reply after → Explains (Some (abend_record_with command m why)) reply
unfolding AbendsAt
explains_abend command m why code cancel mid after reply is it = by_exit it.exit it.ends
  where
    by_exit : (o : Option ℕ) → AbendsAt o code mid reply after → Explains (Some (abend_record_with command m why)) reply
    by_exit None over = rw over.0 is
    by_exit (Some index) over = rw over.0 is

explains_way : (command : Option Command) (m : Machine) (gone : Continuation) (condition : Condition) (committed after : TaskContext) (reply : TurnReply) → WayCodes gone condition
    → Goes gone condition committed reply after → Explains (option_map (abend_record_with command m) (continuation_cause gone condition)) reply
unfolding Goes
explains_way command m continuation.GoesOn condition committed after reply codes goes = rw goes.0 refl
explains_way command m (continuation.TakesLabel label) condition committed after reply codes goes = rw goes.0 refl
explains_way command m continuation.Waits condition committed after reply codes goes = rw goes.0 refl
explains_way command m (continuation.Abends code cancel) condition committed after reply codes goes =
    explains_abend command m (if is_normal condition then cause.Asked else cause.Met condition) code cancel committed after reply codes goes
explains_way command m (continuation.Enters level) condition committed after reply codes goes = rw goes.0 refl
explains_way command m (continuation.Replaces level) condition committed after reply codes goes = rw goes.0 refl
explains_way command m continuation.LevelEnds condition committed after reply codes goes = rw goes.0 refl
explains_way command m continuation.TaskEnds condition committed after reply codes goes = rw goes.0 refl

explains_carried : (command : Option Command) (m : Machine) (decided : Decision) (before after : TaskContext) (reply : TurnReply) → Decides before decided → CarriesOut decided before reply after
    → Explains (option_map (abend_record_with command m) (decision_cause decided)) reply
unfolding CarriesOut
explains_carried command m (decision.Refuse call refusal) before after reply decides it =
    explains_abend command m (cause.Refused refusal) (abend_code refusal) false before after reply refl it
explains_carried command m (decision.Wait call wait) before after reply decides it = rw it.waiting refl
explains_carried command m (decision.Act act) before after reply decides it =
    let known = to_be_done act before decides in
    let codes = way_codes act.call before.task.levels.current.handles.active.entries act.condition act.change in
    explains_way command m act.continuation act.condition it.committed after reply (subst (λ (gone : Continuation). WayCodes gone act.condition) (sym known.way) codes) it.goes

explains_halt : (m : Machine) (how : Halt) (between after : TaskContext) (reply : TurnReply) → EndsRun how between reply after → Explains (option_map (abend_record_with None m) (halt_cause how)) reply
unfolding EndsRun
explains_halt m halt.AtEntry between after reply it = rw it.0 refl
explains_halt m (halt.Interrupt interruption place) between after reply it = explains_abend None m (cause.Interrupted interruption) (abend_code abend.Asra) false between after reply refl it
explains_halt m halt.Limit between after reply it = explains_abend None m cause.Limit (abend_code abend.Aica) false between after reply refl it

explains_turn : (before after : TaskContext) (reply : TurnReply) (abend_record : Option AbendRecord) → HalfTurnWith before reply abend_record after → Explains abend_record reply
unfolding HalfTurnWith
explains_turn before after reply abend_record turns = by_due before.task.due turns
  where
    by_due : (b : Bool) → MatchBool b (PerformsCommand before reply abend_record after) (RunsOn before reply abend_record after) → Explains abend_record reply
    by_due true it = rw it.recorded (explains_carried (decided_command it.decided) (machine_of before) it.decided before after reply it.decides it.carries)
    by_due false runs = rw runs.recorded (explains_halt (machine_of runs.between) runs.how runs.between after reply runs.ends)

pub abend_records_explain : ((limit : ℕ) → RunsDecide (Advances limit)) → JudgedOnce → AbendRecordsExplain
abend_records_explain runs once before after reply abend_record half has =
    let own : HasAbendRecord before half.abend_record = record { reply = reply; after = after; turns = half.turns } in
    let same : half.abend_record ≡ abend_record = abend_records_decide runs once before half.abend_record abend_record own has in
    subst (λ (it : Option AbendRecord). Explains it reply) same (explains_turn before after reply half.abend_record half.turns)
