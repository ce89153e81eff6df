-- What half-turns leave of the levels above the current one.
use Rattle.std.proofs.Common.{◌≡◌, ℕ, zero, suc, Bool, true, false, Option, Some, None, List, [], ◌∷◌, drop, length, ◌≤◌, refl, sym, ◌∙◌, ap, subst, arith, inl, inr, ◌-◌}
use Rattle.std.specs.Prelude.{MatchBool, if◌then◌else◌}
use Rattle.cx_base.specs.Abends.{abend_code}
use Rattle.cx_base.specs.declared.abends.Abend.TheVariants as abend
use Rattle.cx_base.specs.declared.conditions.Condition.{Condition}
use Rattle.cx_exec.specs.declared.machine.Halt.{Halt}
use Rattle.cx_exec.specs.declared.machine.Halt.TheVariants as halt
use Rattle.cx_program.specs.declared.choice.Choice.{Choice}
use Rattle.cx_program.specs.declared.choice.Choice.TheVariants as choice
use Rattle.cx_program.specs.declared.level.Level.{Level}
use Rattle.cx_program.specs.Levels.{Levels}
use Rattle.cx_storage.specs.Storage.{Storage}
use Rattle.cx_region_state.specs.declared.outputs.Output.{Output}
use Rattle.cx_region_state.specs.Call.{Call}
use Rattle.cx_region_state.specs.declared.replies.TurnReply.{TurnReply}
use Rattle.cx_region_state.specs.declared.verdict.TaskChange.{TaskChange}
use Rattle.cx_region_state.specs.declared.verdict.TaskChange.TheVariants.{Nothing, Before, After, Gets, Enters, Replaces, LevelEnds, TaskEnds, AbendsWith}
use Rattle.cx_region_state.specs.declared.verdict.NewLevel.{NewLevel}
use Rattle.cx_region_state.specs.declared.verdict.Verdict.TheVariants.{Meets}
use Rattle.cx_region_state.specs.State.{TaskContext}
use Rattle.cx_region_state.specs.Areas.{entry_level}
use Rattle.cx_region_task.specs.declared.continuation.Continuation.{Continuation}
use Rattle.cx_region_task.specs.declared.continuation.Continuation.TheVariants as continuation
use Rattle.cx_region_task.specs.Abends.{Abends, AbendsAt, exit_task, unwound, without_stg}
use Rattle.cx_region_task.specs.Decisions.{continuation_at}
use Rattle.cx_region_task.specs.Changes.{AppliesBefore, Commits, apply_after, write_outputs, write_report}
use Rattle.cx_region_task.specs.Performing.{LeavesAll}
use Rattle.cx_region_task.specs.Facts.Met.{IsMet, by_decision}
use Rattle.cx_region_task.specs.declared.cause.AbendRecord.{AbendRecord}
use Rattle.cx_region_task.specs.Turn.{EndsRun, HalfTurnWith, PerformsCommand, RunsOn}
use Rattle.cx_region_task.specs.Continuations.{Goes, choice_for, enter_level, is_normal, replace_level, return_to_caller, returned_to, continuation_by, continuation_chosen, continuation_of}
use Rattle.cx_region_laws.specs.Laws.Levels.{HalfTurnsLeaveCallers, IsBack, LeavesCallers}
use Rattle.cx_region_laws.proofs.CommandLemmas.{finished_task}
use Rattle.cx_region_laws.proofs.AppliedLemmas.{SameTask, applied_task, task_at, task_on}
use Rattle.cx_region_laws.proofs.LevelLemmas.{IsWell, is_request, judged_well, settles_levels}
use Rattle.std.proofs.lemmas.Bool.{true≢false}

-- ---- abends
unwound_levels : (n : ℕ) (callers : List Level) (current : Level) (s : Storage) → n ≤ length callers
    → drop n (current ∷ callers) ≡ (unwound n callers current s).levels.current ∷ (unwound n callers current s).levels.callers
unfolding unwound
unwound_levels zero callers current s few = refl
unwound_levels (suc n) [] current s few = absurd (omega (arith, few))
unwound_levels (suc n) (caller ∷ callers) current s few = unwound_levels n callers caller (without_stg current s) (omega (arith, few))

abends_leave : (code : List ℕ) (cancel : Bool) (before mid after : TaskContext) (reply : TurnReply) → mid.task.levels ≡ before.task.levels → Abends code cancel mid reply after
    → LeavesCallers reply before.task after.task
unfolding AbendsAt LeavesCallers exit_task
abends_leave code cancel before mid after reply same it = go it.exit it.ends
  where
    go : (o : Option ℕ) → AbendsAt o code mid reply after → LeavesCallers reply before.task after.task
    go None over = rw (over.0, over.1) (ap (λ (l : Levels). l.callers) same)
    go (Some index) over =
        let n = length mid.task.levels.callers - index in
        let left = unwound n mid.task.levels.callers mid.task.levels.current mid.shared.storage in
        let whole = unwound_levels n mid.task.levels.callers mid.task.levels.current mid.shared.storage (omega arith) in
        rw (over.0, over.1) (record {
          count = n;
          level = left.levels.current;
          left = ap (λ (l : Levels). drop n (l.current ∷ l.callers)) (sym same) ∙ whole;
          current = refl;
        })

-- ---- all that a command does
pub settles_task : (call : Call) (condition : Condition) (outputs : List Output) (change : TaskChange) (start after : TaskContext) → Commits call condition outputs change start after → SameTask start after
unfolding write_outputs write_report
settles_task call condition outputs change start after it =
    let written = write_outputs call outputs change it.made in
    let made = applied_task change start it.made it.applied in
    let given_task = task_on start it.made written made (record { slot = refl; eib = refl; callers = refl; stg = refl }) in
    task_at start _ after it.committed (task_on start written _ given_task (task_on written _ _ (record { slot = refl; eib = refl; callers = refl; stg = refl }) (finished_task change _)))

-- LINK leaves the current level too
enters_levels : (level : NewLevel) (call : Call) (condition : Condition) (outputs : List Output) (start after : TaskContext) → Commits call condition outputs (Enters level) start after
    → after.task.levels ≡ start.task.levels
unfolding AppliesBefore apply_after write_outputs write_report
enters_levels level call condition outputs start after it =
    let applied = ap (λ (r : TaskContext). r.task.levels) it.applied in
    ap (λ (r : TaskContext). r.task.levels) it.committed ∙ applied

-- what the way needs of the state in which all is done
unfoldable IsKept : Continuation → TaskContext → TaskContext → Type 0
IsKept (continuation.Enters level) start committed = committed.task.levels ≡ start.task.levels
IsKept (continuation.Abends code cancel) start committed = committed.task.levels ≡ start.task.levels
IsKept _ start committed = committed.task.levels.callers ≡ start.task.levels.callers

kept_by_change : (change : TaskChange) (call : Call) (condition : Condition) (outputs : List Output) (start after : TaskContext) → Commits call condition outputs change start after → IsKept (continuation_by change) start after
unfolding IsKept is_request
kept_by_change Nothing call condition outputs start after it = (settles_task call condition outputs Nothing start after it).callers
kept_by_change (Before made) call condition outputs start after it = (settles_task call condition outputs (Before made) start after it).callers
kept_by_change (After ended) call condition outputs start after it = (settles_task call condition outputs (After ended) start after it).callers
kept_by_change (Gets got) call condition outputs start after it = (settles_task call condition outputs (Gets got) start after it).callers
kept_by_change (Enters level) call condition outputs start after it = enters_levels level call condition outputs start after it
kept_by_change (Replaces copying level) call condition outputs start after it = (settles_task call condition outputs (Replaces copying level) start after it).callers
kept_by_change LevelEnds call condition outputs start after it = (settles_task call condition outputs LevelEnds start after it).callers
kept_by_change (TaskEnds next) call condition outputs start after it = (settles_task call condition outputs (TaskEnds next) start after it).callers
kept_by_change (AbendsWith code cancel) call condition outputs start after it = settles_levels call condition outputs (AbendsWith code cancel) start after refl it

kept_by_choice : (chosen : Choice) (start after : TaskContext) → after.task.levels ≡ start.task.levels → IsKept (continuation_chosen chosen) start after
unfolding IsKept
kept_by_choice (choice.Label label) start after same = ap (λ (l : Levels). l.callers) same
kept_by_choice choice.GoOn start after same = ap (λ (l : Levels). l.callers) same
kept_by_choice choice.Wait start after same = ap (λ (l : Levels). l.callers) same
kept_by_choice (choice.Abend code) start after same = same

kept_on_way : (call : Call) (condition : Condition) (outputs : List Output) (change : TaskChange) (start after : TaskContext) → IsWell (Meets condition outputs change) → Commits call condition outputs change start after
    → IsKept (continuation_at call condition change start) start after
unfolding continuation_of
kept_on_way call condition outputs change start after well it = either (is_normal condition) refl
  where
    chosen : Choice
    chosen = choice_for call start.task.levels.current.handles.active.entries condition

    unasked : (b : Bool) → is_request change ≡ b → is_normal condition ≡ false → is_request change ≡ false
    unasked true asks abnormal = absurd (true≢false (sym (well asks) ∙ abnormal))
    unasked false asks abnormal = asks

    either : (normal : Bool) → is_normal condition ≡ normal → IsKept (if normal then continuation_by change else continuation_chosen chosen) start after
    either true e = kept_by_change change call condition outputs start after it
    either false e = kept_by_choice chosen start after (settles_levels call condition outputs change start after (unasked (is_request change) refl e) it)

-- ---- the way
back : (start committed : TaskContext) (caller : Level) (callers : List Level) → committed.task.levels.callers ≡ caller ∷ callers → IsBack caller callers (returned_to committed.task.levels.callers committed).task
back start committed caller callers e =
    subst (λ (l : List Level). IsBack caller callers (returned_to l committed).task) (sym e) (record { levels = refl; regs = refl; cc = refl })

goes_leave : (gone : Continuation) (condition : Condition) (start committed after : TaskContext) (reply : TurnReply) → IsKept gone start committed → Goes gone condition committed reply after
    → LeavesCallers reply start.task after.task
unfolding Goes LeavesCallers IsKept enter_level replace_level return_to_caller entry_level
goes_leave continuation.GoesOn condition start committed after reply kept goes = rw (goes.0, goes.1) kept
goes_leave (continuation.TakesLabel label) condition start committed after reply kept goes = rw (goes.0, goes.1) kept
goes_leave continuation.Waits condition start committed after reply kept goes = rw (goes.0, goes.1) kept
goes_leave (continuation.Abends code cancel) condition start committed after reply kept goes = abends_leave code cancel start committed after reply kept goes
goes_leave (continuation.Enters level) condition start committed after reply kept goes =
    rw (goes.0, goes.1) (record { handles = refl; callers = inl (ap (λ (l : Levels). l.current ∷ l.callers) kept); regs = refl; cc = refl; due = refl })
goes_leave (continuation.Replaces level) condition start committed after reply kept goes =
    rw (goes.0, goes.1) (record { handles = refl; callers = inr kept; regs = refl; cc = refl; due = refl })
goes_leave continuation.LevelEnds condition start committed after reply kept goes =
    rw (goes.0, goes.1) (λ caller callers e. back start committed caller callers (kept ∙ e))
goes_leave continuation.TaskEnds condition start committed after reply kept goes = rw (goes.0, goes.1) kept

-- ---- a command
waits_leave : (before after : TaskContext) (reply : TurnReply) → LeavesAll before reply after → LeavesCallers reply before.task after.task
unfolding LeavesCallers
waits_leave before after reply it = rw (it.waiting, it.same) refl

met_leaves : (before after : TaskContext) (reply : TurnReply) → IsMet reply before after → LeavesCallers reply before.task after.task
met_leaves before after reply met =
    let well = judged_well met.call before (Meets met.condition met.outputs met.change) met.judged in
    goes_leave (continuation_at met.call met.condition met.change before) met.condition before met.committed after reply
    (kept_on_way met.call met.condition met.outputs met.change before met.committed well met.commits) met.goes

commanded_leaves : (before after : TaskContext) (reply : TurnReply) (abend_record : Option AbendRecord) → PerformsCommand before reply abend_record after → LeavesCallers reply before.task after.task
commanded_leaves before after reply abend_record it =
    by_decision before after reply abend_record it (λ refusal abends. abends_leave (abend_code refusal) false before before after reply refl abends)
    (λ leaves. waits_leave before after reply leaves) (λ met. met_leaves before after reply met)

-- ---- instructions
runs_leave : (before after : TaskContext) (reply : TurnReply) (abend_record : Option AbendRecord) → RunsOn before reply abend_record after → LeavesCallers reply before.task after.task
unfolding EndsRun LeavesCallers
runs_leave before after reply abend_record it = by_halt it.how it.ends
  where
    same : it.between.task.levels ≡ before.task.levels
    same = ap (λ (r : TaskContext). r.task.levels) it.rest

    by_halt : (how : Halt) → EndsRun how it.between reply after → LeavesCallers reply before.task after.task
    by_halt halt.AtEntry over = rw (over.0, over.1) (ap (λ (l : Levels). l.callers) same)
    by_halt (halt.Interrupt cause place) abends = abends_leave (abend_code abend.Asra) false before it.between after reply same abends
    by_halt halt.Limit abends = abends_leave (abend_code abend.Aica) false before it.between after reply same abends

pub half_turns_leave_callers : HalfTurnsLeaveCallers
unfolding HalfTurnWith
half_turns_leave_callers before after reply half = by_due before.task.due half.turns
  where
    by_due : (b : Bool) → MatchBool b (PerformsCommand before reply half.abend_record after) (RunsOn before reply half.abend_record after) → LeavesCallers reply before.task after.task
    by_due true commanded = commanded_leaves before after reply half.abend_record commanded
    by_due false runs = runs_leave before after reply half.abend_record runs
