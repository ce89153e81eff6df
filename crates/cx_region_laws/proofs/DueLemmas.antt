-- Where a command is due the current level keeps registers and code.
use Rattle.std.proofs.Common.{◌≡◌, ◌<◌, Bool, true, false, List, [], ◌∷◌, length, Option, Some, None, refl, sym, ◌∙◌, ap, subst, arith}
use Rattle.std.specs.Prelude.{MatchBool, ℕ}
use Rattle.cx_base.specs.Abends.{abend_code}
use Rattle.cx_base.specs.declared.abends.Abend.TheVariants as abend
use Rattle.cx_base.specs.declared.conditions.Condition.{Condition}
use Rattle.cx_exec.specs.declared.machine.Halt.{Halt}
use Rattle.cx_exec.specs.declared.machine.Halt.TheVariants as halt
use Rattle.cx_program.specs.declared.level.Level.{Level}
use Rattle.cx_region_state.specs.declared.replies.TurnReply.{TurnReply}
use Rattle.cx_region_state.specs.Replies.{is_over}
use Rattle.cx_region_state.specs.State.{TaskContext}
use Rattle.cx_region_task.specs.declared.continuation.Continuation.{Continuation}
use Rattle.cx_region_task.specs.declared.continuation.Continuation.TheVariants as continuation
use Rattle.cx_region_task.specs.Abends.{Abends, AbendsAt, exit_task}
use Rattle.cx_region_task.specs.Decisions.{continuation_at}
use Rattle.cx_region_task.specs.Performing.{LeavesAll}
use Rattle.cx_region_task.specs.Facts.Met.{IsMet, by_decision}
use Rattle.cx_region_task.specs.declared.cause.AbendRecord.{AbendRecord}
use Rattle.cx_region_task.specs.Turn.{HalfTurn, HalfTurnWith, PerformsCommand, EndsRun, RunsOn}
use Rattle.cx_region_task.specs.Continuations.{Goes, enter_level, is_wait, replace_level, return_to_caller, returned_to}
use Rattle.cx_region_laws.specs.Laws.Levels.{DueIsKept, Keeps}
use Rattle.cx_region_laws.proofs.CallerLemmas.{settles_task}
use Rattle.cx_region_laws.proofs.ReturnLemmas.{returns_have_callers}

-- what is asked of a half-turn
abbrev Asked : TaskContext → TurnReply → TaskContext → Type 0
Asked before reply after = (before.task.due ≡ true → Keeps before.task) → is_over reply ≡ false → after.task.due ≡ true → Keeps after.task

-- no command is due after it
undue : (before after : TaskContext) (reply : TurnReply) → after.task.due ≡ false → Asked before reply after
undue before after reply e keeps over due = absurd (let no : true ≡ false = sym due ∙ e in cc)

abends_due : (code : List ℕ) (cancel : Bool) (before mid after : TaskContext) (reply : TurnReply) → Abends code cancel mid reply after → Asked before reply after
unfolding AbendsAt exit_task
abends_due code cancel before mid after reply it keeps over due = go it.exit it.ends
  where
    go : (o : Option ℕ) → AbendsAt o code mid reply after → Keeps after.task
    go None ends = absurd (let yes : is_over reply ≡ true = ap is_over ends.0 in let no : true ≡ false = sym yes ∙ over in cc)
    go (Some index) ends = undue before after reply (ap (λ (r : TaskContext). r.task.due) ends.1) keeps over due

returned_due : (callers : List Level) (committed : TaskContext) → 0 < length callers → (returned_to callers committed).task.due ≡ false
returned_due [] committed some = absurd (omega (arith, some))
returned_due (caller ∷ callers) committed some = refl

goes_due : (gone : Continuation) (condition : Condition) (before committed after : TaskContext) (reply : TurnReply) → is_wait gone ≡ false → committed.task.levels.callers ≡ before.task.levels.callers
    → HalfTurn before reply after → Goes gone condition committed reply after → Asked before reply after
unfolding Goes enter_level replace_level return_to_caller
goes_due continuation.GoesOn condition before committed after reply wait same half goes = undue before after reply (ap (λ (r : TaskContext). r.task.due) goes.1)
goes_due (continuation.TakesLabel label) condition before committed after reply wait same half goes = undue before after reply (ap (λ (r : TaskContext). r.task.due) goes.1)
goes_due continuation.Waits condition before committed after reply wait same half goes = absurd (let no : true ≡ false = wait in cc)
goes_due (continuation.Abends code cancel) condition before committed after reply wait same half goes = abends_due code cancel before committed after reply goes
goes_due (continuation.Enters level) condition before committed after reply wait same half goes = undue before after reply (ap (λ (r : TaskContext). r.task.due) goes.1)
goes_due (continuation.Replaces level) condition before committed after reply wait same half goes = undue before after reply (ap (λ (r : TaskContext). r.task.due) goes.1)
goes_due continuation.LevelEnds condition before committed after reply wait same half goes =
    let some = returns_have_callers before after (subst (λ (r : TurnReply). HalfTurn before r after) goes.0 half) in
    let have : 0 < length committed.task.levels.callers = subst (λ (l : List Level). 0 < length l) (sym same) some in
    undue before after reply (ap (λ (r : TaskContext). r.task.due) goes.1 ∙ returned_due committed.task.levels.callers committed have)
goes_due continuation.TaskEnds condition before committed after reply wait same half goes =
    λ keeps over due. absurd (let yes : is_over reply ≡ true = ap is_over goes.0 in let no : true ≡ false = sym yes ∙ over in cc)

waits_due : (before after : TaskContext) (reply : TurnReply) → LeavesAll before reply after → Asked before reply after
waits_due before after reply it keeps over due =
    subst (λ (r : TaskContext). Keeps r.task) (sym it.same) (keeps (sym (ap (λ (r : TaskContext). r.task.due) it.same) ∙ due))

met_due : (before after : TaskContext) (reply : TurnReply) → HalfTurn before reply after → IsMet reply before after → Asked before reply after
met_due before after reply half met =
    goes_due (continuation_at met.call met.condition met.change before) met.condition before met.committed after reply met.moves
    (settles_task met.call met.condition met.outputs met.change before met.committed met.commits).callers half met.goes

commanded_due : (before after : TaskContext) (reply : TurnReply) (abend_record : Option AbendRecord) → HalfTurn before reply after → PerformsCommand before reply abend_record after → Asked before reply after
commanded_due before after reply abend_record half it =
    by_decision before after reply abend_record it (λ refusal abends. abends_due (abend_code refusal) false before before after reply abends)
    (λ leaves. waits_due before after reply leaves) (λ met. met_due before after reply half met)

runs_due : (before after : TaskContext) (reply : TurnReply) (abend_record : Option AbendRecord) → RunsOn before reply abend_record after → Asked before reply after
unfolding EndsRun
runs_due before after reply abend_record it = by_halt it.how it.ends
  where
    by_halt : (how : Halt) → EndsRun how it.between reply after → Asked before reply after
    by_halt halt.AtEntry ends = λ keeps over due. rw (ends.1) (record { regs = refl; cc = refl })
    by_halt (halt.Interrupt cause place) abends = abends_due (abend_code abend.Asra) false before it.between after reply abends
    by_halt halt.Limit abends = abends_due (abend_code abend.Aica) false before it.between after reply abends

pub due_is_kept : DueIsKept
unfolding HalfTurnWith
due_is_kept before after reply keeps half over due = by_due before.task.due half.turns keeps over due
  where
    by_due : (b : Bool) → MatchBool b (PerformsCommand before reply half.abend_record after) (RunsOn before reply half.abend_record after) → Asked before reply after
    by_due true commanded = commanded_due before after reply half.abend_record half commanded
    by_due false runs = runs_due before after reply half.abend_record runs
