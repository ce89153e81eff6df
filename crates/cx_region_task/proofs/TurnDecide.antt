-- A half-turn is decided by what was reached before.
use Rattle.std.proofs.Common.{◌≡◌, ℕ, Bool, true, false, Option, Some, None, List, sym, ◌∙◌, ap, subst}
use Rattle.std.specs.Prelude.{MatchBool}
use Rattle.cx_base.specs.Abends.{abend_code}
use Rattle.cx_base.specs.declared.conditions.Condition.{Condition}
use Rattle.cx_exec.specs.declared.machine.Halt.{Halt}
use Rattle.cx_exec.specs.declared.machine.Halt.TheVariants as halt
use Rattle.cx_exec.specs.Advance.{Advances}
use Rattle.cx_exec_laws.specs.Laws.Decide.{RunsDecide}
use Rattle.cx_program.specs.Facts.NearestExit.{nearest_exit_one}
use Rattle.cx_program.specs.Levels.{Levels, all_levels}
use Rattle.cx_service.specs.Screen.{ShowsText}
use Rattle.cx_region_commands.specs.Laws.Rows.{JudgedOnce}
use Rattle.cx_region_state.specs.declared.replies.TurnReply.{TurnReply}
use Rattle.cx_region_state.specs.declared.verdict.TaskChange.{TaskChange}
use Rattle.cx_region_state.specs.declared.verdict.TaskChange.TheVariants.{Nothing, Before, After, Gets, Enters, Replaces, LevelEnds, TaskEnds, AbendsWith}
use Rattle.cx_region_state.specs.declared.verdict.BeforeOutputs.{BeforeOutputs}
use Rattle.cx_region_state.specs.declared.verdict.BeforeOutputs.TheVariants as made
use Rattle.cx_region_state.specs.Areas.{bytes_in}
use Rattle.cx_region_state.specs.State.{TaskContext}
use Rattle.cx_region_task.specs.declared.continuation.Continuation.{Continuation}
use Rattle.cx_region_task.specs.declared.continuation.Continuation.TheVariants as continuation
use Rattle.cx_region_task.specs.Abends.{Abends, AbendsAt, IsExit}
use Rattle.cx_region_task.specs.declared.cause.AbendRecord.{AbendRecord}
use Rattle.cx_region_task.specs.declared.decision.Act.{Act}
use Rattle.cx_region_task.specs.declared.decision.Decision.{Decision}
use Rattle.cx_region_task.specs.declared.decision.Decision.TheVariants as decision
use Rattle.cx_region_task.specs.Changes.{AppliesBefore, apply_after, write_outputs, report_of, write_report}
use Rattle.cx_region_task.specs.Laws.HalfTurns.{HalfTurnsDecide}
use Rattle.cx_region_task.specs.Performing.{CarriesOut, Does}
use Rattle.cx_region_task.specs.Turn.{HalfTurnWith, PerformsCommand, EndsRun, RunsOn, after_machine, machine_of, most_steps}
use Rattle.cx_region_task.specs.Continuations.{Goes}
use Rattle.cx_region_task.proofs.DecideLemmas.{decisions_decide}

abbrev Same : TurnReply → TurnReply → TaskContext → TaskContext → Type 0
Same p q a b = (p ≡ q) × (a ≡ b)

abbrev ShownOnce : Type 0
ShownOnce = (old : List (List ℕ)) (text : List ℕ) (erase : Bool) (one other : List (List ℕ)) → ShowsText old text erase one → ShowsText old text erase other → one ≡ other

same_answers : (p q x : TurnReply) (a b y : TaskContext) → (p ≡ x) × (a ≡ y) → (q ≡ x) × (b ≡ y) → Same p q a b
same_answers p q x a b y one two = (one.0 ∙ sym two.0, one.1 ∙ sym two.1)

exits_decide : (cancel : Bool) (levels : Levels) (one other : Option ℕ) → IsExit cancel levels one → IsExit cancel levels other → one ≡ other
exits_decide true levels one other p q = p ∙ sym q
exits_decide false levels one other p q = nearest_exit_one (all_levels levels) one other p q

abends_decide : (code : List ℕ) (cancel : Bool) (before : TaskContext) (p q : TurnReply) (a b : TaskContext) → Abends code cancel before p a → Abends code cancel before q b → Same p q a b
unfolding AbendsAt
abends_decide code cancel before p q a b h k =
    by_exit k.exit (subst (λ (exit : Option ℕ). AbendsAt exit code before p a) (exits_decide cancel before.task.levels h.exit k.exit h.takes k.takes) h.ends) k.ends
  where
    by_exit : (exit : Option ℕ) → AbendsAt exit code before p a → AbendsAt exit code before q b → Same p q a b
    by_exit None one two = same_answers p q _ a b _ one two
    by_exit (Some index) one two = same_answers p q _ a b _ one two

made_decides : ShownOnce → (it : BeforeOutputs) (before a b : TaskContext) → AppliesBefore (Before it) before a → AppliesBefore (Before it) before b → a ≡ b
unfolding AppliesBefore
made_decides shown (made.ItemLast name piece) before a b h k = h ∙ sym k
made_decides shown (made.ItemAt name n piece) before a b h k = h ∙ sym k
made_decides shown (made.Enqueues resource) before a b h k = h ∙ sym k
made_decides shown (made.Handles request) before a b h k = h ∙ sym k
made_decides shown (made.Shows piece erase) before a b h k =
    h.others ∙ ap (λ (screen : List (List ℕ)). record before { terminal_entry = record before.terminal_entry { screen = screen } }) (shown before.terminal_entry.screen (bytes_in before.shared.storage piece) erase a.terminal_entry.screen b.terminal_entry.screen h.text k.text) ∙ sym k.others

applied_decides : ShownOnce → (change : TaskChange) (before a b : TaskContext) → AppliesBefore change before a → AppliesBefore change before b → a ≡ b
unfolding AppliesBefore
applied_decides shown Nothing before a b h k = h ∙ sym k
applied_decides shown (Before it) before a b h k = made_decides shown it before a b h k
applied_decides shown (After it) before a b h k = h ∙ sym k
applied_decides shown (Gets got) before a b h k = h ∙ sym k
applied_decides shown (Enters level) before a b h k = h ∙ sym k
applied_decides shown (Replaces copying level) before a b h k = h ∙ sym k
applied_decides shown LevelEnds before a b h k = h ∙ sym k
applied_decides shown (TaskEnds next) before a b h k = h ∙ sym k
applied_decides shown (AbendsWith code cancel) before a b h k = h ∙ sym k

goes_decides : (gone : Continuation) (condition : Condition) (committed : TaskContext) (p q : TurnReply) (a b : TaskContext) → Goes gone condition committed p a → Goes gone condition committed q b → Same p q a b
unfolding Goes
goes_decides continuation.GoesOn condition committed p q a b h k = same_answers p q _ a b _ h k
goes_decides (continuation.TakesLabel label) condition committed p q a b h k = same_answers p q _ a b _ h k
goes_decides continuation.Waits condition committed p q a b h k = same_answers p q _ a b _ h k
goes_decides (continuation.Abends code cancel) condition committed p q a b h k = abends_decide code cancel committed p q a b h k
goes_decides (continuation.Enters level) condition committed p q a b h k = same_answers p q _ a b _ h k
goes_decides (continuation.Replaces level) condition committed p q a b h k = same_answers p q _ a b _ h k
goes_decides continuation.LevelEnds condition committed p q a b h k = same_answers p q _ a b _ h k
goes_decides continuation.TaskEnds condition committed p q a b h k = same_answers p q _ a b _ h k

does_decides : ShownOnce → (act : Act) (before : TaskContext) (p q : TurnReply) (a b : TaskContext) → Does act before p a → Does act before q b → Same p q a b
does_decides shown act before p q a b h k =
    let made = applied_decides shown act.change before h.commits.made k.commits.made h.commits.applied k.commits.applied in
    let committed : h.committed ≡ k.committed =
    h.commits.committed
    ∙ ap (λ (r : TaskContext). apply_after act.change (write_report act.call (report_of act.call act.condition act.change before) (write_outputs act.call act.outputs act.change r))) made ∙ sym k.commits.committed in
    goes_decides act.continuation act.condition k.committed p q a b (subst (λ (r : TaskContext). Goes act.continuation act.condition r p a) committed h.goes) k.goes

carried_decides : ShownOnce → (decided : Decision) (before : TaskContext) (p q : TurnReply) (a b : TaskContext) → CarriesOut decided before p a → CarriesOut decided before q b → Same p q a b
unfolding CarriesOut
carried_decides shown (decision.Refuse call refusal) before p q a b h k = abends_decide (abend_code refusal) false before p q a b h k
carried_decides shown (decision.Wait call wait) before p q a b h k = same_answers p q _ a b _ (h.waiting, h.same) (k.waiting, k.same)
carried_decides shown (decision.Act act) before p q a b h k = does_decides shown act before p q a b h k

halts_decide : (how : Halt) (before : TaskContext) (p q : TurnReply) (a b : TaskContext) → EndsRun how before p a → EndsRun how before q b → Same p q a b
unfolding EndsRun
halts_decide halt.AtEntry before p q a b h k = same_answers p q _ a b _ h k
halts_decide (halt.Interrupt cause place) before p q a b h k = abends_decide _ false before p q a b h k
halts_decide halt.Limit before p q a b h k = abends_decide _ false before p q a b h k

runs_decide : ((limit : ℕ) → RunsDecide (Advances limit)) → (before : TaskContext) (p q : TurnReply) (one other : Option AbendRecord) (a b : TaskContext) → RunsOn before p one a → RunsOn before q other b → Same p q a b
runs_decide runs before p q one other a b h k =
    let same = runs most_steps (machine_of before) h.how k.how (machine_of h.between) (machine_of k.between) h.advances k.advances in
    let between : h.between ≡ k.between = h.rest ∙ ap (after_machine before) same.1 ∙ sym k.rest in
    let first : EndsRun k.how h.between p a = subst (λ (how : Halt). EndsRun how h.between p a) same.0 h.ends in
    halts_decide k.how k.between p q a b (subst (λ (r : TaskContext). EndsRun k.how r p a) between first) k.ends

commands_decide : ShownOnce → JudgedOnce → (before : TaskContext) (p q : TurnReply) (one other : Option AbendRecord) (a b : TaskContext) → PerformsCommand before p one a → PerformsCommand before q other b → Same p q a b
commands_decide shown judged before p q one other a b h k =
    let same = decisions_decide judged before h.decided k.decided h.decides k.decides in
    carried_decides shown k.decided before p q a b (subst (λ (decided : Decision). CarriesOut decided before p a) same h.carries) k.carries

pub half_turns_decide : ((limit : ℕ) → RunsDecide (Advances limit)) → ShownOnce → JudgedOnce → HalfTurnsDecide
unfolding HalfTurnWith
half_turns_decide runs shown judged before a b p q h k = by_due before.task.due h.turns k.turns
  where
    by_due : (due : Bool) → MatchBool due (PerformsCommand before p h.abend_record a) (RunsOn before p h.abend_record a)
        → MatchBool due (PerformsCommand before q k.abend_record b) (RunsOn before q k.abend_record b) → Same p q a b
    by_due true one two = commands_decide shown judged before p q h.abend_record k.abend_record a b one two
    by_due false one two = runs_decide runs before p q h.abend_record k.abend_record a b one two
