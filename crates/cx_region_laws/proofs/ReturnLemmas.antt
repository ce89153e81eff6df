-- A half-turn is answered Returned only where there is a caller.
use Rattle.std.proofs.Common.{◌≡◌, ℕ, ◌<◌, Bool, true, false, List, [], ◌∷◌, length, Option, Some, None, refl, sym, ◌∙◌, ap, subst, arith, inl, inr}
use Rattle.std.specs.List.{list_any}
use Rattle.std.specs.Prelude.{◌&&◌, ◌||◌, not, MatchBool, if◌then◌else◌}
use Rattle.std.proofs.lemmas.Bool.{cases_Bool, true≢false}
use Rattle.cx_base.specs.Abends.{abend_code}
use Rattle.cx_base.specs.declared.abends.Abend.TheVariants as abend
use Rattle.cx_base.specs.declared.commands.Command.{Command}
use Rattle.cx_base.specs.declared.commands.Command.TheVariants as command
use Rattle.cx_base.specs.declared.conditions.Condition.{Condition}
use Rattle.cx_base.specs.declared.options.OptionName.TheVariants as option
use Rattle.cx_exec.specs.declared.machine.Halt.{Halt}
use Rattle.cx_exec.specs.declared.machine.Halt.TheVariants as halt
use Rattle.cx_program.specs.declared.choice.Choice.{Choice}
use Rattle.cx_program.specs.declared.choice.Choice.TheVariants as choice
use Rattle.cx_program.specs.declared.level.Level.{Level}
use Rattle.cx_region_state.specs.Call.{Call}
use Rattle.cx_region_state.specs.Inputs.{is_length_negative}
use Rattle.cx_region_state.specs.State.{TaskContext}
use Rattle.cx_region_state.specs.declared.replies.TurnReply.TheVariants as turn
use Rattle.cx_region_state.specs.declared.verdict.TaskChange.{TaskChange}
use Rattle.cx_region_state.specs.declared.verdict.TaskChange.TheVariants.{Nothing, Before, After, Gets, Enters, Replaces, LevelEnds, TaskEnds, AbendsWith}
use Rattle.cx_region_state.specs.declared.verdict.Verdict.{Verdict}
use Rattle.cx_region_state.specs.declared.verdict.Verdict.TheVariants.{Meets}
use Rattle.cx_region_commands.specs.Common.{has}
use Rattle.cx_region_commands.specs.CommandVerdicts.{HasVerdict, JudgedBy}
use Rattle.cx_region_commands.specs.Return.{highest_return, return_row}
use Rattle.cx_region_task.specs.declared.continuation.Continuation.{Continuation}
use Rattle.cx_region_task.specs.declared.continuation.Continuation.TheVariants as continuation
use Rattle.cx_region_task.specs.Abends.{Abends, AbendsAt}
use Rattle.cx_region_task.specs.Decisions.{continuation_at}
use Rattle.cx_region_task.specs.Performing.{LeavesAll}
use Rattle.cx_region_task.specs.Facts.Met.{IsMet, by_decision}
use Rattle.cx_region_task.specs.declared.cause.AbendRecord.{AbendRecord}
use Rattle.cx_region_task.specs.Turn.{HalfTurnWith, PerformsCommand, EndsRun, RunsOn}
use Rattle.cx_region_task.specs.Continuations.{Goes, choice_for, is_normal, continuation_by, continuation_chosen, continuation_of}
use Rattle.cx_region_laws.specs.Laws.Levels.{ReturnsHaveCallers}
use Rattle.cx_region_laws.proofs.RowLemmas.{EndsLevel, Kind, has_kind, kind_of, kinds_of, passes}

-- whether a change ends a level, and whether one of a kind does
unfoldable pub ends_level : TaskChange → Bool
ends_level LevelEnds = true
ends_level _ = false

abbrev is_level_end : Kind → Bool
is_level_end EndsLevel = true
is_level_end _ = false

ends_kind : (change : TaskChange) → ends_level change ≡ true → is_level_end (kind_of change) ≡ true
unfolding ends_level
ends_kind LevelEnds e = refl
ends_kind _ e = cc

-- ---- RETURN
-- a level has linked to the current one, and a condition that is met is NORMAL
abbrev pub EndsWell : TaskContext → Verdict → Type 0
EndsWell r (Meets condition outputs change) = (0 < length r.task.levels.callers) × (is_normal condition ≡ true)
EndsWell r _ = 0 < length r.task.levels.callers

return_ends : (call : Call) (r : TaskContext) (v : Verdict) → v ≡ return_row r.shared.storage r.task.levels.callers call → passes ends_level v ≡ true → EndsWell r v
unfolding return_row passes ends_level
return_ends call r v is e = subst (EndsWell r) (sym is) (go r.task.levels.callers refl (sym (ap (passes ends_level) is) ∙ e))
  where
    highest : passes ends_level (highest_return r.shared.storage call) ≡ false
    highest = elim (cases_Bool (has call option.Commarea && not (has call option.Transid))) [
      | inl t ↦ rw t refl
      | inr f ↦ elim (cases_Bool (is_length_negative r.shared.storage call)) [
        | inl y ↦ rw (f, y) refl
        | inr n ↦ rw (f, n) refl
      ]
    ]

    go : (callers : List Level) → r.task.levels.callers ≡ callers → passes ends_level (return_row r.shared.storage callers call) ≡ true → EndsWell r (return_row r.shared.storage callers call)
    go [] same e = absurd (true≢false (sym e ∙ highest))
    go (caller ∷ callers) same e = elim (cases_Bool (has call option.Transid || has call option.Commarea)) [
      | inl t ↦ let never = rw t at e in cc
      | inr f ↦ rw f (rw same (omega arith), refl)
    ]

pub judged_ends : (call : Call) (r : TaskContext) (v : Verdict) → HasVerdict call r v → passes ends_level v ≡ true → EndsWell r v
unfolding HasVerdict
judged_ends call r v judged e = go call.command judged (has_kind ends_level is_level_end ends_kind call r v judged e)
  where
    go : (c : Command) → JudgedBy c call r v → list_any is_level_end (kinds_of c) ≡ true → EndsWell r v
    go command.Return is ends = return_ends call r v is e
    go _ is ends = absurd (true≢false (sym ends))

-- ---- the way of a level's end
ends_by : (change : TaskChange) → continuation_by change ≡ continuation.LevelEnds → ends_level change ≡ true
unfolding ends_level
ends_by Nothing e = cc
ends_by (Before made) e = cc
ends_by (After ended) e = cc
ends_by (Gets got) e = cc
ends_by (Enters level) e = cc
ends_by (Replaces copying level) e = cc
ends_by LevelEnds e = refl
ends_by (TaskEnds next) e = cc
ends_by (AbendsWith code cancel) e = cc

not_chosen : (chosen : Choice) → continuation_chosen chosen ≡ continuation.LevelEnds → {P : Type 0} → P
not_chosen (choice.Label label) e = cc
not_chosen choice.GoOn e = cc
not_chosen choice.Wait e = cc
not_chosen (choice.Abend code) e = cc

pub way_ends : (call : Call) (condition : Condition) (change : TaskChange) (r : TaskContext) → continuation_at call condition change r ≡ continuation.LevelEnds → ends_level change ≡ true
unfolding continuation_of
way_ends call condition change r e = either (is_normal condition) e
  where
    chosen : Choice
    chosen = choice_for call r.task.levels.current.handles.active.entries condition

    either : (normal : Bool) → (if normal then continuation_by change else continuation_chosen chosen) ≡ continuation.LevelEnds → ends_level change ≡ true
    either true e = ends_by change e
    either false e = not_chosen chosen e

abends_not : (code : List ℕ) (cancel : Bool) (before after : TaskContext) → Abends code cancel before turn.Returned after → {P : Type 0} → P
unfolding AbendsAt
abends_not code cancel before after it = go it.exit it.ends
  where
    go : {P : Type 0} (o : Option ℕ) → AbendsAt o code before turn.Returned after → P
    go None over = let no : turn.Returned ≡ turn.Abended code = over.0 in cc
    go (Some index) over = let no : turn.Returned ≡ turn.TookExit code = over.0 in cc

pub goes_ends : (gone : Continuation) (condition : Condition) (committed after : TaskContext) → Goes gone condition committed turn.Returned after → gone ≡ continuation.LevelEnds
unfolding Goes
goes_ends continuation.GoesOn condition committed after goes = let no : turn.Returned ≡ turn.Performed condition = goes.0 in cc
goes_ends (continuation.TakesLabel label) condition committed after goes = let no : turn.Returned ≡ turn.TookLabel condition = goes.0 in cc
goes_ends continuation.Waits condition committed after goes = let no : turn.Returned ≡ turn.Waiting = goes.0 in cc
goes_ends (continuation.Abends code cancel) condition committed after goes = abends_not code cancel committed after goes
goes_ends (continuation.Enters level) condition committed after goes = let no : turn.Returned ≡ turn.Entered = goes.0 in cc
goes_ends (continuation.Replaces level) condition committed after goes = let no : turn.Returned ≡ turn.Entered = goes.0 in cc
goes_ends continuation.LevelEnds condition committed after goes = refl
goes_ends continuation.TaskEnds condition committed after goes = let no : turn.Returned ≡ turn.Ended = goes.0 in cc

-- ---- the half-turn
waits_not : (before after : TaskContext) → LeavesAll before turn.Returned after → {P : Type 0} → P
waits_not before after it = let no : turn.Returned ≡ turn.Waiting = it.waiting in cc

met_has : (before after : TaskContext) → IsMet turn.Returned before after → 0 < length before.task.levels.callers
unfolding passes
met_has before after met =
    (judged_ends met.call before (Meets met.condition met.outputs met.change) met.judged
    (way_ends met.call met.condition met.change before (goes_ends (continuation_at met.call met.condition met.change before) met.condition met.committed after met.goes))).0

commanded_has : (before after : TaskContext) (abend_record : Option AbendRecord) → PerformsCommand before turn.Returned abend_record after → 0 < length before.task.levels.callers
commanded_has before after abend_record it =
    by_decision before after turn.Returned abend_record it (λ refusal abends. abends_not (abend_code refusal) false before after abends)
    (λ leaves. waits_not before after leaves) (λ met. met_has before after met)

runs_not : (before after : TaskContext) (abend_record : Option AbendRecord) → RunsOn before turn.Returned abend_record after → {P : Type 0} → P
unfolding EndsRun
runs_not before after abend_record it = by_halt it.how it.ends
  where
    by_halt : {P : Type 0} (how : Halt) → EndsRun how it.between turn.Returned after → P
    by_halt halt.AtEntry over = let no : turn.Returned ≡ turn.AtCommand = over.0 in cc
    by_halt (halt.Interrupt cause place) abends = abends_not (abend_code abend.Asra) false it.between after abends
    by_halt halt.Limit abends = abends_not (abend_code abend.Aica) false it.between after abends

pub returns_have_callers : ReturnsHaveCallers
unfolding HalfTurnWith
returns_have_callers before after half = by_due before.task.due half.turns
  where
    by_due : (b : Bool) → MatchBool b (PerformsCommand before turn.Returned half.abend_record after) (RunsOn before turn.Returned half.abend_record after) → 0 < length before.task.levels.callers
    by_due true commanded = commanded_has before after half.abend_record commanded
    by_due false runs = runs_not before after half.abend_record runs
