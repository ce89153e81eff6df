-- How a half-turn comes to the abend that an exit takes.
use Rattle.std.proofs.Common.{◌≡◌, ℕ, Bool, true, false, Option, Some, None, List, refl, sym, ◌∙◌, ap, subst, inl, inr}
use Rattle.std.specs.Prelude.{◌⊎◌, MatchBool, if◌then◌else◌}
use Rattle.std.proofs.lemmas.Bool.{true≢false}
use Rattle.cx_base.specs.Abends.{abend_code}
use Rattle.cx_base.specs.declared.abends.Abend.TheVariants as kind
use Rattle.cx_base.specs.declared.conditions.Condition.{Condition}
use Rattle.cx_exec.specs.declared.machine.Halt.{Halt}
use Rattle.cx_exec.specs.declared.machine.Halt.TheVariants as halt
use Rattle.cx_exec.specs.Advance.{Advances}
use Rattle.cx_program.specs.declared.choice.Choice.{Choice}
use Rattle.cx_region_state.specs.declared.outputs.Output.{Output}
use Rattle.cx_region_state.specs.Call.{Call}
use Rattle.cx_region_state.specs.declared.replies.TurnReply.TheVariants as turn
use Rattle.cx_region_state.specs.declared.verdict.TaskChange.{TaskChange}
use Rattle.cx_region_state.specs.declared.verdict.TaskChange.TheVariants.{Nothing, Before, After, Gets, Enters, Replaces, LevelEnds, TaskEnds, AbendsWith}
use Rattle.cx_region_state.specs.declared.verdict.Verdict.TheVariants.{Meets}
use Rattle.cx_region_state.specs.State.{TaskContext}
use Rattle.cx_region_task.specs.declared.continuation.Continuation.{Continuation}
use Rattle.cx_region_task.specs.declared.continuation.Continuation.TheVariants as continuation
use Rattle.cx_region_task.specs.Abends.{Abends, AbendsAt}
use Rattle.cx_region_task.specs.Decisions.{continuation_at}
use Rattle.cx_region_task.specs.Performing.{LeavesAll}
use Rattle.cx_region_task.specs.Facts.Met.{IsMet, by_decision}
use Rattle.cx_region_task.specs.declared.cause.AbendRecord.{AbendRecord}
use Rattle.cx_region_task.specs.Turn.{HalfTurnWith, PerformsCommand, EndsRun, RunsOn, machine_of, most_steps}
use Rattle.cx_region_task.specs.Continuations.{Goes, choice_for, is_normal, continuation_by, continuation_chosen, continuation_of}
use Rattle.cx_region_laws.specs.Laws.Exits.{ComesToAbend, ComesToExit, HalfTurnsTakeExits, HasDone, HaveRun, TakesExit}
use Rattle.cx_region_laws.proofs.ExitLemmas.{exits_are_nearest}
use Rattle.cx_region_laws.proofs.LevelLemmas.{IsWell, is_request, judged_well, settles_levels}

-- the way of an abend is one of a change that asks for no handles
pub is_abend : Continuation → Bool
is_abend (continuation.Abends code cancel) = true
is_abend _ = false

change_asks_none : (change : TaskChange) → is_abend (continuation_by change) ≡ true → is_request change ≡ false
unfolding is_abend is_request
change_asks_none Nothing e = cc
change_asks_none (Before made) e = cc
change_asks_none (After ended) e = cc
change_asks_none (Gets got) e = cc
change_asks_none (Enters level) e = cc
change_asks_none (Replaces copying level) e = cc
change_asks_none LevelEnds e = cc
change_asks_none (TaskEnds next) e = cc
change_asks_none (AbendsWith code cancel) e = refl

way_asks_none : (call : Call) (condition : Condition) (outputs : List Output) (change : TaskChange) (r : TaskContext) → IsWell (Meets condition outputs change)
    → is_abend (continuation_at call condition change r) ≡ true → is_request change ≡ false
unfolding continuation_of
way_asks_none call condition outputs change r well abends = either (is_normal condition) refl abends
  where
    chosen : Choice
    chosen = choice_for call r.task.levels.current.handles.active.entries condition

    unasked : (b : Bool) → is_request change ≡ b → is_normal condition ≡ false → is_request change ≡ false
    unasked true asks abnormal = absurd (true≢false (sym (well asks) ∙ abnormal))
    unasked false asks abnormal = asks

    either : (normal : Bool) → is_normal condition ≡ normal → is_abend (if normal then continuation_by change else continuation_chosen chosen) ≡ true → is_request change ≡ false
    either true e abends = change_asks_none change abends
    either false e abends = unasked (is_request change) refl e

-- an abend with whatever code that an exit took
pub takes : (own : List ℕ) (cancel : Bool) (code : List ℕ) (before after : TaskContext) → Abends own cancel before (turn.TookExit code) after → TakesExit before after
unfolding AbendsAt
takes own cancel code before after it = exits_are_nearest code cancel before after (record { exit = it.exit; takes = it.takes; ends = go it.exit it.ends })
  where
    go : (o : Option ℕ) → AbendsAt o own before (turn.TookExit code) after → AbendsAt o code before (turn.TookExit code) after
    go None over = let no : turn.TookExit code ≡ turn.Abended own = over.0 in cc
    go (Some index) over = (refl, over.1)

-- the way of a command of which an exit took an abend
pub goes_abend : (gone : Continuation) (condition : Condition) (code : List ℕ) (committed after : TaskContext) → Goes gone condition committed (turn.TookExit code) after
    → (is_abend gone ≡ true) × TakesExit committed after
unfolding Goes is_abend
goes_abend continuation.GoesOn condition code committed after goes = let no : turn.TookExit code ≡ turn.Performed condition = goes.0 in cc
goes_abend (continuation.TakesLabel label) condition code committed after goes = let no : turn.TookExit code ≡ turn.TookLabel condition = goes.0 in cc
goes_abend continuation.Waits condition code committed after goes = let no : turn.TookExit code ≡ turn.Waiting = goes.0 in cc
goes_abend (continuation.Abends own cancel) condition code committed after goes = (refl, takes own cancel code committed after goes)
goes_abend (continuation.Enters level) condition code committed after goes = let no : turn.TookExit code ≡ turn.Entered = goes.0 in cc
goes_abend (continuation.Replaces level) condition code committed after goes = let no : turn.TookExit code ≡ turn.Entered = goes.0 in cc
goes_abend continuation.LevelEnds condition code committed after goes = let no : turn.TookExit code ≡ turn.Returned = goes.0 in cc
goes_abend continuation.TaskEnds condition code committed after goes = let no : turn.TookExit code ≡ turn.Ended = goes.0 in cc

-- ---- a command
-- how the command that is due comes to the abend
record IsCome (before after : TaskContext) : Type 0 where
  abend : TaskContext
  comes : (abend ≡ before) ⊎ HasDone before abend
  levels : abend.task.levels ≡ before.task.levels
  takes : TakesExit abend after

at_once : (own : List ℕ) (code : List ℕ) (before after : TaskContext) → Abends own false before (turn.TookExit code) after → IsCome before after
at_once own code before after it = record { abend = before; comes = inl refl; levels = refl; takes = takes own false code before after it }

waits_not : (code : List ℕ) (before after : TaskContext) → LeavesAll before (turn.TookExit code) after → IsCome before after
waits_not code before after it = let no : turn.TookExit code ≡ turn.Waiting = it.waiting in cc

met_comes : (code : List ℕ) (before after : TaskContext) → IsMet (turn.TookExit code) before after → IsCome before after
met_comes code before after met =
    let verdict = Meets met.condition met.outputs met.change in
    let abends = goes_abend (continuation_at met.call met.condition met.change before) met.condition code met.committed after met.goes in
    record {
      abend = met.committed;
      comes = inr (record { call = met.call; reads = met.reads; condition = met.condition; outputs = met.outputs; change = met.change; judged = met.judged; commits = met.commits });
      levels =
          settles_levels met.call met.condition met.outputs met.change before met.committed
          (way_asks_none met.call met.condition met.outputs met.change before (judged_well met.call before verdict met.judged) abends.0) met.commits;
      takes = abends.1;
    }

commanded_comes : (code : List ℕ) (before after : TaskContext) (abend_record : Option AbendRecord) → PerformsCommand before (turn.TookExit code) abend_record after → IsCome before after
commanded_comes code before after abend_record it =
    by_decision before after (turn.TookExit code) abend_record it (λ refusal abends. at_once (abend_code refusal) code before after abends)
    (λ leaves. waits_not code before after leaves) (λ met. met_comes code before after met)

-- ---- instructions
record HasRunTo (before after : TaskContext) : Type 0 where
  abend : TaskContext
  run : HaveRun before abend
  levels : abend.task.levels ≡ before.task.levels
  takes : TakesExit abend after

runs_come : (code : List ℕ) (before after : TaskContext) (abend_record : Option AbendRecord) → RunsOn before (turn.TookExit code) abend_record after → HasRunTo before after
unfolding EndsRun
runs_come code before after abend_record it = by_halt it.how it.advances it.ends
  where
    come : (how : Halt) → Advances most_steps (machine_of before) how (machine_of it.between) → TakesExit it.between after → HasRunTo before after
    come how advances taken =
        record {
          abend = it.between;
          run = record { how = how; advances = advances; rest = it.rest };
          levels = ap (λ (r : TaskContext). r.task.levels) it.rest;
          takes = taken;
        }

    by_halt : (how : Halt) → Advances most_steps (machine_of before) how (machine_of it.between) → EndsRun how it.between (turn.TookExit code) after → HasRunTo before after
    by_halt halt.AtEntry advances over = let no : turn.TookExit code ≡ turn.AtCommand = over.0 in cc
    by_halt (halt.Interrupt cause place) advances abends = come (halt.Interrupt cause place) advances (takes (abend_code kind.Asra) false code it.between after abends)
    by_halt halt.Limit advances abends = come halt.Limit advances (takes (abend_code kind.Aica) false code it.between after abends)

comes_by : (before abend : TaskContext) (b : Bool) → before.task.due ≡ b → MatchBool b ((abend ≡ before) ⊎ HasDone before abend) (HaveRun before abend) → ComesToAbend before abend
comes_by before abend b due it = subst (λ b. MatchBool b ((abend ≡ before) ⊎ HasDone before abend) (HaveRun before abend)) (sym due) it

pub half_turns_take_exits : HalfTurnsTakeExits
unfolding HalfTurnWith
half_turns_take_exits code before after half = by_due before.task.due refl half.turns
  where
    by_due : (b : Bool) → before.task.due ≡ b → MatchBool b (PerformsCommand before (turn.TookExit code) half.abend_record after) (RunsOn before (turn.TookExit code) half.abend_record after) → ComesToExit before after
    by_due true due commanded =
        let it = commanded_comes code before after half.abend_record commanded in
        record { abend = it.abend; comes = comes_by before it.abend true due it.comes; levels = it.levels; takes = it.takes }
    by_due false due runs =
        let it = runs_come code before after half.abend_record runs in
        record { abend = it.abend; comes = comes_by before it.abend false due it.run; levels = it.levels; takes = it.takes }
