-- A half-turn leaves its slot and the programs, and is answered as a task's.
use Rattle.std.proofs.Common.{◌≡◌, ◌∙◌, ℕ, Bool, true, false, Option, Some, None, List, [], ◌∷◌, refl, ap}
use Rattle.std.specs.Prelude.{MatchBool}
use Rattle.cx_base.specs.Abends.{abend_code}
use Rattle.cx_base.specs.declared.abends.Abend.TheVariants as abend
use Rattle.cx_base.specs.declared.conditions.Condition.{Condition}
use Rattle.cx_exec.specs.declared.machine.Halt.{Halt}
use Rattle.cx_exec.specs.declared.machine.Halt.TheVariants as halt
use Rattle.cx_program.specs.declared.level.Level.{Level}
use Rattle.cx_region_state.specs.declared.outputs.Output.{Output}
use Rattle.cx_region_state.specs.Call.{Call}
use Rattle.cx_region_state.specs.declared.replies.TurnReply.{TurnReply}
use Rattle.cx_region_state.specs.declared.replies.TurnReply.TheVariants as turn
use Rattle.cx_region_state.specs.declared.verdict.TaskChange.{TaskChange}
use Rattle.cx_region_state.specs.declared.verdict.TaskChange.TheVariants.{Nothing, Before, After, Gets, Enters, Replaces, LevelEnds, TaskEnds, AbendsWith}
use Rattle.cx_region_state.specs.declared.verdict.AfterOutputs.{AfterOutputs}
use Rattle.cx_region_state.specs.declared.verdict.AfterOutputs.TheVariants.{TakesInput, MarksRead, QueueGone, Dequeues, Frees}
use Rattle.cx_region_state.specs.declared.verdict.Fill.{Fill}
use Rattle.cx_region_state.specs.declared.verdict.Fill.TheVariants.{Byte, Item}
use Rattle.cx_region_state.specs.declared.verdict.BeforeOutputs.{BeforeOutputs}
use Rattle.cx_region_state.specs.declared.verdict.BeforeOutputs.TheVariants as made
use Rattle.cx_region_state.specs.State.{TaskContext}
use Rattle.cx_region_task.specs.declared.continuation.Continuation.{Continuation}
use Rattle.cx_region_task.specs.declared.continuation.Continuation.TheVariants as continuation
use Rattle.cx_region_task.specs.Abends.{Abends, AbendsAt}
use Rattle.cx_region_task.specs.declared.decision.Decision.{Decision}
use Rattle.cx_region_task.specs.declared.decision.Decision.TheVariants as decision
use Rattle.cx_region_task.specs.Changes.{AppliesBefore, Commits, apply_after, write_outputs, read_for, write_report}
use Rattle.cx_region_task.specs.Laws.HalfTurns.{HalfTurnStays, is_of_task}
use Rattle.cx_region_task.specs.Performing.{CarriesOut, LeavesAll}
use Rattle.cx_region_task.specs.Turn.{HalfTurn, HalfTurnWith, PerformsCommand, EndsRun, RunsOn}
use Rattle.cx_region_task.specs.Continuations.{Goes, enter_level, replace_level, return_to_caller, returned_to}

-- the slot and the programs stay
record Same (before after : TaskContext) : Type 0 where
  slot : after.terminal_entry.slot ≡ before.terminal_entry.slot
  programs : after.shared.programs ≡ before.shared.programs

-- at what equals a state that has them
same_at : (before to after : TaskContext) → after ≡ to → Same before to → Same before after
same_at before to after e same =
    record { slot = ap (λ (r : TaskContext). r.terminal_entry.slot) e ∙ same.slot; programs = ap (λ (r : TaskContext). r.shared.programs) e ∙ same.programs }

joined : (before between after : TaskContext) → Same before between → Same between after → Same before after
joined before between after one two = record { slot = two.slot ∙ one.slot; programs = two.programs ∙ one.programs }

stays_at : (before after : TaskContext) (reply reported : TurnReply) → Same before after → reply ≡ reported → is_of_task reported ≡ true → HalfTurnStays before reply after
stays_at before after reply reported same e of =
    record { slot = same.slot; programs = same.programs; answers = ap is_of_task e ∙ of }

-- ---- abends
abends_stay : (before mid after : TaskContext) (reply : TurnReply) (code : List ℕ) (cancel : Bool) → Same before mid → Abends code cancel mid reply after → HalfTurnStays before reply after
unfolding AbendsAt
abends_stay before mid after reply code cancel same it = go it.exit it.ends
  where
    go : (o : Option ℕ) → AbendsAt o code mid reply after → HalfTurnStays before reply after
    go None over = stays_at before after reply (turn.Abended code) (same_at before _ after over.1 (record { slot = same.slot; programs = same.programs })) over.0 refl
    go (Some index) over = stays_at before after reply (turn.TookExit code) (same_at before _ after over.1 (record { slot = same.slot; programs = same.programs })) over.0 refl

-- ---- the way
returned_same : (callers : List Level) (r : TaskContext) → Same r (returned_to callers r)
returned_same [] r = record { slot = refl; programs = refl }
returned_same (caller ∷ callers) r = record { slot = refl; programs = refl }

goes_stay : (gone : Continuation) (condition : Condition) (before committed after : TaskContext) (reply : TurnReply) → Same before committed → Goes gone condition committed reply after → HalfTurnStays before reply after
unfolding Goes enter_level replace_level return_to_caller
goes_stay continuation.GoesOn condition before committed after reply same goes =
    stays_at before after reply (turn.Performed condition) (same_at before _ after goes.1 (record { slot = same.slot; programs = same.programs })) goes.0 refl
goes_stay (continuation.TakesLabel label) condition before committed after reply same goes =
    stays_at before after reply (turn.TookLabel condition) (same_at before _ after goes.1 (record { slot = same.slot; programs = same.programs })) goes.0 refl
goes_stay continuation.Waits condition before committed after reply same goes =
    stays_at before after reply turn.Waiting (same_at before _ after goes.1 same) goes.0 refl
goes_stay (continuation.Abends code cancel) condition before committed after reply same goes = abends_stay before committed after reply code cancel same goes
goes_stay (continuation.Enters level) condition before committed after reply same goes =
    stays_at before after reply turn.Entered (same_at before _ after goes.1 (record { slot = same.slot; programs = same.programs })) goes.0 refl
goes_stay (continuation.Replaces level) condition before committed after reply same goes =
    stays_at before after reply turn.Entered (same_at before _ after goes.1 (record { slot = same.slot; programs = same.programs })) goes.0 refl
goes_stay continuation.LevelEnds condition before committed after reply same goes =
    stays_at before after reply turn.Returned (same_at before _ after goes.1 (joined before committed _ same (returned_same committed.task.levels.callers committed))) goes.0 refl
goes_stay continuation.TaskEnds condition before committed after reply same goes =
    stays_at before after reply turn.Ended (same_at before _ after goes.1 (record { slot = same.slot; programs = same.programs })) goes.0 refl

-- ---- what the command does
made_same : (it : BeforeOutputs) (before after : TaskContext) → AppliesBefore (Before it) before after → Same before after
unfolding AppliesBefore
made_same (made.ItemLast name piece) before after applied = same_at before _ after applied (record { slot = refl; programs = refl })
made_same (made.ItemAt name n piece) before after applied = same_at before _ after applied (record { slot = refl; programs = refl })
made_same (made.Enqueues resource) before after applied = same_at before _ after applied (record { slot = refl; programs = refl })
made_same (made.Shows piece erase) before after applied = same_at before _ after applied.others (record { slot = refl; programs = refl })
made_same (made.Handles request) before after applied = same_at before _ after applied (record { slot = refl; programs = refl })

applied_same : (change : TaskChange) (before after : TaskContext) → AppliesBefore change before after → Same before after
unfolding AppliesBefore
applied_same Nothing before after applied = same_at before _ after applied (record { slot = refl; programs = refl })
applied_same (Before it) before after applied = made_same it before after applied
applied_same (After it) before after applied = same_at before _ after applied (record { slot = refl; programs = refl })
applied_same (Gets got) before after applied = same_at before _ after applied (record { slot = refl; programs = refl })
applied_same (Enters level) before after applied = same_at before _ after applied (record { slot = refl; programs = refl })
applied_same (Replaces copying level) before after applied = same_at before _ after applied (record { slot = refl; programs = refl })
applied_same LevelEnds before after applied = same_at before _ after applied (record { slot = refl; programs = refl })
applied_same (TaskEnds next) before after applied = same_at before _ after applied (record { slot = refl; programs = refl })
applied_same (AbendsWith code cancel) before after applied = same_at before _ after applied (record { slot = refl; programs = refl })

ended_same : (it : AfterOutputs) (r : TaskContext) → Same r (apply_after (After it) r)
unfolding apply_after
ended_same TakesInput r = record { slot = refl; programs = refl }
ended_same (MarksRead name n) r = record { slot = refl; programs = refl }
ended_same (QueueGone name) r = record { slot = refl; programs = refl }
ended_same (Dequeues resource) r = record { slot = refl; programs = refl }
ended_same (Frees place) r = record { slot = refl; programs = refl }

read_same : (fill : Fill) (r : TaskContext) → Same r (read_for fill r)
read_same (Byte b) r = record { slot = refl; programs = refl }
read_same (Item name n) r = record { slot = refl; programs = refl }

finished_same : (change : TaskChange) (r : TaskContext) → Same r (apply_after change r)
unfolding apply_after
finished_same Nothing r = record { slot = refl; programs = refl }
finished_same (Before it) r = record { slot = refl; programs = refl }
finished_same (After it) r = ended_same it r
finished_same (Gets got) r = read_same got.fill r
finished_same (Enters level) r = record { slot = refl; programs = refl }
finished_same (Replaces copying level) r = record { slot = refl; programs = refl }
finished_same LevelEnds r = record { slot = refl; programs = refl }
finished_same (TaskEnds next) r = record { slot = refl; programs = refl }
finished_same (AbendsWith code cancel) r = record { slot = refl; programs = refl }

settled_same : (call : Call) (condition : Condition) (outputs : List Output) (change : TaskChange) (before after : TaskContext) → Commits call condition outputs change before after → Same before after
unfolding write_outputs write_report
settled_same call condition outputs change before after it =
    let first = applied_same change before it.made it.applied in
    same_at before _ after it.committed (joined before _ _ (record { slot = first.slot; programs = first.programs }) (finished_same change _))

-- ---- a half-turn
leaves_stay : (before after : TaskContext) (reply : TurnReply) → LeavesAll before reply after → HalfTurnStays before reply after
leaves_stay before after reply it = stays_at before after reply turn.Waiting (same_at before before after it.same (record { slot = refl; programs = refl })) it.waiting refl

carried_stay : (decided : Decision) (before after : TaskContext) (reply : TurnReply) → CarriesOut decided before reply after → HalfTurnStays before reply after
unfolding CarriesOut
carried_stay (decision.Refuse call refusal) before after reply it = abends_stay before before after reply (abend_code refusal) false (record { slot = refl; programs = refl }) it
carried_stay (decision.Wait call wait) before after reply it = leaves_stay before after reply it
carried_stay (decision.Act act) before after reply it =
    goes_stay act.continuation act.condition before it.committed after reply (settled_same act.call act.condition act.outputs act.change before it.committed it.commits) it.goes

pub half_turn_stays : (before after : TaskContext) (reply : TurnReply) → HalfTurn before reply after → HalfTurnStays before reply after
unfolding HalfTurnWith EndsRun
half_turn_stays before after reply half = by_due before.task.due half.turns
  where
    by_halt : (mid : TaskContext) (how : Halt) → Same before mid → EndsRun how mid reply after → HalfTurnStays before reply after
    by_halt mid halt.AtEntry same it = stays_at before after reply turn.AtCommand (same_at before _ after it.1 (record { slot = same.slot; programs = same.programs })) it.0 refl
    by_halt mid (halt.Interrupt cause place) same it = abends_stay before mid after reply (abend_code abend.Asra) false same it
    by_halt mid halt.Limit same it = abends_stay before mid after reply (abend_code abend.Aica) false same it

    by_due : (b : Bool) → MatchBool b (PerformsCommand before reply half.abend_record after) (RunsOn before reply half.abend_record after) → HalfTurnStays before reply after
    by_due true it = carried_stay it.decided before after reply it.carries
    by_due false runs = by_halt runs.between runs.how (same_at before _ runs.between runs.rest (record { slot = refl; programs = refl })) runs.ends
