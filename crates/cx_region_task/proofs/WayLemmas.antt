-- The way that a change leads to can be gone when all that the command does is done.
use Rattle.std.proofs.Common.{◌≡◌, List, refl, Bool, true, false}
use Rattle.std.specs.Prelude.{if◌then◌else◌}
use Rattle.cx_base.specs.declared.conditions.Condition.{Condition}
use Rattle.cx_program.specs.declared.choice.Choice.{Choice}
use Rattle.cx_program.specs.declared.choice.Choice.TheVariants as choice
use Rattle.cx_program.specs.declared.entries.Entries.{Entries}
use Rattle.cx_program.specs.Levels.{Levels}
use Rattle.cx_region_state.specs.declared.outputs.Output.{Output}
use Rattle.cx_region_state.specs.Call.{Call}
use Rattle.cx_region_state.specs.declared.verdict.TaskChange.{TaskChange}
use Rattle.cx_region_state.specs.declared.verdict.TaskChange.TheVariants.{Nothing, Before, After, Gets, Enters, Replaces, LevelEnds, TaskEnds, AbendsWith}
use Rattle.cx_region_state.specs.declared.verdict.AfterOutputs.{AfterOutputs}
use Rattle.cx_region_state.specs.declared.verdict.AfterOutputs.TheVariants.{TakesInput, MarksRead, QueueGone, Dequeues, Frees}
use Rattle.cx_region_state.specs.declared.verdict.Fill.{Fill}
use Rattle.cx_region_state.specs.declared.verdict.Fill.TheVariants.{Byte, Item}
use Rattle.cx_region_state.specs.declared.verdict.BeforeOutputs.{BeforeOutputs}
use Rattle.cx_region_state.specs.declared.verdict.BeforeOutputs.TheVariants as made
use Rattle.cx_region_state.specs.State.{TaskContext}
use Rattle.cx_region_state.specs.Parts.Fits.{FitsChange}
use Rattle.cx_region_task.specs.declared.continuation.Continuation.{Continuation}
use Rattle.cx_region_task.specs.declared.continuation.Continuation.TheVariants as continuation
use Rattle.cx_region_task.specs.Changes.{AppliesBefore, Commits, apply_after, write_outputs, read_for, write_report}
use Rattle.cx_region_task.specs.Parts.Making.{MatchWay}
use Rattle.cx_region_task.specs.Continuations.{is_normal, continuation_by, continuation_chosen, continuation_of, choice_for}

-- no command changes the callers before the task goes its way
made_callers : (it : BeforeOutputs) (before after : TaskContext) → AppliesBefore (Before it) before after → after.task.levels.callers ≡ before.task.levels.callers
unfolding AppliesBefore
made_callers (made.ItemLast name piece) before after applied = rw applied refl
made_callers (made.ItemAt name n piece) before after applied = rw applied refl
made_callers (made.Enqueues resource) before after applied = rw applied refl
made_callers (made.Shows piece erase) before after applied = rw applied.others refl
made_callers (made.Handles request) before after applied = rw applied refl

applied_callers : (change : TaskChange) (before after : TaskContext) → AppliesBefore change before after → after.task.levels.callers ≡ before.task.levels.callers
unfolding AppliesBefore
applied_callers Nothing before after applied = rw applied refl
applied_callers (Before it) before after applied = made_callers it before after applied
applied_callers (After it) before after applied = rw applied refl
applied_callers (Gets got) before after applied = rw applied refl
applied_callers (Enters level) before after applied = rw applied refl
applied_callers (Replaces copying level) before after applied = rw applied refl
applied_callers LevelEnds before after applied = rw applied refl
applied_callers (TaskEnds next) before after applied = rw applied refl
applied_callers (AbendsWith code cancel) before after applied = rw applied refl

ended_task : (it : AfterOutputs) (r : TaskContext) → (apply_after (After it) r).task ≡ r.task
unfolding apply_after
ended_task TakesInput r = refl
ended_task (MarksRead name n) r = refl
ended_task (QueueGone name) r = refl
ended_task (Dequeues resource) r = refl
ended_task (Frees place) r = refl

read_task : (fill : Fill) (r : TaskContext) → (read_for fill r).task ≡ r.task
read_task (Byte b) r = refl
read_task (Item name n) r = refl

pub finished_task : (change : TaskChange) (r : TaskContext) → (apply_after change r).task ≡ r.task
unfolding apply_after
finished_task Nothing r = refl
finished_task (Before it) r = refl
finished_task (After it) r = ended_task it r
finished_task (Gets got) r = read_task got.fill r
finished_task (Enters level) r = refl
finished_task (Replaces copying level) r = refl
finished_task LevelEnds r = refl
finished_task (TaskEnds next) r = refl
finished_task (AbendsWith code cancel) r = refl

settled_callers : (call : Call) (condition : Condition) (outputs : List Output) (change : TaskChange) (before after : TaskContext) → Commits call condition outputs change before after
    → after.task.levels.callers ≡ before.task.levels.callers
unfolding write_outputs write_report
settled_callers call condition outputs change before after commits =
    rw (commits.committed, finished_task change (write_report call _ (write_outputs call outputs change commits.made))) (applied_callers change before commits.made commits.applied)

by_change : (change : TaskChange) (before : TaskContext) → FitsChange change before → MatchWay (continuation_by change) before.task.levels
by_change Nothing before fits = tt
by_change (Before it) before fits = tt
by_change (After it) before fits = tt
by_change (Gets got) before fits = tt
by_change (Enters level) before fits = (fits.begins.program.entry, fits.few)
by_change (Replaces copying level) before fits = fits.begins.program.entry
by_change LevelEnds before fits = tt
by_change (TaskEnds next) before fits = tt
by_change (AbendsWith code cancel) before fits = tt

by_choice : (chosen : Choice) (levels : Levels) → MatchWay (continuation_chosen chosen) levels
by_choice (choice.Label label) levels = tt
by_choice choice.GoOn levels = tt
by_choice choice.Wait levels = tt
by_choice (choice.Abend code) levels = tt

either : (normal : Bool) (chosen : Choice) (change : TaskChange) (before : TaskContext) → FitsChange change before
    → MatchWay (if normal then continuation_by change else continuation_chosen chosen) before.task.levels
either true chosen change before fits = by_change change before fits
either false chosen change before fits = by_choice chosen before.task.levels

few_callers : (gone : Continuation) (one other : Levels) → other.callers ≡ one.callers → MatchWay gone one → MatchWay gone other
few_callers continuation.GoesOn one other same fits = tt
few_callers (continuation.TakesLabel label) one other same fits = tt
few_callers continuation.Waits one other same fits = tt
few_callers (continuation.Abends code cancel) one other same fits = tt
few_callers (continuation.Enters level) one other same fits = (fits.0, rw same fits.1)
few_callers (continuation.Replaces level) one other same fits = fits
few_callers continuation.LevelEnds one other same fits = tt
few_callers continuation.TaskEnds one other same fits = tt

pub way_fits : (call : Call) (entries : Entries) (condition : Condition) (change : TaskChange) (before : TaskContext) → FitsChange change before
    → MatchWay (continuation_of call entries condition change) before.task.levels
unfolding continuation_of
way_fits call entries condition change before fits = either (is_normal condition) (choice_for call entries condition) change before fits

pub way_stays : (gone : Continuation) (call : Call) (condition : Condition) (outputs : List Output) (change : TaskChange) (before after : TaskContext) → MatchWay gone before.task.levels
    → Commits call condition outputs change before after → MatchWay gone after.task.levels
way_stays gone call condition outputs change before after fits commits =
    few_callers gone before.task.levels after.task.levels (settled_callers call condition outputs change before after commits) fits
