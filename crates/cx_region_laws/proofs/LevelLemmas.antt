-- What a command leaves of its task's levels: HANDLE, IGNORE, PUSH and POP alone change them, and these meet NORMAL then.
use Rattle.std.proofs.Common.{◌≡◌, Bool, true, false, List, refl, ◌∙◌, ap, inl, inr}
use Rattle.cx_base.specs.declared.conditions.Condition.{Condition}
use Rattle.cx_region_state.specs.declared.outputs.Output.{Output}
use Rattle.cx_region_state.specs.Call.{Call}
use Rattle.cx_region_state.specs.declared.verdict.TaskChange.{TaskChange}
use Rattle.cx_region_state.specs.declared.verdict.TaskChange.TheVariants.{Nothing, Before, After, Gets, Enters, Replaces, LevelEnds, TaskEnds, AbendsWith}
use Rattle.cx_region_state.specs.declared.verdict.AfterOutputs.{AfterOutputs}
use Rattle.cx_region_state.specs.declared.verdict.AfterOutputs.TheVariants as ended
use Rattle.cx_region_state.specs.declared.verdict.Fill.{Fill}
use Rattle.cx_region_state.specs.declared.verdict.Fill.TheVariants.{Byte, Item}
use Rattle.cx_region_state.specs.declared.verdict.BeforeOutputs.{BeforeOutputs}
use Rattle.cx_region_state.specs.declared.verdict.BeforeOutputs.TheVariants as made
use Rattle.cx_region_state.specs.declared.verdict.Verdict.{Verdict}
use Rattle.cx_region_state.specs.declared.verdict.Verdict.TheVariants.{Meets, Refuses, Waits}
use Rattle.cx_region_state.specs.State.{TaskContext, TaskState}
use Rattle.cx_region_commands.specs.CommandVerdicts.{HasVerdict}
use Rattle.cx_region_task.specs.Changes.{AppliesBefore, Commits, apply_after, write_outputs, read_for, write_report}
use Rattle.cx_region_task.specs.Continuations.{is_normal}
use Rattle.cx_region_laws.proofs.RowLemmas.{IsRow, judged_row, kinds_of, meets_any}

-- ---- which changes ask for handles
unfoldable pub is_request : TaskChange → Bool
is_request (Before (made.Handles request)) = true
is_request _ = false

-- NORMAL alone is met with them
asks_normal : (change : TaskChange) → is_request change ≡ true → meets_any change ≡ true → {P : Type 0} → P
unfolding is_request
asks_normal (Before (made.Handles request)) e any = cc
asks_normal _ e any = cc

-- a verdict that asks for handles meets NORMAL
abbrev pub IsWell : Verdict → Type 0
IsWell (Meets condition outputs change) = is_request change ≡ true → is_normal condition ≡ true
IsWell Waits = Unit {0}
IsWell (Refuses abend) = Unit {0}

pub judged_well : (call : Call) (r : TaskContext) (v : Verdict) → HasVerdict call r v → IsWell v
judged_well call r v judged = go v (judged_row call r v judged)
  where
    go : (v : Verdict) → IsRow (kinds_of call.command) v → IsWell v
    go (Meets condition outputs change) row = λ e. elim row.normal [
      | inl normal ↦ normal
      | inr any ↦ asks_normal change e any
    ]
    go Waits row = tt
    go (Refuses abend) row = tt

-- ---- levels
ended_task : (it : AfterOutputs) (r : TaskContext) → (apply_after (After it) r).task ≡ r.task
unfolding apply_after
ended_task ended.TakesInput r = refl
ended_task (ended.MarksRead name n) r = refl
ended_task (ended.QueueGone name) r = refl
ended_task (ended.Dequeues resource) r = refl
ended_task (ended.Frees place) r = refl

read_task : (fill : Fill) (r : TaskContext) → (read_for fill r).task ≡ r.task
read_task (Byte b) r = refl
read_task (Item name n) r = refl

-- what is done after the outputs leaves the task
pub finished_task : (change : TaskChange) (r : TaskContext) → (apply_after change r).task ≡ r.task
unfolding apply_after
finished_task Nothing r = refl
finished_task (Before it) r = refl
finished_task (After it) r = ended_task it r
finished_task (Gets got) r = read_task got.fill r
finished_task (Enters level) r = refl
finished_task (Replaces copying level) r = refl
finished_task LevelEnds r = refl
finished_task (TaskEnds next) r = refl
finished_task (AbendsWith code cancel) r = refl

levels_at : (before after to : TaskContext) → after ≡ to → to.task.levels ≡ before.task.levels → after.task.levels ≡ before.task.levels
levels_at before after to e same = ap (λ (r : TaskContext). r.task.levels) e ∙ same

made_levels : (it : BeforeOutputs) (before after : TaskContext) → is_request (Before it) ≡ false → AppliesBefore (Before it) before after → after.task.levels ≡ before.task.levels
unfolding AppliesBefore is_request
made_levels (made.ItemLast name piece) before after unasked applied = levels_at before after _ applied refl
made_levels (made.ItemAt name n piece) before after unasked applied = levels_at before after _ applied refl
made_levels (made.Enqueues resource) before after unasked applied = levels_at before after _ applied refl
made_levels (made.Shows piece erase) before after unasked applied = levels_at before after _ applied.others refl
made_levels (made.Handles request) before after unasked applied = cc

applied_levels : (change : TaskChange) (before after : TaskContext) → is_request change ≡ false → AppliesBefore change before after → after.task.levels ≡ before.task.levels
unfolding AppliesBefore
applied_levels Nothing before after unasked applied = levels_at before after _ applied refl
applied_levels (Before it) before after unasked applied = made_levels it before after unasked applied
applied_levels (After it) before after unasked applied = levels_at before after _ applied refl
applied_levels (Gets got) before after unasked applied = levels_at before after _ applied refl
applied_levels (Enters level) before after unasked applied = levels_at before after _ applied refl
applied_levels (Replaces copying level) before after unasked applied = levels_at before after _ applied refl
applied_levels LevelEnds before after unasked applied = levels_at before after _ applied refl
applied_levels (TaskEnds next) before after unasked applied = levels_at before after _ applied refl
applied_levels (AbendsWith code cancel) before after unasked applied = levels_at before after _ applied refl

-- all that a command does leaves the levels, unless it asks for handles
pub settles_levels : (call : Call) (condition : Condition) (outputs : List Output) (change : TaskChange) (start after : TaskContext) → is_request change ≡ false
    → Commits call condition outputs change start after → after.task.levels ≡ start.task.levels
unfolding write_outputs write_report
settles_levels call condition outputs change start after unasked it =
    ap (λ (r : TaskContext). r.task.levels) it.committed ∙ ap (λ (task : TaskState). task.levels) (finished_task change _) ∙ applied_levels change start it.made unasked it.applied
