-- Which commands' changes take memory.
use Rattle.std.proofs.Common.{◌≡◌, ℕ, Bool, true, false, List, [], ◌∷◌, Option, Some, None, refl, sym, ◌∙◌, ap, inl, inr}
use Rattle.std.specs.Prelude.{◌&&◌, ◌||◌, not, is_some}
use Rattle.std.specs.List.{list_any}
use Rattle.std.specs.Option.{option_map}
use Rattle.std.proofs.lemmas.Bool.{cases_Bool, true≢false}
use Rattle.cx_base.specs.declared.commands.Command.{Command}
use Rattle.cx_base.specs.declared.commands.Command.TheVariants as command
use Rattle.cx_base.specs.declared.conditions.Condition.TheVariants.{Itemerr, Lengerr, Qiderr}
use Rattle.cx_base.specs.declared.options.OptionName.TheVariants as option
use Rattle.cx_program.specs.declared.level.Level.{Level}
use Rattle.cx_service.specs.Queues.{queue_of, reading_of_queue}
use Rattle.cx_region_state.specs.Call.{Call}
use Rattle.cx_region_state.specs.Inputs.{bytes_of, halfword_of, is_length_negative, length_option}
use Rattle.cx_region_state.specs.State.{TaskContext}
use Rattle.cx_region_state.specs.declared.verdict.BeforeOutputs.TheVariants as made
use Rattle.cx_region_state.specs.declared.verdict.TaskChange.{TaskChange}
use Rattle.cx_region_state.specs.declared.verdict.TaskChange.TheVariants.{Before, Gets, Enters, Replaces, TaskEnds}
use Rattle.cx_region_state.specs.declared.verdict.Verdict.{Verdict}
use Rattle.cx_region_state.specs.declared.verdict.Verdict.TheVariants.{Meets}
use Rattle.cx_region_commands.specs.Common.{commarea_of, does, has, name_at, condition_alone}
use Rattle.cx_region_commands.specs.CommandVerdicts.{HasVerdict, JudgedBy}
use Rattle.cx_region_commands.specs.ReadqTs.{ReadqRow, ReadsQueueItem, reads_into}
use Rattle.cx_region_commands.specs.Return.{highest_return, next_of, return_row}
use Rattle.cx_region_commands.specs.Facts.FitsParts.{by_option, by_test}
use Rattle.cx_region_task.specs.Facts.Met.{to_be_done}
use Rattle.cx_region_task.specs.Changes.{change_takes_memory}
use Rattle.cx_region_laws.specs.Laws.TaskMemory.{OnlyTheseTakeMemory, takes_memory}
use Rattle.cx_region_laws.proofs.RowLemmas.{EndsTask, Enqueues, EntersLevel, GetsArea, Kind, ReplacesLevel, WritesItem, has_kind, kind_of, kinds_of, never, passes}

-- whether a verdict's change takes memory
takes : Verdict → Bool
takes v = passes change_takes_memory v

-- the kinds of changes that may take memory
abbrev may_take : Kind → Bool
may_take WritesItem = true
may_take Enqueues = true
may_take GetsArea = true
may_take EntersLevel = true
may_take ReplacesLevel = true
may_take EndsTask = true
may_take _ = false

takes_kind : (change : TaskChange) → change_takes_memory change ≡ true → may_take (kind_of change) ≡ true
takes_kind (Before (made.ItemLast name piece)) e = refl
takes_kind (Before (made.ItemAt name n piece)) e = refl
takes_kind (Before (made.Enqueues resource)) e = refl
takes_kind (Gets got) e = refl
takes_kind (Enters level) e = refl
takes_kind (Replaces copying level) e = refl
takes_kind (TaskEnds next) e = refl
takes_kind _ e = cc

-- ---- rows whose change takes memory in one case
readq_takes : (call : Call) (r : TaskContext) (v : Verdict) → ReadqRow r.shared.storage r.shared.queues call v → takes v ≡ true → has call option.Set ≡ true
unfolding ReadqRow ReadsQueueItem takes passes
readq_takes call r v row e =
    by_test (has call option.Into && is_length_negative r.shared.storage call) row
    (λ _ is. never change_takes_memory v (condition_alone Lengerr) is refl e)
    (λ _ reads. by_option (queue_of r.shared.queues name) reads (λ is. never change_takes_memory v (condition_alone Qiderr) is refl e)
    (λ queue _ found. by_option (reading_of_queue (halfword_of r.shared.storage call option.Item) queue) found (λ is. never change_takes_memory v (condition_alone Itemerr) is refl e)
    (λ reading _ item. by_test (has call option.Set) item (λ t _. t)
    (λ _ is. never change_takes_memory v (reads_into (length_option r.shared.storage call) name reading) is refl e))))
  where
    name : List ℕ
    name = name_at r.shared.storage call option.Queue

return_takes : (call : Call) (r : TaskContext) (v : Verdict) → v ≡ return_row r.shared.storage r.task.levels.callers call → takes v ≡ true → is_some (commarea_of r.shared.storage call) ≡ true
unfolding return_row next_of takes passes
return_takes call r v is e = go r.task.levels.callers (sym (ap takes is) ∙ e)
  where
    following : (o : Option (List ℕ)) → takes (does (TaskEnds (option_map (λ tran. record { tran = tran; commarea = commarea_of r.shared.storage call }) o))) ≡ true → is_some (commarea_of r.shared.storage call) ≡ true
    following None e = absurd (true≢false (sym e))
    following (Some tran) e = e

    highest : takes (highest_return r.shared.storage call) ≡ true → is_some (commarea_of r.shared.storage call) ≡ true
    highest e = elim (cases_Bool (has call option.Commarea && not (has call option.Transid))) [
      | inl t ↦ absurd (true≢false (sym (rw t at e)))
      | inr f ↦ elim (cases_Bool (is_length_negative r.shared.storage call)) [
        | inl y ↦ absurd (true≢false (sym (rw (f, y) at e)))
        | inr n ↦ following (bytes_of r.shared.storage call option.Transid 4) (rw (f, n) at e)
      ]
    ]

    go : (callers : List Level) → takes (return_row r.shared.storage callers call) ≡ true → is_some (commarea_of r.shared.storage call) ≡ true
    go [] e = highest e
    go (caller ∷ callers) e = elim (cases_Bool (has call option.Transid || has call option.Commarea)) [
      | inl t ↦ absurd (true≢false (sym (rw t at e)))
      | inr f ↦ absurd (true≢false (sym (rw f at e)))
    ]

-- ---- the commands
judged_takes : (call : Call) (r : TaskContext) (v : Verdict) → HasVerdict call r v → takes v ≡ true → takes_memory call.command call r.shared.storage ≡ true
unfolding HasVerdict takes
judged_takes call r v judged e = go call.command judged (has_kind change_takes_memory may_take takes_kind call r v judged e)
  where
    go : (c : Command) → JudgedBy c call r v → list_any may_take (kinds_of c) ≡ true → takes_memory c call r.shared.storage ≡ true
    go command.WriteqTs is some = refl
    go command.ReadqTs row some = readq_takes call r v row e
    go command.Getmain row some = refl
    go command.Link row some = refl
    go command.Xctl row some = refl
    go command.Return is some = return_takes call r v is e
    go command.Enq is some = refl
    go _ is some = absurd (true≢false (sym some))

pub only_these_take_memory : OnlyTheseTakeMemory
unfolding takes passes
only_these_take_memory before taken =
    let act = taken.act in
    judged_takes act.call before (Meets act.condition act.outputs act.change) (to_be_done act before taken.decides).judged taken.takes
