-- What a task's way keeps, from the state in which all that its command does is done.
use Rattle.std.proofs.Common.{◌≡◌, ℕ, List, [], ◌∷◌, refl, ◌∙◌}
use Rattle.std.specs.Prelude.{⊤}
use Rattle.cx_base.specs.declared.conditions.Condition.{Condition}
use Rattle.cx_storage.specs.Storage.{Storage, starts_elsewhere}
use Rattle.cx_storage.specs.Address.{address_in}
use Rattle.cx_program.specs.declared.level.Level.{Level}
use Rattle.cx_region_state.specs.declared.replies.TurnReply.{TurnReply}
use Rattle.cx_region_state.specs.declared.replies.TurnReply.TheVariants as turn
use Rattle.cx_region_state.specs.Areas.{entry_level}
use Rattle.cx_region_state.specs.State.{TaskContext, TaskState}
use Rattle.cx_region_task.specs.declared.continuation.Continuation.{Continuation}
use Rattle.cx_region_task.specs.declared.continuation.Continuation.TheVariants.{GoesOn, TakesLabel, Waits, Abends, Enters, Replaces, LevelEnds, TaskEnds}
use Rattle.cx_region_task.specs.Abends.{task_ended, without_stg}
use Rattle.cx_region_task.specs.Laws.HalfTurns.{HalfTurnKeeps}
use Rattle.cx_region_task.specs.Continuations.{Goes, at_label, enter_level, on_its_way, replace_level, return_to_caller, returned_to}
use Rattle.cx_region_task.proofs.MidLemmas.{Mid, abend_keeps, ends, goes_on}
use Rattle.cx_region_task.proofs.OwnAreas.{areas_filtered}
use Rattle.cx_region_task.proofs.SoundSteps.{Owns, one_ends, one_replaced, owns_of, stg_freed}

-- what is where a level begins
abbrev pub Stands : Continuation → ℕ → Storage → TaskState → Type 0
Stands (Enters level) slot s task = Owns 15 slot s task.eib (task.levels.current ∷ task.levels.callers) (entry_level level task.eib)
Stands (Replaces level) slot s task = Owns 16 slot s task.eib (task.levels.current ∷ task.levels.callers) (entry_level level task.eib)
Stands _ slot s task = ⊤

return_keeps : (start mid : TaskContext) (held : Mid start mid) (callers : List Level) → Owns 15 start.terminal_entry.slot held.storage mid.task.eib callers mid.task.levels.current
    → mid.task.levels.callers ≡ callers → HalfTurnKeeps start turn.Returned (returned_to callers mid)
return_keeps start mid held [] owns is = goes_on start mid mid turn.Returned held refl refl refl refl held.storage held.same held.others (owns_of start.terminal_entry.slot held.storage mid.task held.task)
return_keeps start mid held (caller ∷ callers) owns is =
    let mine = start.terminal_entry.slot in
    let current = mid.task.levels.current in
    goes_on start mid (returned_to (caller ∷ callers) mid) turn.Returned held refl refl refl refl (without_stg current held.storage)
    (areas_filtered (starts_elsewhere (address_in current.stg)) held.storage mid.shared.storage held.same)
    (stg_freed mine held.storage current held.sound owns.current_there ∙ held.others)
    (one_ends 15 mine held.storage mid.task.eib caller callers current held.sound owns)

pub goes_keeps : (continuation : Continuation) (condition : Condition) (start mid after : TaskContext) (reply : TurnReply) → (held : Mid start mid) → Stands continuation start.terminal_entry.slot held.storage mid.task
    → Goes continuation condition mid reply after → HalfTurnKeeps start reply after
unfolding Goes enter_level replace_level return_to_caller
goes_keeps GoesOn condition start mid after reply held stands goes =
    rw (goes.0, goes.1) (goes_on start mid (on_its_way mid) (turn.Performed condition) held refl refl refl refl held.storage held.same held.others (owns_of start.terminal_entry.slot held.storage mid.task held.task))
goes_keeps (TakesLabel label) condition start mid after reply held stands goes =
    rw (goes.0, goes.1) (goes_on start mid (at_label label mid) (turn.TookLabel condition) held refl refl refl refl held.storage held.same held.others (owns_of start.terminal_entry.slot held.storage mid.task held.task))
goes_keeps Waits condition start mid after reply held stands goes =
    rw (goes.0, goes.1) (goes_on start mid mid turn.Waiting held refl refl refl refl held.storage held.same held.others (owns_of start.terminal_entry.slot held.storage mid.task held.task))
goes_keeps (Abends code cancel) condition start mid after reply held stands goes = abend_keeps code cancel start mid after reply held goes
goes_keeps (Enters level) condition start mid after reply held stands goes =
    rw (goes.0, goes.1) (goes_on start mid (enter_level level mid) turn.Entered held refl refl refl refl held.storage held.same held.others stands)
goes_keeps (Replaces level) condition start mid after reply held stands goes =
    let mine = start.terminal_entry.slot in
    let current = mid.task.levels.current in
    rw (goes.0, goes.1) (goes_on start mid (replace_level level mid) turn.Entered held refl refl refl refl (without_stg current held.storage)
    (areas_filtered (starts_elsewhere (address_in current.stg)) held.storage mid.shared.storage held.same)
    (stg_freed mine held.storage current held.sound held.task.current ∙ held.others)
    (one_replaced 15 mine held.storage mid.task.eib mid.task.levels.callers current (entry_level level mid.task.eib) held.sound stands))
goes_keeps LevelEnds condition start mid after reply held stands goes =
    rw (goes.0, goes.1) (return_keeps start mid held mid.task.levels.callers (owns_of start.terminal_entry.slot held.storage mid.task held.task) refl)
goes_keeps TaskEnds condition start mid after reply held stands goes =
    rw (goes.0, goes.1) (ends start mid (task_ended mid) turn.Ended held refl refl refl)
