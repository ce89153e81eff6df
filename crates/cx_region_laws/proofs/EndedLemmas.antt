-- What a command's ends leave of the areas of others: an area freed, levels ended, the way of the task.
use Rattle.std.proofs.Common.{◌≡◌, ℕ, zero, suc, Bool, Option, Some, None, List, [], ◌∷◌, refl, sym, ◌∙◌, ap, subst, ◌-◌, length}
use Rattle.std.specs.List.{AllByRecursion}
use Rattle.cx_base.specs.declared.conditions.Condition.{Condition}
use Rattle.cx_base.specs.Eib.{eib_len}
use Rattle.cx_storage.specs.Address.{address_in}
use Rattle.cx_storage.specs.Storage.{Storage}
use Rattle.cx_program.specs.declared.level.Level.{Level}
use Rattle.cx_region_state.specs.declared.replies.TurnReply.{TurnReply}
use Rattle.cx_region_state.specs.State.{TaskContext}
use Rattle.cx_region_task.specs.declared.continuation.Continuation.{Continuation}
use Rattle.cx_region_task.specs.declared.continuation.Continuation.TheVariants as continuation
use Rattle.cx_region_task.specs.Abends.{Abends, AbendsAt, exit_storage, unwound, without_stg}
use Rattle.cx_region_task.specs.Continuations.{Goes, enter_level, replace_level, return_to_caller, returned_to}
use Rattle.cx_region_laws.specs.Laws.Bytes.{others_storage}
use Rattle.cx_region_laws.proofs.OthersLemmas.{Elsewhere, own_all_free, own_free}
use Rattle.cx_region_laws.proofs.ClearLemmas.{Clear}
use Rattle.cx_region_laws.proofs.AppliedLemmas.{Own}
use Rattle.cx_region_laws.proofs.WrittenLemmas.{calen_others}

-- a task whose own areas are apart from those of others in a storage
abbrev pub IsClear : ℕ → TaskContext → Type 0
IsClear slot r = Clear (others_storage slot r.shared.storage) r.task.eib r.task.levels.callers r.task.levels.current.stg

abbrev pub LeavesOthersOf : ℕ → TaskContext → TaskContext → Type 0
LeavesOthersOf slot before after = others_storage slot after.shared.storage ≡ others_storage slot before.shared.storage

-- ---- levels that end
abbrev AreElsewhere : Storage → List Level → Type 0
AreElsewhere others levels = AllByRecursion (λ (level : Level). Elsewhere others (address_in level.stg)) levels

pub unwound_others : (slot n : ℕ) (callers : List Level) (current : Level) (s : Storage) → Elsewhere (others_storage slot s) (address_in current.stg) → AreElsewhere (others_storage slot s) callers
    → others_storage slot (unwound n callers current s).storage ≡ others_storage slot s
unfolding unwound
unwound_others slot zero callers current s here all = refl
unwound_others slot (suc n) [] current s here all = refl
unwound_others slot (suc n) (caller ∷ callers) current s here all =
    let freed : others_storage slot (without_stg current s) ≡ others_storage slot s = own_free slot s (address_in current.stg) here in
    unwound_others slot n callers caller (without_stg current s)
    (subst (λ (o : Storage). Elsewhere o (address_in caller.stg)) (sym freed) all.0)
    (subst (λ (o : Storage). AreElsewhere o callers) (sym freed) all.1) ∙ freed

-- ---- abends
pub abends_others : (slot : ℕ) (code : List ℕ) (cancel : Bool) (before after : TaskContext) (reply : TurnReply) → before.terminal_entry.slot ≡ slot → IsClear slot before
    → Abends code cancel before reply after → LeavesOthersOf slot before after
unfolding AbendsAt exit_storage
abends_others slot code cancel before after reply mine clear it = go it.exit it.ends
  where
    own : Own slot before.shared.storage before.task.eib eib_len
    own = record { ends = clear.low; clear = clear.eib_clear }

    freed : others_storage slot (others_storage before.terminal_entry.slot before.shared.storage) ≡ others_storage slot before.shared.storage
    freed = subst (λ (k : ℕ). others_storage slot (others_storage k before.shared.storage) ≡ others_storage slot before.shared.storage) (sym mine) (own_all_free slot before.shared.storage)

    go : (o : Option ℕ) → AbendsAt o code before reply after → LeavesOthersOf slot before after
    go None over = ap (λ (r : TaskContext). others_storage slot r.shared.storage) over.1 ∙ freed
    go (Some index) over =
        let left = unwound (length before.task.levels.callers - index) before.task.levels.callers before.task.levels.current before.shared.storage in
        ap (λ (r : TaskContext). others_storage slot r.shared.storage) over.1
        ∙ calen_others slot before.shared.storage left.storage before.task.eib (Some left.levels.current.calen) own
        (unwound_others slot (length before.task.levels.callers - index) before.task.levels.callers before.task.levels.current before.shared.storage clear.stg_clear clear.callers_clear)

-- ---- the way
returned_others : (slot : ℕ) (callers : List Level) (r : TaskContext) → Elsewhere (others_storage slot r.shared.storage) (address_in r.task.levels.current.stg) → LeavesOthersOf slot r (returned_to callers r)
returned_others slot [] r here = refl
returned_others slot (caller ∷ callers) r here = own_free slot r.shared.storage (address_in r.task.levels.current.stg) here

at_reach : (slot : ℕ) (after to : TaskContext) → after ≡ to → others_storage slot after.shared.storage ≡ others_storage slot to.shared.storage
at_reach slot after to e = ap (λ (r : TaskContext). others_storage slot r.shared.storage) e

pub goes_others : (gone : Continuation) (slot : ℕ) (condition : Condition) (committed after : TaskContext) (reply : TurnReply) → committed.terminal_entry.slot ≡ slot → IsClear slot committed
    → Goes gone condition committed reply after → LeavesOthersOf slot committed after
unfolding Goes enter_level replace_level return_to_caller
goes_others continuation.GoesOn slot condition committed after reply mine clear goes = at_reach slot after _ goes.1
goes_others (continuation.TakesLabel label) slot condition committed after reply mine clear goes = at_reach slot after _ goes.1
goes_others continuation.Waits slot condition committed after reply mine clear goes = at_reach slot after _ goes.1
goes_others (continuation.Abends code cancel) slot condition committed after reply mine clear goes = abends_others slot code cancel committed after reply mine clear goes
goes_others (continuation.Enters level) slot condition committed after reply mine clear goes = at_reach slot after _ goes.1
goes_others (continuation.Replaces level) slot condition committed after reply mine clear goes =
    at_reach slot after _ goes.1 ∙ own_free slot committed.shared.storage (address_in committed.task.levels.current.stg) clear.stg_clear
goes_others continuation.LevelEnds slot condition committed after reply mine clear goes =
    at_reach slot after _ goes.1 ∙ returned_others slot committed.task.levels.callers committed clear.stg_clear
goes_others continuation.TaskEnds slot condition committed after reply mine clear goes =
    at_reach slot after _ goes.1
    ∙ subst (λ (k : ℕ). others_storage slot (others_storage k committed.shared.storage) ≡ others_storage slot committed.shared.storage) (sym mine) (own_all_free slot committed.shared.storage)
