-- What the steps of a half-turn keep, one after another.
use Rattle.std.proofs.Common.{◌≡◌, ℕ, Bool, true, false, Option, Some, None, List, refl, sym, ◌∙◌, ap, subst, ◌-◌, length}
use Rattle.cx_storage.specs.Storage.{Storage, areas_of, is_of_other_slot, with_areas_kept, IsSoundStorage}
use Rattle.cx_storage.specs.Address.{address_after}
use Rattle.cx_storage.specs.Facts.Writes.{areas_after_write}
use Rattle.cx_program.specs.Levels.{Levels}
use Rattle.cx_service.specs.Resources.{Resources, without_owner}
use Rattle.cx_region_state.specs.Eib.{with_calen, with_field}
use Rattle.cx_region_state.specs.declared.replies.TurnReply.{TurnReply}
use Rattle.cx_region_state.specs.declared.replies.TurnReply.TheVariants as turn
use Rattle.cx_region_state.specs.Replies.{is_over}
use Rattle.cx_region_state.specs.State.{TaskContext, SharedState, TaskState}
use Rattle.cx_region_task.specs.Abends.{Abends, AbendsAt, end_without_next, exit_storage, exit_task, exit_taken, task_ended, unwound}
use Rattle.cx_region_task.specs.Laws.HalfTurns.{HalfTurnKeeps, others_areas}
use Rattle.cx_region_task.specs.Sound.{IsSoundTask}
use Rattle.cx_region_task.proofs.OwnAreas.{areas_filtered, freed_twice}
use Rattle.cx_region_task.proofs.ReleaseLemmas.{released_twice}
use Rattle.cx_region_task.proofs.SoundSteps.{Owns, of_owns, owns_of, owns_stay, same_stay, unwound_left, unwound_same}

-- Between the steps: all that is kept so far; the areas are those of some sound storage.
pub record Mid (start mid : TaskContext) : Type 0 where
  pub slot : mid.terminal_entry.slot ≡ start.terminal_entry.slot
  pub programs : mid.shared.programs ≡ start.shared.programs
  pub resources : without_owner mid.shared.resources start.terminal_entry.slot ≡ without_owner start.shared.resources start.terminal_entry.slot
  pub storage : Storage
  pub sound : IsSoundStorage storage
  pub same : areas_of mid.shared.storage ≡ areas_of storage
  pub others : others_areas start.terminal_entry.slot storage ≡ others_areas start.terminal_entry.slot start.shared.storage
  pub task : IsSoundTask storage start.terminal_entry.slot mid.task

pub begins : (start : TaskContext) → IsSoundStorage start.shared.storage → IsSoundTask start.shared.storage start.terminal_entry.slot start.task → Mid start start
begins start ok own =
    record { slot = refl; programs = refl; resources = refl; storage = start.shared.storage; sound = ok; same = refl; others = refl; task = own }

-- an abend's exit writes EIBCALEN
calen_areas : (s : Storage) (eib : ℕ) (calen : Option ℕ) → areas_of (with_calen s eib calen) ≡ areas_of s
unfolding with_calen with_field
calen_areas s eib None = refl
calen_areas s eib (Some calen) = areas_after_write s (address_after eib 24) _

others_same : (slot : ℕ) (s t : Storage) → areas_of t ≡ areas_of s → others_areas slot t ≡ others_areas slot s
others_same slot s t e = areas_filtered (is_of_other_slot slot) s t e

-- ---- a task that goes on
pub goes_on : (start mid after : TaskContext) (reply : TurnReply) → Mid start mid → is_over reply ≡ false → after.terminal_entry.slot ≡ mid.terminal_entry.slot → after.shared.programs ≡ mid.shared.programs
    → after.shared.resources ≡ mid.shared.resources → (t : Storage) → areas_of after.shared.storage ≡ areas_of t → others_areas start.terminal_entry.slot t ≡ others_areas start.terminal_entry.slot start.shared.storage
    → Owns 15 start.terminal_entry.slot t after.task.eib after.task.levels.callers after.task.levels.current → HalfTurnKeeps start reply after
goes_on start mid after reply held on slot programs resources t areas others owns =
    record {
      slot = slot ∙ held.slot;
      programs = programs ∙ held.programs;
      areas = others_same start.terminal_entry.slot t after.shared.storage areas ∙ others;
      resources = ap (λ (rs : Resources). without_owner rs start.terminal_entry.slot) resources ∙ held.resources;
      task = λ e. of_owns start.terminal_entry.slot after.shared.storage after.task
          (owns_stay 15 start.terminal_entry.slot t after.shared.storage after.task.eib after.task.levels.callers after.task.levels.current (same_stay start.terminal_entry.slot t after.shared.storage areas) owns);
      nothing_left = λ e. absurd (let no : false ≡ true = sym on ∙ e in cc);
      released = λ e. absurd (let no : false ≡ true = sym on ∙ e in cc);
    }

-- ---- a task that ends
pub ends : (start mid after : TaskContext) (reply : TurnReply) → Mid start mid → is_over reply ≡ true → after.terminal_entry.slot ≡ mid.terminal_entry.slot → after.shared ≡ (task_ended mid).shared
    → HalfTurnKeeps start reply after
ends start mid after reply held over slot shared =
    let here : Storage = mid.shared.storage in
    let mine : ℕ = start.terminal_entry.slot in
    let storage_is : after.shared.storage ≡ with_areas_kept (is_of_other_slot mine) here =
    ap (λ (x : SharedState). x.storage) shared ∙ ap (λ (k : ℕ). with_areas_kept (is_of_other_slot k) here) held.slot in
    let resources_are : after.shared.resources ≡ without_owner mid.shared.resources mine =
    ap (λ (x : SharedState). x.resources) shared ∙ ap (λ (k : ℕ). without_owner mid.shared.resources k) held.slot in
    let gone : with_areas_kept (is_of_other_slot mine) after.shared.storage ≡ after.shared.storage =
    rw storage_is (freed_twice (is_of_other_slot mine) here) in
    let freed : without_owner after.shared.resources mine ≡ after.shared.resources = rw resources_are (released_twice mid.shared.resources mine) in
    record {
      slot = slot ∙ held.slot;
      programs = ap (λ (x : SharedState). x.programs) shared ∙ held.programs;
      areas = ap areas_of gone ∙ ap areas_of storage_is ∙ others_same mine held.storage here held.same ∙ held.others;
      resources = freed ∙ resources_are ∙ held.resources;
      task = λ e. absurd (let no : true ≡ false = sym over ∙ e in cc);
      nothing_left = λ e. gone;
      released = λ e. freed;
    }

-- ---- an abend
pub abend_keeps : (code : List ℕ) (cancel : Bool) (start mid after : TaskContext) (reply : TurnReply) → Mid start mid → Abends code cancel mid reply after → HalfTurnKeeps start reply after
unfolding AbendsAt exit_storage exit_task
abend_keeps code cancel start mid after reply held abends = by_exit abends.exit abends.ends
  where
    mine : ℕ
    mine = start.terminal_entry.slot

    task : TaskState
    task = mid.task

    by_exit : (o : Option ℕ) → AbendsAt o code mid reply after → HalfTurnKeeps start reply after
    by_exit None over = rw (over.0, over.1) (ends start mid (end_without_next mid) (turn.Abended code) held refl refl refl)
    by_exit (Some index) over =
        let n = length task.levels.callers - index in
        let left = unwound_left 15 mine n held.storage task.eib task.levels.callers task.levels.current held.sound (owns_of mine held.storage task held.task) in
        let same = unwound_same n task.levels.callers task.levels.current held.storage mid.shared.storage held.same in
        let now = unwound n task.levels.callers task.levels.current mid.shared.storage in
        let was = unwound n task.levels.callers task.levels.current held.storage in
        let areas : areas_of (exit_storage index task mid.shared.storage) ≡ areas_of was.storage = calen_areas now.storage task.eib (Some now.levels.current.calen) ∙ same.areas in
        let owned : Owns 15 mine was.storage task.eib now.levels.callers now.levels.current = subst (λ (l : Levels). Owns 15 mine was.storage task.eib l.callers l.current) (sym same.levels) left.owns in
        let taken : Owns 15 mine was.storage task.eib (exit_task index task mid.shared.storage).levels.callers (exit_task index task mid.shared.storage).levels.current =
        record {
          eib_there = owned.eib_there;
          current_there = record { stg = owned.current_there.stg; pushes = owned.current_there.pushes };
          callers_there = owned.callers_there;
          few = owned.few;
          apart = owned.apart;
        } in
        rw (over.0, over.1) (goes_on start mid (exit_taken index mid) (turn.TookExit code) held refl refl refl refl was.storage areas (left.others ∙ held.others) taken)
