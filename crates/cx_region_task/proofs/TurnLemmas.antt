-- What a half-turn keeps.
use Rattle.std.proofs.Common.{◌≡◌, ℕ, Bool, true, false, Some, List, refl, sym, ◌∙◌, ap, subst}
use Rattle.std.specs.Prelude.{if◌then◌else◌}
use Rattle.std.proofs.lemmas.Option.{same_Some}
use Rattle.cx_base.specs.declared.conditions.Condition.{Condition}
use Rattle.cx_storage.specs.declared.areas.Area.{Area}
use Rattle.cx_storage.specs.declared.areas.Kind.TheVariants.{Got as GotKind, System}
use Rattle.cx_storage.specs.Storage.{Storage, area_at, area_from, areas_of, starts_elsewhere, with_areas_kept, IsSoundStorage}
use Rattle.cx_storage.specs.Facts.Areas.{area_of_areas}
use Rattle.cx_storage.specs.Facts.Sound.{sound_with_areas_kept}
use Rattle.cx_program.specs.declared.entries.Entries.{Entries}
use Rattle.cx_program.specs.declared.choice.Choice.{Choice}
use Rattle.cx_program.specs.declared.choice.Choice.TheVariants as choice
use Rattle.cx_service.specs.Resources.{dequeue, without_owner}
use Rattle.cx_region_state.specs.declared.report.CommandReport.{CommandReport}
use Rattle.cx_region_state.specs.declared.outputs.Output.{Output}
use Rattle.cx_region_state.specs.Call.{Call}
use Rattle.cx_region_state.specs.declared.replies.TurnReply.{TurnReply}
use Rattle.cx_region_state.specs.declared.replies.TurnReply.TheVariants as turn
use Rattle.cx_region_state.specs.declared.verdict.TaskChange.{TaskChange}
use Rattle.cx_region_state.specs.declared.verdict.TaskChange.TheVariants.{Nothing, Before, After, Gets, Enters, Replaces, LevelEnds, TaskEnds, AbendsWith}
use Rattle.cx_region_state.specs.declared.verdict.AfterOutputs.{AfterOutputs}
use Rattle.cx_region_state.specs.declared.verdict.AfterOutputs.TheVariants.{TakesInput, MarksRead, QueueGone, Dequeues, Frees}
use Rattle.cx_region_state.specs.declared.verdict.Fill.{Fill}
use Rattle.cx_region_state.specs.declared.verdict.Fill.TheVariants.{Byte, Item}
use Rattle.cx_region_state.specs.Areas.{IsAreaOf, got_owner, system_owner}
use Rattle.cx_region_state.specs.State.{TaskContext, TaskState, with_storage}
use Rattle.cx_region_state.specs.Parts.Fits.{FitsChange, FitsEnded}
use Rattle.cx_region_state.specs.Verdicts.{handed_over}
use Rattle.cx_region_task.specs.declared.continuation.Continuation.{Continuation}
use Rattle.cx_region_task.specs.declared.decision.Act.{Act}
use Rattle.cx_region_task.specs.Facts.Met.{IsToBeDone}
use Rattle.cx_region_task.specs.Performing.{Does, LeavesAll}
use Rattle.cx_region_task.specs.Changes.{AppliesBefore, Commits, apply_after, write_outputs, read_for, report_of, write_report}
use Rattle.cx_region_task.specs.Laws.HalfTurns.{HalfTurnKeeps}
use Rattle.cx_region_task.specs.Sound.{IsSoundTask}
use Rattle.cx_region_task.specs.Continuations.{choice_for, is_normal, continuation_by, continuation_chosen, continuation_of}
use Rattle.cx_region_task.proofs.GoLemmas.{Stands, goes_keeps}
use Rattle.cx_region_task.proofs.GrowLemmas.{Grew, Standing, answered_areas, applied_keeps, put_out_areas}
use Rattle.cx_region_task.proofs.MidLemmas.{Mid, goes_on}
use Rattle.cx_region_task.proofs.OwnAreas.{areas_filtered, freed_own}
use Rattle.cx_region_task.proofs.ReleaseLemmas.{dequeued_keeps}
use Rattle.cx_region_task.proofs.SoundSteps.{OwnStay, free_keeps, of_owns, owns_of, owns_stay}

-- ---- written
-- outputs and report: storage has the same areas, all else is the same
stored_grew : (change : TaskChange) (start mid : TaskContext) (storage : Storage) → areas_of storage ≡ areas_of mid.shared.storage
    → Grew change start mid → Grew change start (with_storage mid storage)
stored_grew change start mid storage areas grew =
    let held = grew.held in
    record {
      held = record {
        slot = held.slot;
        programs = held.programs;
        resources = held.resources;
        storage = held.storage;
        sound = held.sound;
        same = areas ∙ held.same;
        others = held.others;
        task = held.task;
      };
      stands = grew.stands;
    }

given_grew : (call : Call) (outputs : List Output) (change : TaskChange) (start mid : TaskContext) → Grew change start mid → Grew change start (write_outputs call outputs change mid)
unfolding write_outputs
given_grew call outputs change start mid grew =
    stored_grew change start mid _ (put_out_areas mid.shared.storage call (handed_over change mid) outputs) grew

reported_grew : (call : Call) (answer : CommandReport) (change : TaskChange) (start mid : TaskContext) → Grew change start mid → Grew change start (write_report call answer mid)
unfolding write_report
reported_grew call answer change start mid grew =
    stored_grew change start mid _ (answered_areas mid.shared.storage mid.task.eib call answer) grew

-- ---- ended
got_apart : (s : Storage) (slot start len place size : ℕ) → IsAreaOf s slot start len → area_at s place ≡ Some (area_from place size (got_owner slot)) → start ≡ place → ⊥
got_apart s slot start len place size there got is =
    let one : Some (area_from start len (system_owner slot)) ≡ Some (area_from place size (got_owner slot)) = sym there ∙ ap (area_at s) is ∙ got in
    let kinds : System ≡ GotKind = ap (λ (a : Area). a.owner.kind) (same_Some _ _ one) in
    cc

got_freed : (s : Storage) (slot place size : ℕ) → IsSoundStorage s → area_at s place ≡ Some (area_from place size (got_owner slot)) → OwnStay slot s (with_areas_kept (starts_elsewhere place) s)
got_freed s slot place size ok got start len there = free_keeps s place start _ ok there (got_apart s slot start len place size there got)

ended_grew : (it : AfterOutputs) (start mid : TaskContext) → FitsEnded it start → areas_of mid.shared.storage ≡ areas_of start.shared.storage → Grew (After it) start mid → Grew (After it) start (apply_after (After it) mid)
unfolding apply_after
ended_grew TakesInput start mid fits areas grew =
    let held = grew.held in
    record { held = record { slot = held.slot; programs = held.programs; resources = held.resources; storage = held.storage; sound = held.sound; same = held.same; others = held.others; task = held.task }; stands = tt }
ended_grew (MarksRead name n) start mid fits areas grew =
    let held = grew.held in
    record { held = record { slot = held.slot; programs = held.programs; resources = held.resources; storage = held.storage; sound = held.sound; same = held.same; others = held.others; task = held.task }; stands = tt }
ended_grew (QueueGone name) start mid fits areas grew =
    let held = grew.held in
    record { held = record { slot = held.slot; programs = held.programs; resources = held.resources; storage = held.storage; sound = held.sound; same = held.same; others = held.others; task = held.task }; stands = tt }
ended_grew (Dequeues resource) start mid fits areas grew =
    let held = grew.held in
    let kept : without_owner (dequeue mid.shared.resources mid.terminal_entry.slot resource) start.terminal_entry.slot ≡ without_owner start.shared.resources start.terminal_entry.slot =
    rw (held.slot) (dequeued_keeps mid.shared.resources start.terminal_entry.slot resource ∙ held.resources) in
    record { held = record { slot = held.slot; programs = held.programs; resources = kept; storage = held.storage; sound = held.sound; same = held.same; others = held.others; task = held.task }; stands = tt }
ended_grew (Frees place) start mid fits areas grew =
    let held = grew.held in
    let slot = start.terminal_entry.slot in
    let s = held.storage in
    let t = with_areas_kept (starts_elsewhere place) s in
    let got : area_at s place ≡ Some (area_from place fits.len (got_owner slot)) = area_of_areas s start.shared.storage place (sym held.same ∙ areas) ∙ fits.area in
    record {
      held = record {
        slot = held.slot;
        programs = held.programs;
        resources = held.resources;
        storage = t;
        sound = sound_with_areas_kept s (starts_elsewhere place) held.sound;
        same = areas_filtered (starts_elsewhere place) s mid.shared.storage held.same;
        others = freed_own s slot place _ held.sound got refl ∙ held.others;
        task = of_owns slot t mid.task (owns_stay 15 slot s t mid.task.eib mid.task.levels.callers mid.task.levels.current (got_freed s slot place fits.len held.sound got) (owns_of slot s mid.task held.task));
      };
      stands = tt;
    }

read_grew : (got : _) (fill : Fill) (start mid : TaskContext) → Grew (Gets got) start mid → Grew (Gets got) start (read_for fill mid)
read_grew got (Byte b) start mid grew = grew
read_grew got (Item name n) start mid grew =
    let held = grew.held in
    record { held = record { slot = held.slot; programs = held.programs; resources = held.resources; storage = held.storage; sound = held.sound; same = held.same; others = held.others; task = held.task }; stands = tt }

finished_grew : (change : TaskChange) (start mid : TaskContext) → FitsChange change start → ((it : AfterOutputs) → change ≡ After it → areas_of mid.shared.storage ≡ areas_of start.shared.storage) → Grew change start mid → Grew change start (apply_after change mid)
unfolding apply_after
finished_grew Nothing start mid fits areas grew = grew
finished_grew (Before it) start mid fits areas grew = grew
finished_grew (After it) start mid fits areas grew = ended_grew it start mid fits (areas it refl) grew
finished_grew (Gets got) start mid fits areas grew = read_grew got got.fill start mid grew
finished_grew (Enters level) start mid fits areas grew = grew
finished_grew (Replaces copying level) start mid fits areas grew = grew
finished_grew LevelEnds start mid fits areas grew = grew
finished_grew (TaskEnds next) start mid fits areas grew = grew
finished_grew (AbendsWith code cancel) start mid fits areas grew = grew

-- where something ends, nothing is made
ends_alone : (it : AfterOutputs) (start made : TaskContext) → AppliesBefore (After it) start made → made ≡ start
unfolding AppliesBefore
ends_alone it start made applied = applied

ends_areas : (call : Call) (outputs : List Output) (answer : CommandReport) (change : TaskChange) (start made : TaskContext) → AppliesBefore change start made → (it : AfterOutputs) → change ≡ After it
    → areas_of (write_report call answer (write_outputs call outputs change made)).shared.storage ≡ areas_of start.shared.storage
unfolding write_report write_outputs
ends_areas call outputs answer change start made applied it is =
    let same : made ≡ start = ends_alone it start made (subst (λ (x : TaskChange). AppliesBefore x start made) is applied) in
    answered_areas _ _ call answer ∙ put_out_areas made.shared.storage call (handed_over change made) outputs ∙ ap (λ (r : TaskContext). areas_of r.shared.storage) same

settled_grew : (call : Call) (condition : Condition) (outputs : List Output) (change : TaskChange) (start after : TaskContext) → IsSoundStorage start.shared.storage
    → IsSoundTask start.shared.storage start.terminal_entry.slot start.task → FitsChange change start → Commits call condition outputs change start after → Grew change start after
settled_grew call condition outputs change start after ok own fits commits =
    let answer = report_of call condition change start in
    let grew = applied_keeps change start commits.made ok own fits commits.applied in
    let written = reported_grew call answer change start (write_outputs call outputs change commits.made) (given_grew call outputs change start commits.made grew) in
    rw (commits.committed) (finished_grew change start (write_report call answer (write_outputs call outputs change commits.made)) fits
    (ends_areas call outputs answer change start commits.made commits.applied) written)

-- ---- the way
by_change : (change : TaskChange) (slot : ℕ) (s : Storage) (task : TaskState) → Standing change slot s task → Stands (continuation_by change) slot s task
by_change Nothing slot s task stands = tt
by_change (Before it) slot s task stands = tt
by_change (After it) slot s task stands = tt
by_change (Gets got) slot s task stands = tt
by_change (Enters level) slot s task stands = stands
by_change (Replaces copying level) slot s task stands = stands
by_change LevelEnds slot s task stands = tt
by_change (TaskEnds next) slot s task stands = tt
by_change (AbendsWith code cancel) slot s task stands = tt

by_choice : (chosen : Choice) (slot : ℕ) (s : Storage) (task : TaskState) → Stands (continuation_chosen chosen) slot s task
by_choice (choice.Label label) slot s task = tt
by_choice choice.GoOn slot s task = tt
by_choice choice.Wait slot s task = tt
by_choice (choice.Abend code) slot s task = tt

way_stands : (call : Call) (entries : Entries) (condition : Condition) (change : TaskChange) (slot : ℕ) (s : Storage) (task : TaskState) → Standing change slot s task
    → Stands (continuation_of call entries condition change) slot s task
unfolding continuation_of
way_stands call entries condition change slot s task stands = either (is_normal condition)
  where
    either : (normal : Bool) → Stands (if normal then continuation_by change else continuation_chosen (choice_for call entries condition)) slot s task
    either true = by_change change slot s task stands
    either false = by_choice (choice_for call entries condition) slot s task

-- ---- a decision
pub waits_keeps : (start after : TaskContext) (reply : TurnReply) → Mid start start → LeavesAll start reply after → HalfTurnKeeps start reply after
waits_keeps start after reply held leaves =
    rw (leaves.waiting, leaves.same) (goes_on start start start turn.Waiting held refl refl refl refl held.storage held.same held.others (owns_of start.terminal_entry.slot held.storage start.task held.task))

pub acts_keep : (act : Act) (start after : TaskContext) (reply : TurnReply) → IsSoundStorage start.shared.storage
    → IsSoundTask start.shared.storage start.terminal_entry.slot start.task → FitsChange act.change start → IsToBeDone act start → Does act start reply after → HalfTurnKeeps start reply after
acts_keep act start after reply ok own fits known it =
    let grew = settled_grew act.call act.condition act.outputs act.change start it.committed ok own fits it.commits in
    let slot = start.terminal_entry.slot in
    let way = way_stands act.call start.task.levels.current.handles.active.entries act.condition act.change slot grew.held.storage it.committed.task grew.stands in
    let stands : Stands act.continuation slot grew.held.storage it.committed.task = subst (λ (gone : Continuation). Stands gone slot grew.held.storage it.committed.task) (sym known.way) way in
    goes_keeps act.continuation act.condition start it.committed after reply grew.held stands it.goes
