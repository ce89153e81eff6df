-- What always holds of a region is kept by an alteration.
use Rattle.std.proofs.Common.{◌≡◌, ℕ, Bool, true, false, Option, Some, None, List, [], ◌∷◌, refl, sym, ◌∙◌, ap, subst, inl, inr}
use Rattle.std.specs.Prelude.{◌==◌, if◌then◌else◌, slice_set}
use Rattle.std.specs.Option.{option_map_or}
use Rattle.std.specs.Map.{lookup}
use Rattle.std.proofs.lemmas.Bool.{cases_Bool, true≢false}
use Rattle.cx_storage.specs.declared.areas.Area.{Area}
use Rattle.cx_storage.specs.Facts.Areas.{area_of_areas}
use Rattle.cx_storage.specs.Facts.Writes.{areas_after_set}
use Rattle.cx_storage.specs.Storage.{Storage, areas_of, area_at, is_of_other_slot, with_areas_kept, with_byte, IsSoundStorage}
use Rattle.cx_program.specs.declared.level.Level.{Level}
use Rattle.cx_program.specs.Levels.{with_current}
use Rattle.cx_service.specs.Queues.{AreSoundQueues}
use Rattle.cx_service.specs.Resources.{AreSoundResources, Resources, without_owner}
use Rattle.cx_base.specs.declared.abends.Abend.TheVariants.{Xedf}
use Rattle.cx_base.specs.Abends.{abend_code}
use Rattle.cx_region_state.specs.declared.replies.TurnReply.{TurnReply}
use Rattle.cx_region_state.specs.declared.replies.TurnReply.TheVariants as turn
use Rattle.cx_region_state.specs.Replies.{is_over}
use Rattle.cx_region_state.specs.State.{TaskContext, TaskState}
use Rattle.cx_region_task.specs.Laws.HalfTurns.{HalfTurnKeeps}
use Rattle.cx_region_task.specs.Sound.{IsSoundLevel, IsSoundTask}
use Rattle.cx_region.specs.declared.changes.Change.{Change}
use Rattle.cx_region.specs.declared.changes.Change.TheVariants.{Register, Byte, Nop, Abend}
use Rattle.cx_region.specs.State.{RegionState, TerminalState}
use Rattle.cx_ebcdic.specs.Names.{is_name}
use Rattle.cx_region.specs.Turn.{put_back, context_of, task_after}
use Rattle.cx_region.specs.Alter.{after_change, altered_at, altered_region, task_left, with_register}
use Rattle.cx_region.specs.Sound.{IsSound}
use Rattle.cx_region.specs.Facts.SoundDefining.{all_weaker}
use Rattle.cx_region.specs.Facts.SoundTurned.{own_task, sound_kept}

-- ---- what a change keeps
areas_filtered : (keeps : Area → Bool) (s t : Storage) → areas_of t ≡ areas_of s → areas_of (with_areas_kept keeps t) ≡ areas_of (with_areas_kept keeps s)
unfolding areas_of with_areas_kept
areas_filtered keeps [] [] e = refl
areas_filtered keeps [] (g ∷ gs) e = cc
areas_filtered keeps (h ∷ hs) [] e = cc
areas_filtered keeps (h ∷ hs) (g ∷ gs) e =
    let first : g.area ≡ h.area = cc in
    let others : areas_of gs ≡ areas_of hs = cc in
    let rest = areas_filtered keeps hs gs others in
    elim (cases_Bool (keeps h.area)) [
      | inl k ↦ let j : keeps g.area ≡ true = ap keeps first ∙ k in rw (k, j, first, rest) refl
      | inr k ↦ let j : keeps g.area ≡ false = ap keeps first ∙ k in rw (k, j) rest
    ]

pub kept_twice : (keeps : Area → Bool) (s : Storage) → with_areas_kept keeps (with_areas_kept keeps s) ≡ with_areas_kept keeps s
unfolding with_areas_kept
kept_twice keeps [] = refl
kept_twice keeps (h ∷ hs) = elim (cases_Bool (keeps h.area)) [
  | inl k ↦ rw (k, k) (ap (λ l. h ∷ l) (kept_twice keeps hs))
  | inr k ↦ rw k (kept_twice keeps hs)
]

pub released_twice : (rs : Resources) (slot : ℕ) → without_owner (without_owner rs slot) slot ≡ without_owner rs slot
unfolding without_owner
released_twice [] slot = refl
released_twice (e ∷ rs) slot = elim (cases_Bool (e.1.owner == slot)) [
  | inl mine ↦ rw mine (released_twice rs slot)
  | inr other ↦ rw (other, other) (ap (λ l. e ∷ l) (released_twice rs slot))
]

-- a task stays sound where areas stay
with_areas_same : (s u : Storage) (slot : ℕ) (task : TaskState) → areas_of u ≡ areas_of s → IsSoundTask s slot task → IsSoundTask u slot task
with_areas_same s u slot task same own =
    record {
      eib = at task.eib ∙ own.eib;
      current = level task.levels.current own.current;
      callers = all_weaker (IsSoundLevel s slot) (IsSoundLevel u slot) task.levels.callers level own.callers;
      few = own.few;
      apart = own.apart;
    }
  where
    at : (x : ℕ) → area_at u x ≡ area_at s x
    at x = area_of_areas u s x same

    level : (l : Level) → IsSoundLevel s slot l → IsSoundLevel u slot l
    level l ok = record { stg = at l.stg ∙ ok.stg; pushes = ok.pushes }

-- and where registers are set
register_keeps : (s : Storage) (slot : ℕ) (task : TaskState) (r v : ℕ) → IsSoundTask s slot task → IsSoundTask s slot (with_register task r v)
register_keeps s slot task r v own = by_due task.due
  where
    by_due : (b : Bool)
        → IsSoundTask s slot (record task { regs = slice_set task.regs r v; levels = if b then with_current task.levels (record task.levels.current { regs = slice_set task.levels.current.regs r v }) else task.levels })
    by_due true = record { eib = own.eib; current = record { stg = own.current.stg; pushes = own.current.pushes }; callers = own.callers; few = own.few; apart = own.apart }
    by_due false = record { eib = own.eib; current = own.current; callers = own.callers; few = own.few; apart = own.apart }

-- as the reply of a turn that leaves the task so
reported_as : Change → TurnReply
reported_as Abend = turn.Abended (abend_code Xedf)
reported_as _ = turn.Waiting

not_over : {P : Type 0} → is_over turn.Waiting ≡ true → P
not_over e = absurd (true≢false (sym e))

still_live : {P : Type 0} → is_over (turn.Abended (abend_code Xedf)) ≡ false → P
still_live e = absurd (true≢false e)

goes_on : (before after : TaskContext) → after.terminal_entry.slot ≡ before.terminal_entry.slot → after.shared.programs ≡ before.shared.programs → areas_of after.shared.storage ≡ areas_of before.shared.storage
    → after.shared.resources ≡ before.shared.resources → IsSoundTask after.shared.storage before.terminal_entry.slot after.task → HalfTurnKeeps before turn.Waiting after
goes_on before after slot programs areas resources own =
    record {
      slot = slot;
      programs = programs;
      areas = areas_filtered (is_of_other_slot before.terminal_entry.slot) before.shared.storage after.shared.storage areas;
      resources = ap (λ rs. without_owner rs before.terminal_entry.slot) resources;
      task = λ live. own;
      nothing_left = not_over;
      released = not_over;
    }

change_keeps : (change : Change) (before : TaskContext) → IsSoundTask before.shared.storage before.terminal_entry.slot before.task → HalfTurnKeeps before (reported_as change) (after_change change before)
unfolding after_change reported_as
change_keeps (Register r v) before own = goes_on before (after_change (Register r v) before) refl refl refl refl (register_keeps before.shared.storage before.terminal_entry.slot before.task r v own)
change_keeps (Byte a v) before own =
    let same = areas_after_set before.shared.storage a v in
    goes_on before (after_change (Byte a v) before) refl refl same refl (with_areas_same before.shared.storage (with_byte before.shared.storage a v) before.terminal_entry.slot before.task same own)
change_keeps Nop before own =
    goes_on before (after_change Nop before) refl refl refl refl (record { eib = own.eib; current = own.current; callers = own.callers; few = own.few; apart = own.apart })
change_keeps Abend before own =
    record {
      slot = refl;
      programs = refl;
      areas = ap areas_of (kept_twice (is_of_other_slot before.terminal_entry.slot) before.shared.storage);
      resources = released_twice before.shared.resources before.terminal_entry.slot;
      task = still_live;
      nothing_left = λ over. kept_twice (is_of_other_slot before.terminal_entry.slot) before.shared.storage;
      released = λ over. released_twice before.shared.resources before.terminal_entry.slot;
    }

-- ---- soundness
put_as : (r : RegionState) (name : List ℕ) (change : Change) (after : TaskContext) → put_back r name after (task_left change after.task) ≡ put_back r name after (task_after (reported_as change) after.task)
unfolding reported_as
put_as r name (Register n v) after = refl
put_as r name (Byte a v) after = refl
put_as r name Nop after = refl
put_as r name Abend after = refl

pub sound_altered : (r new : RegionState) (name : List ℕ) (change : Change) → IsSound r → new ≡ altered_region r name change
    → IsSoundStorage new.shared.storage → AreSoundQueues new.shared.queues → AreSoundResources new.shared.resources → IsSound new
unfolding altered_region
sound_altered r new name change ok is sound queues resources = by_terminal (lookup (is_name name) r.terminals) refl is
  where
    by_task : (t : TerminalState) → lookup (is_name name) r.terminals ≡ Some t → (o : Option TaskState) → t.task ≡ o → new ≡ option_map_or (altered_at r name change t) o r → IsSound new
    by_task t there None at e = subst IsSound (sym e) ok
    by_task t there (Some task) at e =
        let before = context_of r t task in
        sound_kept r new name t task (reported_as change) (after_change change before) ok there (change_keeps change before (own_task r name t task ok there at))
        (e ∙ put_as r name change (after_change change before)) sound queues resources

    by_terminal : (o : Option TerminalState) → lookup (is_name name) r.terminals ≡ o → new ≡ option_map_or (λ t. option_map_or (altered_at r name change t) t.task r) o r → IsSound new
    by_terminal None there e = subst IsSound (sym e) ok
    by_terminal (Some t) there e = by_task t there t.task refl e
