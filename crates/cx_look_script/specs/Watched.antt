-- What is watched, and what is written after an action that changes it (own).
use Rattle.std.specs.Prelude.{◌≡◌, ℕ, map, min, Option, None, List, [], ◌∷◌, codes, option_and_then, option_map}
use Rattle.std.specs.Option.{option_map_or}
use Rattle.cx_base.specs.Texts.{shown_name}
use Rattle.cx_region.specs.declared.replies.Event.TheVariants as event
use Rattle.cx_edf.specs.declared.answers.EdfEvent.{EdfEvent}
use Rattle.cx_edf.specs.declared.answers.EdfEvent.TheVariants as edf_event
use Rattle.cx_script_actions.specs.declared.actions.Action.{Action}
use Rattle.cx_script_actions.specs.declared.actions.Action.TheVariants as edf_action
use Rattle.cx_look_lines.specs.Words.{Lines, look_line, marked, written_name}
use Rattle.cx_look_ahead.specs.declared.rows.Row.{Row}
use Rattle.cx_look_fields.specs.FieldTexts.{field_there, standing_at}
use Rattle.cx_look_fields.specs.declared.fields.Field.{Field}
use Rattle.cx_look_ahead.specs.Watching.{AreOfRanges, ActionEffect, work_of, begun_watch, kept_in, with_range}
use Rattle.cx_look_ahead.specs.declared.watching.Cause.{Cause}
use Rattle.cx_look_ahead.specs.declared.watching.Cause.TheVariants as cause
use Rattle.cx_look_ahead.specs.declared.watching.Kept.{Kept}
use Rattle.cx_look_script.specs.State.{LookState}
use Rattle.cx_look_script.specs.Sources.{level_lines}
use Rattle.cx_look_script.specs.declared.action.LookAction.{LookAction}
use Rattle.cx_look_script.specs.declared.action.LookAction.TheVariants as action
use Rattle.cx_look_script.specs.declared.action.WatchLine.{WatchLine}
use Rattle.cx_look_script.specs.declared.action.WatchLine.TheVariants as watch

-- ---- WATCH
-- the first 256 bytes of a field of the current level of a terminal's task
abbrev pub range_of : Field → Row
range_of field = record { at = field.address; length = min 256 field.length }

abbrev pub field_range : LookState → List ℕ → List ℕ → Option Row
field_range state term name =
    option_map (λ it. range_of it.field)
    (option_and_then (field_there (level_lines state term None) name) (standing_at state.edf.region term None))

abbrev pub no_range : List ℕ → List ℕ → Lines
no_range term name = look_line (codes "WATCH" ∷ shown_name term ∷ written_name name ∷ codes "NONE" ∷ [])

-- what is watched afterwards, and what is written
abbrev pub watched_after : LookState → WatchLine → List Row
watched_after state watch.Off = []
watched_after state (watch.Range at n) = with_range state.watched (record { at = at; length = n })
watched_after state (watch.Field term name) =
    option_map_or (with_range state.watched) (field_range state term name) state.watched

abbrev pub watch_lines : LookState → WatchLine → Lines
watch_lines state watch.Off = look_line (codes "WATCH" ∷ codes "OFF" ∷ [])
watch_lines state (watch.Range at n) =
    begun_watch state.watched state.edf.region.shared.storage (record { at = at; length = n })
watch_lines state (watch.Field term name) =
    option_map_or (begun_watch state.watched state.edf.region.shared.storage) (field_range state term name)
    (no_range term name)

-- ---- after an action
-- what is done
abbrev pub cause_of_event : EdfEvent → Cause
cause_of_event (edf_event.Plain (event.Turn name)) = cause.Turn name
cause_of_event (edf_event.Plain (event.Key name aid bytes)) = cause.Key name
cause_of_event (edf_event.Plain (event.Alter name change)) = cause.Alter name
cause_of_event (edf_event.Plain (event.Program name image)) = cause.Program name
cause_of_event _ = cause.Other

abbrev pub cause_of_action : Action → Cause
cause_of_action (edf_action.Event e) = cause_of_event e
cause_of_action (edf_action.Image name image) = cause.Program name
cause_of_action (edf_action.Source name before image) = cause.Program name
cause_of_action _ = cause.Other

abbrev pub cause_of : LookAction → Cause
cause_of (action.Script a) = cause_of_action a
cause_of (action.Source name lines a) = cause_of_action a
cause_of (action.Run name n s) = cause.Turn name
cause_of (action.RunOn name n s) = cause.Turn name
cause_of _ = cause.Other

-- what it did, between two states
abbrev pub effect_of : LookState → Cause → LookState → ActionEffect
effect_of old by new =
    record {
      by = by;
      done = work_of old.edf.region by;
      sources = new.sources;
      programs = new.edf.region.shared.programs;
      storage = new.edf.region.shared.storage;
    }

-- a line for each range of which a byte has changed
pub record ShowsChanges (effect : ActionEffect) (kept : List Kept) (text : List ℕ) : Type 0 where
  pub lines : Lines
  pub are : AreOfRanges effect kept lines
  pub is : text ≡ marked lines

abbrev pub IsWatchedText : LookState → Cause → LookState → List ℕ → Type 0
IsWatchedText old by new text =
    ShowsChanges (effect_of old by new) (map (kept_in old.edf.region.shared.storage) old.watched) text
