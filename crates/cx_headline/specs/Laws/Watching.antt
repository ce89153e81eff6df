-- Watching changes nothing.
use Rattle.std.specs.Prelude.{◌≡◌, ℕ, false, List, [], ◌∷◌, ◌++◌, map, take, slice_get, Some, None, if◌then◌else◌}
use Rattle.cx_region.specs.declared.changes.AlterReply.TheVariants as alter
use Rattle.cx_region.specs.declared.replies.Event.{Event}
use Rattle.cx_region.specs.declared.replies.Reply.{Reply}
use Rattle.cx_region.specs.declared.replies.Reply.TheVariants as reply
use Rattle.cx_region.specs.State.{RegionState}
use Rattle.cx_region.specs.Events.{Run}
use Rattle.cx_edf.specs.declared.answers.Answer.{Answer}
use Rattle.cx_edf.specs.declared.answers.Answer.TheVariants as answer
use Rattle.cx_edf.specs.declared.answers.EdfEvent.{EdfEvent}
use Rattle.cx_edf.specs.declared.answers.EdfEvent.TheVariants as edf_event
use Rattle.cx_edf.specs.State.{EdfState}
use Rattle.cx_edf.specs.Erasure.{erasure, region_replies}
use Rattle.cx_edf.specs.Steps.{DisplayMaker}
use Rattle.cx_edf.specs.Runs.{Trace, last_state}
use Rattle.cx_edf.specs.Laws.Edf.{AreAnsweredOff, event_ends_task, is_alteration, off_at}
use Rattle.cx_script_actions.specs.Effects.{Performs}
use Rattle.cx_script_actions.specs.declared.actions.Action.{Action}
use Rattle.cx_script.specs.Laws.Events.{event_of}
use Rattle.cx_headline.specs.Laws.Runs.{state_after_first}

-- of a run's first n events what is left for the region, and what it replies
abbrev pub left_of_first : EdfState → List EdfEvent → List Answer → List EdfState → ℕ → List Event
left_of_first old events answers states n = erasure old (take n events) (take n answers) (take n states)

abbrev pub replies_of_first : EdfState → List EdfEvent → List Answer → List EdfState → ℕ → List Reply
replies_of_first old events answers states n = region_replies old (take n events) (take n answers) (take n states)

-- ---- nothing altered
-- no event ends a task by PF12, and none is answered Altered
abbrev pub AltersNothing : EdfState → List EdfEvent → List Answer → List EdfState → Type 0
AltersNothing old events answers states = (n : ℕ) (e : EdfEvent) → slice_get events n ≡ Some e
    → (event_ends_task (state_after_first old states n) e ≡ false)
    × (slice_get answers n ≡ Some (answer.Region (reply.Alter alter.Altered)) → ⊥)

-- the events that the region answered, with its replies, except alterations
abbrev pub answered_of : EdfEvent → Answer → List (Event × Reply)
answered_of (edf_event.Plain e) (answer.Region r) = if is_alteration e then [] else (e, r) ∷ []
answered_of e given = []

unfoldable pub answered_in : List EdfEvent → List Answer → List (Event × Reply)
answered_in (e ∷ events) (given ∷ answers) = answered_of e given ++ answered_in events answers
answered_in _ _ = []

-- What is left is exactly these, in their order, each as it was given, and so are the replies. Given to the same region
-- with EDF Off at each terminal, they are answered so, and leave the region that EDF left; and in no other way.
pub record IsUnaltered (old : EdfState) (events : List EdfEvent) (answers : List Answer) (left : List Event)
    (replies : List Reply)
    (state : EdfState) : Type 0 where
  pub events_left : left ≡ map (λ (p : Event × Reply). p.0) (answered_in events answers)
  pub replies_left : replies ≡ map (λ (p : Event × Reply). p.1) (answered_in events answers)
  pub off : (make : DisplayMaker) → AreAnsweredOff make old.region left replies state.region
  pub only_off : (make : DisplayMaker) (others : List Answer) (states : List EdfState)
      → Trace make (off_at old.region) (map (λ e. edf_event.Plain e) left) others states
      → (others ≡ map (λ r. answer.Region r) replies) × ((last_state (off_at old.region) states).region ≡ state.region)

-- ---- the same states
-- The region after each event is that of a plain run of the events that are left up to there, with the region's
-- replies; and there is no other such run.
pub record IsAsUnwatched (old : EdfState) (events : List EdfEvent) (answers : List Answer) (states : List EdfState)
    : Type 0 where
  pub plain : (n : ℕ)
      → Run old.region (left_of_first old events answers states n) (replies_of_first old events answers states n)
      (state_after_first old states n).region
  pub only : (n : ℕ) (replies : List Reply) (after : RegionState)
      → Run old.region (left_of_first old events answers states n) replies after
      → (replies ≡ replies_of_first old events answers states n) × (after ≡ (state_after_first old states n).region)
  pub unaltered : AltersNothing old events answers states → (n : ℕ)
      → IsUnaltered old (take n events) (take n answers) (left_of_first old events answers states n)
      (replies_of_first old events answers states n) (state_after_first old states n)

-- what a script shows comes between events: an action that gives none changes nothing
abbrev pub ShowingChangesNothing : Type 0
ShowingChangesNothing = (make : DisplayMaker) (old : EdfState) (action : Action) (text : List ℕ) (new : EdfState)
    → event_of action ≡ None → Performs make old action text new → new ≡ old
