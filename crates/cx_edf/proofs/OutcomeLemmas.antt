-- Every event under EDF has an outcome, and every list of events is a run.
use Rattle.std.proofs.Common.{[], ◌∷◌, Some, None, refl, subst, sym}
use Rattle.std.specs.Prelude.{Option, unwrap_or}
use Rattle.cx_region.specs.declared.replies.Event.{Event}
use Rattle.cx_region_laws.specs.Laws.Outcomes.{EventsHaveOutcomes, HasOutcome}
use Rattle.cx_region_laws.specs.Laws.Sound.{IsChecked}
use Rattle.cx_edf.specs.declared.answers.EdfEvent.{EdfEvent}
use Rattle.cx_edf.specs.declared.answers.Answer.{Answer}
use Rattle.cx_edf.specs.declared.answers.Answer.TheVariants as answer
use Rattle.cx_edf.specs.State.{EdfState}
use Rattle.cx_edf.specs.Steps.{DisplayMaker, Door, DoorAnswers, EdfApplies, Keeps, Passes, door_of, sessions_after}
use Rattle.cx_edf.specs.Runs.{Trace}
use Rattle.cx_edf.specs.Laws.Memory.{IsCheckedEdf}
use Rattle.cx_edf.specs.Laws.Outcomes.{EdfEventListsAreRuns, EdfEventsHaveOutcomes}
use Rattle.cx_edf.proofs.DoorLemmas.{Fits, fits}

-- an answer, and a state after it
record HasEnd (make : DisplayMaker) (old : EdfState) (door : Door) : Type 0 where
  pub given : Answer
  pub new : EdfState
  pub done : DoorAnswers make old door given new

-- an event of the region
passed : EventsHaveOutcomes → (make : DisplayMaker) (old : EdfState) (x : Event) (own : Option Answer) → IsChecked x → HasEnd make old (Passes x own)
passed outcomes make old x own fit =
    let found : HasOutcome old.region x = outcomes old.region x fit in
    record {
      given = unwrap_or own (answer.Region found.reply);
      new = record { region = found.new; sessions = sessions_after old.sessions x found.reply (make found.new) };
      done = record { reply = found.reply; applies = found.applies; table = refl; answers = refl };
    }

ends : EventsHaveOutcomes → (make : DisplayMaker) (old : EdfState) (e : EdfEvent) (door : Door) → Fits old e door → IsCheckedEdf e → HasEnd make old door
unfolding Fits
ends outcomes make old e (Keeps own sessions) fit checked = record { given = own; new = record old { sessions = sessions }; done = (refl, refl) }
ends outcomes make old e (Passes x None) fit checked = passed outcomes make old x None (subst IsCheckedEdf fit.0 checked)
ends outcomes make old e (Passes x (Some own)) fit checked = passed outcomes make old x (Some own) (subst IsChecked (sym fit.1.abend) tt)

pub events_have_outcomes : EventsHaveOutcomes → EdfEventsHaveOutcomes
unfolding EdfApplies
events_have_outcomes outcomes make old e checked =
    let found : HasEnd make old (door_of old e) = ends outcomes make old e (door_of old e) (fits old e) checked in
    record { given = found.given; new = found.new; applies = found.done }

pub event_lists_are_runs : EventsHaveOutcomes → EdfEventListsAreRuns
unfolding Trace
event_lists_are_runs outcomes make old [] checked = record { answers = []; states = []; trace = tt }
event_lists_are_runs outcomes make old (e ∷ events) checked =
    let one = events_have_outcomes outcomes make old e checked.0 in
    let rest = event_lists_are_runs outcomes make one.new events checked.1 in
    record { answers = one.given ∷ rest.answers; states = one.new ∷ rest.states; trace = (one.applies, rest.trace) }
