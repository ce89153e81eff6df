-- An action has one outcome, and a run of a script is one of its events.
use Rattle.std.proofs.Common.{◌≡◌, ℕ, List, [], ◌∷◌, ◌++◌, None, Some, Option, refl, sym, ap, ◌∙◌, subst}
use Rattle.cx_code.specs.declared.image.Image.{Image}
use Rattle.cx_load.specs.Fault.{image_fault}
use Rattle.cx_load.specs.declared.fault.ImageFault.{ImageFault}
use Rattle.cx_edf.specs.declared.answers.Answer.{Answer}
use Rattle.cx_edf.specs.declared.answers.EdfEvent.{EdfEvent}
use Rattle.cx_edf.specs.Laws.Edf.{EdfEventsDecide}
use Rattle.cx_edf.specs.State.{EdfState}
use Rattle.cx_edf.specs.Steps.{EdfApplies, DisplayMaker}
use Rattle.cx_edf.specs.Runs.{EdfRun, Trace, last_state}
use Rattle.cx_script_actions.specs.Effects.{Performs, Replies, ByFault}
use Rattle.cx_script_actions.specs.Texts.{answer_text}
use Rattle.cx_script.specs.Transcript.{PerformsAll}
use Rattle.cx_script.specs.Laws.Events.{AreReported, IsRun, IsReportedBy, ScriptsRunTheirEvents, event_of, events_of, program_event, written_before}
use Rattle.cx_script_actions.specs.declared.actions.Action.{Action}
use Rattle.cx_script_actions.specs.declared.actions.Action.TheVariants as action

-- ---- one outcome
replies_decide : (make : DisplayMaker) → EdfEventsDecide → (old : EdfState) (event : EdfEvent) (text other : List ℕ) (new another : EdfState)
    → Replies make old event text new → Replies make old event other another → (text ≡ other) × (new ≡ another)
unfolding Replies
replies_decide make events old event text other new another p q =
    let same = events make old event p.0 q.0 new another p.1 q.1 in
    (p.2 ∙ ap (answer_text event) same.0 ∙ sym q.2, same.1)

image_decides : (make : DisplayMaker) → EdfEventsDecide → (fault : Option ImageFault) (old : EdfState) (name : List ℕ) (image : Image) (text other : List ℕ) (new another : EdfState)
    → ByFault make fault old name image text new → ByFault make fault old name image other another → (text ≡ other) × (new ≡ another)
image_decides make events None old name image text other new another p q = replies_decide make events old _ text other new another p q
image_decides make events (Some fault) old name image text other new another p q = (p.0 ∙ sym q.0, p.1 ∙ sym q.1)

pub actions_decide : EdfEventsDecide → (make : DisplayMaker) (old : EdfState) (a : Action) (text other : List ℕ) (new another : EdfState)
    → Performs make old a text new → Performs make old a other another → (text ≡ other) × (new ≡ another)
unfolding Performs
actions_decide events make old (action.Image name image) text other new another p q = image_decides make events (image_fault image) old name image text other new another p q
actions_decide events make old (action.Source name before image) text other new another p q =
    let same = image_decides make events (image_fault image) old name image p.0 q.0 new another p.1 q.1 in
    (p.2 ∙ ap (λ own. before ++ own) same.0 ∙ sym q.2, same.1)
actions_decide events make old (action.Event event) text other new another p q = replies_decide make events old event text other new another p q
actions_decide events make old (action.Screen name) text other new another p q = (p.0 ∙ sym q.0, p.1 ∙ sym q.1)
actions_decide events make old (action.Display name) text other new another p q = (p.0 ∙ sym q.0, p.1 ∙ sym q.1)
actions_decide events make old (action.Previous name k) text other new another p q = (p.0 ∙ sym q.0, p.1 ∙ sym q.1)

-- ---- events
-- what an action did, by the event that it gives and what it writes before
abbrev Gives : (make : DisplayMaker) → Option EdfEvent → List ℕ → EdfState → List ℕ → EdfState → Type 0
Gives make None before old text new = new ≡ old
Gives make (Some event) before old text new = (given : Answer) × EdfApplies make old event given new × (text ≡ before ++ answer_text event given)

image_gives : (make : DisplayMaker) (fault : Option ImageFault) (old : EdfState) (name before : List ℕ) (image : Image) (own text : List ℕ) (new : EdfState)
    → ByFault make fault old name image own new → text ≡ before ++ own → Gives make (program_event fault name image) before old text new
unfolding Replies
image_gives make None old name before image own text new p w = (p.0, p.1, w ∙ ap (λ t. before ++ t) p.2)
image_gives make (Some fault) old name before image own text new p w = p.1

gives : (make : DisplayMaker) (old : EdfState) (a : Action) (text : List ℕ) (new : EdfState) → Performs make old a text new → Gives make (event_of a) (written_before a) old text new
unfolding Performs Replies
gives make old (action.Image name image) text new p = image_gives make (image_fault image) old name [] image text text new p refl
gives make old (action.Source name before image) text new p = image_gives make (image_fault image) old name before image p.0 text new p.1 p.2
gives make old (action.Event event) text new p = p
gives make old (action.Screen name) text new p = p.1
gives make old (action.Display name) text new p = p.1
gives make old (action.Previous name k) text new p = p.1

-- one action in front of a run
runs_on : (make : DisplayMaker) (given : Option EdfEvent) (a : Action) (actions : List Action) (old between new : EdfState) (first rest : List ℕ) → event_of a ≡ given
    → Gives make given (written_before a) old first between → IsRun make between actions rest new → IsRun make old (a ∷ actions) (first ++ rest) new
unfolding AreReported Trace last_state
runs_on make None a actions old between new first rest e p r =
    record {
      answers = r.answers;
      run = rw e (subst (λ (s : EdfState). EdfRun make s (events_of actions) r.answers new) p r.run);
      texts = first ∷ r.texts;
      whole = ap (λ (l : List ℕ). first ++ l) r.whole;
      reported = subst (λ (o : Option EdfEvent). IsReportedBy o (written_before a) r.answers first (λ left. AreReported actions left r.texts)) (sym e) r.reported;
    }
runs_on make (Some event) a actions old between new first rest e p r =
    record {
      answers = p.0 ∷ r.answers;
      run = rw e (record { states = between ∷ r.run.states; trace = (p.1, r.run.trace); ends = r.run.ends });
      texts = first ∷ r.texts;
      whole = ap (λ (l : List ℕ). first ++ l) r.whole;
      reported = subst (λ (o : Option EdfEvent). IsReportedBy o (written_before a) (p.0 ∷ r.answers) first (λ left. AreReported actions left r.texts)) (sym e) (p.2, r.reported);
    }

pub scripts_run_their_events : ScriptsRunTheirEvents
unfolding PerformsAll AreReported Trace last_state
scripts_run_their_events make old [] text new p = record { answers = []; run = record { states = []; trace = tt; ends = sym p.1 }; texts = []; whole = p.0; reported = tt }
scripts_run_their_events make old (a ∷ actions) text new p =
    let rest = scripts_run_their_events make p.0 actions p.2 new p.4 in
    let all = runs_on make (event_of a) a actions old p.0 new p.1 p.2 refl (gives make old a p.1 p.0 p.3) rest in
    subst (λ (l : List ℕ). IsRun make old (a ∷ actions) l new) (sym p.5) all
