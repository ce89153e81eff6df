-- What always holds of the region is kept under EDF, and what comes after an event that was refused memory.
use Rattle.std.proofs.Common.{◌≡◌, List, [], ◌∷◌, ◌++◌, Some, None, refl, sym, ◌∙◌, subst}
use Rattle.std.specs.Prelude.{⊤, Result, Ok, Err, IfOk, drop, take}
use Rattle.std.specs.declared.alloc.AllocError.{AllocError}
use Rattle.std.proofs.lemmas.List.{take-append-drop}
use Rattle.cx_region.specs.Events.{IsAllowed, IsDone}
use Rattle.cx_region.specs.Sound.{IsSound}
use Rattle.cx_region.specs.declared.replies.Event.{Event}
use Rattle.cx_region_laws.specs.Laws.Sound.{ArePartsSound, IsChecked, SoundIsKept}
use Rattle.cx_edf.specs.declared.answers.EdfEvent.{EdfEvent}
use Rattle.cx_edf.specs.declared.answers.Answer.{Answer}
use Rattle.cx_edf.specs.State.{EdfState}
use Rattle.cx_edf.specs.Steps.{DisplayMaker, DoorAnswers, Door, EdfApplies, Keeps, Passes, door_of}
use Rattle.cx_edf.specs.Runs.{EdfRun, IsAllowedEdf, MayTakeEdf, Trace, last_state}
use Rattle.cx_edf.specs.Laws.Edf.{EdfEventsDecide}
use Rattle.cx_edf.specs.Laws.Memory.{EdfSoundIsKept, IsCheckedEdf, RefusedEdfEventsAreNone, StoppedEdfRunsGoOn}
use Rattle.cx_edf.proofs.DoorLemmas.{Fits, fits}

-- ---- soundness
-- what is passed is allowed, and its image checked, where the event's are
pub Allows : Door → Type 0
Allows (Keeps own sessions) = ⊤
Allows (Passes x own) = IsAllowed x × IsChecked x

allows : (old : EdfState) (e : EdfEvent) (door : Door) → Fits old e door → IsAllowedEdf e → IsCheckedEdf e → Allows door
unfolding Fits Allows
allows old e (Keeps own sessions) fit allowed checked = tt
allows old e (Passes x None) fit allowed checked =
    (subst IsAllowedEdf fit.0 allowed, subst IsCheckedEdf fit.0 checked)
allows old e (Passes x (Some own)) fit allowed checked =
    subst (λ (y : Event). IsAllowed y × IsChecked y) (sym fit.1.abend) (tt, tt)

kept_by : SoundIsKept → (make : DisplayMaker) (old new : EdfState) (door : Door) (given : Answer) → IsSound old.region → Allows door → ArePartsSound new.region → DoorAnswers make old door given new → IsSound new.region
unfolding Allows
kept_by law make old new (Keeps own sessions) given ok allowed parts h = subst (λ (s : EdfState). IsSound s.region) (sym h.1) ok
kept_by law make old new (Passes x own) given ok allowed parts h = law old.region new.region x h.reply ok allowed.0 allowed.1 h.applies parts

pub sound_is_kept : SoundIsKept → EdfSoundIsKept
unfolding EdfApplies
sound_is_kept law make old new e given ok allowed checked h parts =
    kept_by law make old new (door_of old e) given ok (allows old e (door_of old e) (fits old e) allowed checked) parts h

-- ---- one event
same_answer : EdfEventsDecide → (make : DisplayMaker) (old new after : EdfState) (e : EdfEvent) (result : Result Answer AllocError) (other : Answer) → IfOk result (λ given. EdfApplies make old e given new)
    → EdfApplies make old e other after → IfOk result (λ given. (given ≡ other) × (new ≡ after))
same_answer decide make old new after e (Ok given) other h k = decide make old e given other new after h k
same_answer decide make old new after e (Err fault) other h k = tt

pub refused_events_are_none : EdfEventsDecide → RefusedEdfEventsAreNone
refused_events_are_none decide make old mid new refused next fault result first second =
    let done : IsDone (EdfApplies make) MayTakeEdf old next result new = subst (λ (s : EdfState). IsDone (EdfApplies make) MayTakeEdf s next result new) first.err second in
    record { done = done; answer = λ other after h. same_answer decide make old new after next result other done.applies h }

-- ---- runs
traces_join : (make : DisplayMaker) (old : EdfState) (events more : List EdfEvent) (answers others : List Answer) (states after : List EdfState) → Trace make old events answers states → Trace make (last_state old states) more others after
    → Trace make old (events ++ more) (answers ++ others) (states ++ after)
unfolding Trace last_state
traces_join make old [] more [] others [] after first second = second
traces_join make old [] more [] others (s ∷ ss) after first second = absurd first
traces_join make old [] more (a ∷ gs) others ss after first second = absurd first
traces_join make old (e ∷ es) more [] others ss after first second = absurd first
traces_join make old (e ∷ es) more (a ∷ gs) others [] after first second = absurd first
traces_join make old (e ∷ es) more (a ∷ gs) others (s ∷ ss) after first second = (first.0, traces_join make s es more gs others ss after first.1 second)

last_join : (old : EdfState) (states after : List EdfState) → last_state old (states ++ after) ≡ last_state (last_state old states) after
unfolding last_state
last_join old [] after = refl
last_join old (s ∷ ss) after = last_join s ss after

runs_join : (make : DisplayMaker) (old mid new : EdfState) (events more : List EdfEvent) (answers others : List Answer) → EdfRun make old events answers mid → EdfRun make mid more others new → EdfRun make old (events ++ more) (answers ++ others) new
runs_join make old mid new events more answers others first second =
    record {
      states = first.states ++ second.states;
      trace = traces_join make old events more answers others first.states second.states first.trace
          (subst (λ (s : EdfState). Trace make s more others second.states) (sym first.ends) second.trace);
      ends = last_join old first.states second.states ∙ subst (λ (s : EdfState). last_state s second.states ≡ new) (sym first.ends) second.ends;
    }

pub stopped_runs_go_on : StoppedEdfRunsGoOn
stopped_runs_go_on make old mid new events done others stopped rest =
    subst (λ (es : List EdfEvent). EdfRun make old es (stopped.replies ++ others) new) (take-append-drop done events)
    (runs_join make old mid new (take done events) (drop done events) stopped.replies others stopped.run rest)
