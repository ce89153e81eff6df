-- Runs under EDF (own).
use Rattle.std.specs.Prelude.{◌≡◌, ⊤, List, [], ◌∷◌}
use Rattle.cx_region.specs.State.{RegionState}
use Rattle.cx_region.specs.Events.{IsAllowed, MayTakeMemory}
use Rattle.cx_edf.specs.declared.answers.EdfEvent.{EdfEvent}
use Rattle.cx_edf.specs.declared.answers.EdfEvent.TheVariants as edf_event
use Rattle.cx_edf.specs.declared.answers.EdfReply.TheVariants as edf
use Rattle.cx_edf.specs.declared.answers.Answer.{Answer}
use Rattle.cx_edf.specs.declared.answers.Answer.TheVariants as answer
use Rattle.cx_edf.specs.State.{EdfState}
use Rattle.cx_edf.specs.Steps.{EdfApplies, DisplayMaker, Door, Keeps, Passes, door_of}

-- events one after another, with their answers and the state after each, where displays are made so
unfoldable pub Trace : DisplayMaker → EdfState → List EdfEvent → List Answer → List EdfState → Type 0
Trace make old [] [] [] = ⊤
Trace make old (e ∷ events) (given ∷ answers) (new ∷ states) =
    EdfApplies make old e given new × Trace make new events answers states
Trace make old _ _ _ = ⊥

-- the last of the states, or the first one where there are none
unfoldable pub last_state : EdfState → List EdfState → EdfState
last_state old [] = old
last_state old (new ∷ states) = last_state new states

-- A run of events under EDF, where displays are made so: there are states, one after each event, as the rows say.
pub record EdfRun (make : DisplayMaker) (old : EdfState) (events : List EdfEvent) (answers : List Answer)
    (new : EdfState) : Type 0 where
  pub states : List EdfState
  pub trace : Trace make old events answers states
  pub ends : last_state old states ≡ new

-- EDF ON may take memory where it begins a session, and what is passed to the region as the region may.
abbrev pub MayTake : RegionState → Door → Type 0
MayTake region (Keeps (answer.Edf edf.Started) sessions) = ⊤
MayTake region (Keeps own sessions) = ⊥
MayTake region (Passes event own) = MayTakeMemory region event

unfoldable pub MayTakeEdf : EdfState → EdfEvent → Type 0
MayTakeEdf old e = MayTake old.region (door_of old e)

-- what the calls take, of an event
abbrev pub IsAllowedEdf : EdfEvent → Type 0
IsAllowedEdf (edf_event.Plain e) = IsAllowed e
IsAllowedEdf _ = ⊤
