-- The runs of which the headline holds: every list of events under EDF, and every script that ran.
use Rattle.std.specs.Prelude.{◌≡◌, ℕ, false, List, take, Result, Err}
use Rattle.cx_script_io.specs.Calls.{DeviceCall, taken}
use Rattle.cx_script_io.specs.Input.{IsReadOf}
use Rattle.cx_script_io.specs.declared.input.Ending.{Ending}
use Rattle.cx_edf.specs.declared.answers.Answer.{Answer}
use Rattle.cx_edf.specs.declared.answers.EdfEvent.{EdfEvent}
use Rattle.cx_edf.specs.State.{EdfState}
use Rattle.cx_edf.specs.Steps.{DisplayMaker}
use Rattle.cx_edf.specs.Runs.{Trace, last_state}
use Rattle.cx_script_actions.specs.Effects.{fresh_state}
use Rattle.cx_script_actions.specs.Language.{edf_language}
use Rattle.cx_script_actions.specs.declared.actions.Action.{Action}
use Rattle.cx_script_blocks.specs.declared.faults.RunFault.{RunFault}
use Rattle.cx_script_blocks.specs.declared.faults.RunFault.TheVariants.{Write}
use Rattle.cx_script_blocks.specs.declared.faults.Summary.{Summary}
use Rattle.cx_script.specs.Script.{Script, script_in}
use Rattle.cx_script.specs.Session.{IsScriptSession}
use Rattle.cx_script.specs.Transcript.{IsFront}
use Rattle.cx_script.specs.Laws.Events.{IsRun, events_of}
use Rattle.cx_script.specs.Laws.Inputs.{was_stopped}

-- the state after the first n events of a run
abbrev pub state_after_first : EdfState → List EdfState → ℕ → EdfState
state_after_first old states n = last_state old (take n states)

-- ---- every list of events
-- Of each list of events under EDF, whatever displays are: of the state before them, the events, their answers, and the
-- state after each.
abbrev pub OfEachRun : (EdfState → List EdfEvent → List Answer → List EdfState → Type 0) → Type 0
OfEachRun Holds =
    (make : DisplayMaker) (old : EdfState) (events : List EdfEvent) (answers : List Answer) (states : List EdfState)
    → Trace make old events answers states → Holds old events answers states

-- ---- every script
-- a text was written, or after a failed write a front of it
abbrev pub WasWritten : Result Summary RunFault → List ℕ → List ℕ → Type 0
WasWritten (Err Write) written text = IsFront written text
WasWritten answer written text = written ≡ text

-- What was done of a script: the first of its actions, and all of them unless memory or the writer stopped the run.
-- Their events are a run under EDF from the fresh region on, where displays are made so, and their texts were written.
pub record IsDoneOf (make : DisplayMaker) (script : Script Action) (answer : Result Summary RunFault)
    (written : List ℕ) : Type 0 where
  pub count : ℕ
  pub actions : List Action
  pub first : actions ≡ take count script.actions
  pub all : was_stopped answer ≡ false → actions ≡ script.actions
  pub text : List ℕ
  pub was_written : WasWritten answer written text
  pub new : EdfState
  pub did : IsRun make fresh_state actions text new

-- Of the run that each script did, however it ended: the premise is what `run_script` ensures of the calls that it
-- made, whatever its devices and displays are.
abbrev pub OfEachScript : (EdfState → List EdfEvent → List Answer → List EdfState → Type 0) → Type 0
OfEachScript Holds =
    (make : DisplayMaker) (calls : List DeviceCall) (answer : Result Summary RunFault)
    (session : IsScriptSession make calls answer) (ending : Ending) (bytes : List ℕ) → IsReadOf calls ending bytes
    → (done : IsDoneOf make (script_in edf_language ending bytes) answer (taken calls))
    × Holds fresh_state (events_of done.actions) done.did.answers done.did.run.states
