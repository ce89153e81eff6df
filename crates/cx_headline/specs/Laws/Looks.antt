-- A look changes nothing: what was done of each script with looks that ran.
use Rattle.std.specs.Prelude.{◌≡◌, ℕ, false, List, take, Result}
use Rattle.std.specs.List.{flat_map}
use Rattle.cx_edf.specs.Steps.{DisplayMaker}
use Rattle.cx_script_actions.specs.Effects.{fresh_state}
use Rattle.cx_script_io.specs.Calls.{DeviceCall, taken}
use Rattle.cx_script_io.specs.Input.{IsReadOf}
use Rattle.cx_script_io.specs.declared.input.Ending.{Ending}
use Rattle.cx_script_blocks.specs.declared.faults.RunFault.{RunFault}
use Rattle.cx_script_blocks.specs.declared.faults.Summary.{Summary}
use Rattle.cx_script.specs.Script.{Script, script_in}
use Rattle.cx_script.specs.Session.{IsSession}
use Rattle.cx_script.specs.Laws.Events.{IsRun}
use Rattle.cx_script.specs.Laws.Inputs.{was_stopped}
use Rattle.cx_look_script.specs.Laws.Looks.{ChangesNothing, plain_of, written_of}
use Rattle.cx_look_script.specs.Looking.{LookPerforms}
use Rattle.cx_look_script.specs.Reading.{look_language}
use Rattle.cx_look_script.specs.State.{LookState, fresh_look_state}
use Rattle.cx_look_script.specs.declared.action.LookAction.{LookAction}
use Rattle.cx_headline.specs.Laws.Runs.{WasWritten}

-- What was done of a script with looks: the first of its actions, and all of them unless memory or the writer stopped
-- the run. Its text was written. With the looks left out, and each RUN replaced by the turns that it did, these actions
-- are a run of `cicsedf` from the fresh region on to the same state, where displays are made so, and so one of events
-- under EDF.
pub record IsLookedOver (make : DisplayMaker) (script : Script LookAction) (answer : Result Summary RunFault)
    (written : List ℕ) : Type 0 where
  pub count : ℕ
  pub actions : List LookAction
  pub first : actions ≡ take count script.actions
  pub all : was_stopped answer ≡ false → actions ≡ script.actions
  pub text : List ℕ
  pub was_written : WasWritten answer written text
  pub new : LookState
  pub unchanged : ChangesNothing make fresh_look_state actions text new
  pub did : IsRun make fresh_state (flat_map plain_of unchanged.parts) (flat_map written_of unchanged.parts) new.edf

-- in each script that ran looks change nothing: the premise is what `run_script_on` ensures of `cicslook`'s performer
abbrev pub ScriptsAreLookedOver : Type 0
ScriptsAreLookedOver = (make : DisplayMaker) (calls : List DeviceCall) (answer : Result Summary RunFault)
    (session : IsSession look_language (LookPerforms make) fresh_look_state calls answer)
    (ending : Ending) (bytes : List ℕ) → IsReadOf calls ending bytes
    → IsLookedOver make (script_in look_language ending bytes) answer (taken calls)
