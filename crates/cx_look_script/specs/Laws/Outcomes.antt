-- An action of a script with looks has one outcome, and so has a script (own).
use Rattle.std.specs.Prelude.{◌≡◌, ℕ, false, List, Result, take}
use Rattle.std.specs.List.{AllByRecursion, IsDistinct}
use Rattle.std.specs.Map.{keys_of as names_of}
use Rattle.cx_ebcdic.specs.Names.{is_name}
use Rattle.cx_region.specs.State.{RegionState}
use Rattle.cx_edf.specs.Steps.{DisplayMaker}
use Rattle.cx_script_blocks.specs.declared.faults.RunFault.{RunFault}
use Rattle.cx_script_blocks.specs.declared.faults.Summary.{Summary}
use Rattle.cx_script_io.specs.Calls.{DeviceCall, taken}
use Rattle.cx_script_io.specs.Input.{IsReadOf}
use Rattle.cx_script_io.specs.declared.input.Ending.{Ending}
use Rattle.cx_script.specs.Laws.Inputs.{was_stopped}
use Rattle.cx_script.specs.Script.{script_in}
use Rattle.cx_script.specs.Session.{IsSession}
use Rattle.cx_script.specs.Transcript.{PerformsAll}
use Rattle.cx_look_script.specs.Laws.Orders.{HasSpelling}
use Rattle.cx_look_script.specs.Looking.{LookPerforms}
use Rattle.cx_look_script.specs.Reading.{look_language}
use Rattle.cx_look_script.specs.State.{LookState, fresh_look_state}
use Rattle.cx_look_script.specs.declared.action.LookAction.{LookAction}

-- no two terminals of the region share a name
abbrev pub HasApartNames : RegionState → Type 0
HasApartNames region = IsDistinct is_name (names_of region.terminals)

-- where no two terminals share a name, the state and the action determine what is written, and the state afterwards
abbrev pub LookActionsDecide : Type 0
LookActionsDecide = (make : DisplayMaker) (old : LookState) (a : LookAction) (text other : List ℕ)
    (new another : LookState)
    → HasApartNames old.edf.region → LookPerforms make old a text new → LookPerforms make old a other another
    → (text ≡ other) × (new ≡ another)

-- and the state and a list of actions determine the transcript, and the state afterwards
abbrev pub LookTranscriptsDecide : Type 0
LookTranscriptsDecide = (make : DisplayMaker) (old : LookState) (actions : List LookAction) (text other : List ℕ)
    (new another : LookState)
    → HasApartNames old.edf.region → PerformsAll (LookPerforms make) old actions text new
    → PerformsAll (LookPerforms make) old actions other another → (text ≡ other) × (new ≡ another)

-- Two runs of `cicslook` that were not stopped, of which the reads may be of one script, in whatever pieces: they have
-- one answer and one transcript.
abbrev pub LookInputsDecide : Type 0
LookInputsDecide = (make : DisplayMaker)
    (ending : Ending) (bytes : List ℕ) (calls others : List DeviceCall) (answer other : Result Summary RunFault)
    → IsSession look_language (LookPerforms make) fresh_look_state calls answer
    → IsSession look_language (LookPerforms make) fresh_look_state others other
    → IsReadOf calls ending bytes → IsReadOf others ending bytes
    → was_stopped answer ≡ false → was_stopped other ≡ false
    → (answer ≡ other) × (taken calls ≡ taken others)

-- An action has an outcome in a state: something is written for it, and it leads to a state.
pub record HasOutcome (make : DisplayMaker) (old : LookState) (a : LookAction) : Type 0 where
  pub text : List ℕ
  pub new : LookState
  pub performs : LookPerforms make old a text new

-- ---- the states of scripts
-- the first actions of a script, where displays are made so, lead there
pub record IsScriptState (make : DisplayMaker) (state : LookState) : Type 0 where
  pub ending : Ending
  pub bytes : List ℕ
  pub count : ℕ
  pub text : List ℕ
  pub led :
      PerformsAll (LookPerforms make) fresh_look_state (take count (script_in look_language ending bytes).actions) text
      state

-- there each terminal's name has a spelling, and no two are the same
pub record IsNamed (region : RegionState) : Type 0 where
  pub spelled : AllByRecursion HasSpelling (names_of region.terminals)
  pub apart : HasApartNames region

abbrev pub ScriptsNameTheirTerminals : Type 0
ScriptsNameTheirTerminals = (make : DisplayMaker) (state : LookState) → IsScriptState make state
    → IsNamed state.edf.region
