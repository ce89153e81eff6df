-- A run of a script, by what its devices did (own).
use Rattle.std.specs.Prelude.{◌≡◌, ◌++◌, ◌∷◌, ℕ, List, Option, Result, Err}
use Rattle.std.specs.List.{FoldsTo}
use Rattle.cx_edf.specs.Steps.{DisplayMaker}
use Rattle.cx_script_actions.specs.Effects.{Performs, fresh_state}
use Rattle.cx_script_actions.specs.Language.{Language, edf_language}
use Rattle.cx_script_blocks.specs.declared.faults.RunFault.{RunFault}
use Rattle.cx_script_blocks.specs.declared.faults.RunFault.TheVariants.{Read}
use Rattle.cx_script_blocks.specs.declared.faults.Summary.{Summary}
use Rattle.cx_script_io.specs.Calls.{DeviceCall, Reading, did, given, taken}
use Rattle.cx_script_io.specs.Input.{IsEnding, IsReadOf}
use Rattle.cx_script_io.specs.declared.input.Ending.{Ending}
use Rattle.cx_script_io.specs.declared.input.Ending.TheVariants.{Failed}
use Rattle.cx_script.specs.Transcript.{EndsScript}

-- These calls are a run of a script of a language from some state on, over actions that do what `performs` says, with
-- its answer.
pub record IsSession {A H S : Type 0} (language : Language A H) (performs : S → A → List ℕ → S → Type 0) (start : S)
    (calls : List DeviceCall) (answer : Result Summary RunFault) : Type 0 where
  -- whichever script the reads may be of, the run ended as that script says, and the writes took what is written of it
  pub ends : (ending : Ending) (bytes : List ℕ) → IsReadOf calls ending bytes
      → EndsScript language performs start ending bytes answer (taken calls)
  -- before each read there was no reason to read no more, and the lines complete until then were done and their texts
  -- written
  pub in_time : (before after : List DeviceCall) (bytes : Option (List ℕ)) → calls ≡ before ++ Reading bytes ∷ after
      → ((why : Ending) → IsEnding before why → ⊥)
      × EndsScript language performs start Failed (given before) (Err Read) (taken before)

-- A run took devices from one state to another: what their calls did, one after another, is such a session.
pub record RanIn {A H S D : Type 0} (language : Language A H) (performs : S → A → List ℕ → S → Type 0) (start : S)
    (reads writes : D → Option (List ℕ) → D → Type 0)
    (before : D) (answer : Result Summary RunFault) (after : D) : Type 0 where
  pub calls : List DeviceCall
  pub made : FoldsTo (did reads writes) before calls after
  pub session : IsSession language performs start calls answer

-- a session of `cicsedf`, where displays are made so, from a fresh region on
abbrev pub IsScriptSession : DisplayMaker → List DeviceCall → Result Summary RunFault → Type 0
IsScriptSession make = IsSession edf_language (Performs make) fresh_state
