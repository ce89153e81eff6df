-- What the reads gave decides the answer.
use Rattle.std.specs.Prelude.{◌≡◌, ℕ, ◌<◌, Bool, true, false, List, length, take, Some, Result, Err}
use Rattle.std.specs.Result.{result_err}
use Rattle.cx_edf.specs.Steps.{DisplayMaker}
use Rattle.cx_script_actions.specs.Language.{edf_language}
use Rattle.cx_script_io.specs.Calls.{DeviceCall, given, taken}
use Rattle.cx_script_io.specs.Input.{IsEnding, IsReadOf, most_bytes}
use Rattle.cx_script.specs.Session.{IsScriptSession}
use Rattle.cx_script.specs.Script.{script_in}
use Rattle.cx_script_blocks.specs.declared.faults.RunFault.{RunFault}
use Rattle.cx_script_blocks.specs.declared.faults.RunFault.TheVariants.{Read, Write, Memory, ReadBound}
use Rattle.cx_script_blocks.specs.declared.faults.Summary.{Summary}
use Rattle.cx_script_io.specs.declared.input.Ending.{Ending}
use Rattle.cx_script_io.specs.declared.input.Ending.TheVariants.{Failed, PastBound}

-- the run was stopped by lack of memory, or by the writer
abbrev pub was_stopped : Result Summary RunFault → Bool
was_stopped (Err Memory) = true
was_stopped (Err Write) = true
was_stopped _ = false

-- Two runs that were not stopped, of which the reads may be of one script, in whatever pieces: they have one answer and
-- one transcript.
abbrev pub InputsDecide : Type 0
InputsDecide = (make : DisplayMaker)
    (ending : Ending) (bytes : List ℕ) (calls others : List DeviceCall) (answer other : Result Summary RunFault)
    → IsScriptSession make calls answer → IsScriptSession make others other
    → IsReadOf calls ending bytes → IsReadOf others ending bytes
    → was_stopped answer ≡ false → was_stopped other ≡ false
    → (answer ≡ other) × (taken calls ≡ taken others)

-- the reads gave more than a script may have, and no fault came before
pub record IsPastBound (calls : List DeviceCall) : Type 0 where
  pub longer : most_bytes < length (given calls)
  pub faultless : (script_in edf_language PastBound (take most_bytes (given calls))).fault ≡ Some ReadBound

-- ReadBound comes only where the reads gave more bytes than a script may have
abbrev pub ReadBoundIsPastTheBound : Type 0
ReadBoundIsPastTheBound = (make : DisplayMaker) (calls : List DeviceCall) → IsScriptSession make calls (Err ReadBound)
    → IsPastBound calls

-- where they gave more, and no fault came before, the answer of a run that wasn't stopped is ReadBound
abbrev pub PastTheBoundIsReadBound : Type 0
PastTheBoundIsReadBound = (make : DisplayMaker) (calls : List DeviceCall) (answer : Result Summary RunFault)
    → IsScriptSession make calls answer → IsPastBound calls → was_stopped answer ≡ false → answer ≡ Err ReadBound

-- Read comes only where a read failed
abbrev pub ReadIsAFailure : Type 0
ReadIsAFailure = (make : DisplayMaker) (calls : List DeviceCall) → IsScriptSession make calls (Err Read)
    → IsEnding calls Failed

-- where a read failed, the answer is the first fault of the lines that were read, or Read where they have none
abbrev pub FailuresAreReported : Type 0
FailuresAreReported = (make : DisplayMaker) (calls : List DeviceCall) (answer : Result Summary RunFault)
    → IsScriptSession make calls answer → IsEnding calls Failed → was_stopped answer ≡ false
    → result_err answer ≡ (script_in edf_language Failed (given calls)).fault
