-- Scripts that are done whole.
use Rattle.std.specs.Prelude.{◌≡◌, ℕ, ◌≤◌, List, None, length, Ok}
use Rattle.std.specs.Str.Lines.{lines}
use Rattle.cx_script_io.specs.Calls.{DeviceCall, given, taken}
use Rattle.cx_script_io.specs.Input.{IsEnding, most_bytes}
use Rattle.cx_script.specs.Session.{IsScriptSession}
use Rattle.cx_script.specs.Script.{script_in}
use Rattle.cx_script_blocks.specs.declared.faults.Summary.{Summary}
use Rattle.cx_script.specs.Transcript.{Wrote}
use Rattle.cx_edf.specs.Steps.{DisplayMaker}
use Rattle.cx_script_actions.specs.Language.{edf_language}
use Rattle.cx_script_actions.specs.Effects.{Performs, fresh_state}
use Rattle.cx_script_io.specs.declared.input.Ending.TheVariants.{AtEnd}

-- the script is not too long, has no fault and `counted` lines, and its transcript, where displays are made so, was
-- written
pub record IsTranscribed (make : DisplayMaker) (input : List ℕ) (counted : ℕ) (written : List ℕ) : Type 0 where
  pub within : length input ≤ most_bytes
  pub faultless : (script_in edf_language AtEnd input).fault ≡ None
  pub count : counted ≡ length (lines input)
  pub transcript : Wrote (◌≡◌ written) (Performs make) fresh_state (script_in edf_language AtEnd input).actions

-- an Ok is the end of a whole script, whose transcript was written
abbrev pub OkIsTheWholeScript : Type 0
OkIsTheWholeScript = (make : DisplayMaker) (calls : List DeviceCall) (summary : Summary)
    → IsScriptSession make calls (Ok summary)
    → IsEnding calls AtEnd × IsTranscribed make (given calls) summary.lines (taken calls)
