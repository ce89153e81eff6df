-- Runs over devices whose bytes are known.
use Rattle.std.specs.Prelude.{◌≡◌, ℕ, false, nat_lt, if◌then◌else◌, List, length, take, Option, Some, Result}
use Rattle.std.specs.List.{FoldsTo}
use Rattle.cx_edf.specs.Steps.{DisplayMaker}
use Rattle.cx_script_actions.specs.Language.{Language}
use Rattle.cx_script_io.specs.Calls.{DeviceCall, did, taken}
use Rattle.cx_script_io.specs.Input.{IsEnding, IsReadOf, most_bytes}
use Rattle.cx_script_blocks.specs.Faults.{is_read}
use Rattle.cx_script_blocks.specs.declared.faults.RunFault.{RunFault}
use Rattle.cx_script_blocks.specs.declared.faults.Summary.{Summary}
use Rattle.cx_script_io.specs.declared.input.Ending.{Ending}
use Rattle.cx_script_io.specs.declared.input.Ending.TheVariants.{AtEnd, Failed, PastBound}
use Rattle.cx_script.specs.Session.{IsScriptSession, IsSession}
use Rattle.cx_script.specs.Laws.Inputs.{was_stopped}

-- these calls were made of devices whose reader had these bytes before
pub record AreCallsOver {D : Type 0} (reads writes : D → Option (List ℕ) → D → Type 0) (left : D → Option (List ℕ))
    (bytes : List ℕ) (calls : List DeviceCall) : Type 0 where
  pub before : D
  pub after : D
  pub made : FoldsTo (did reads writes) before calls after
  pub had : left before ≡ Some bytes

-- why no more of these bytes is read, where no read fails: they end, or are more than a script may have
abbrev pub ending_of : List ℕ → Ending
ending_of bytes = if nat_lt most_bytes (length bytes) then PastBound else AtEnd

-- A run over these bytes, where no read failed: the pieces that the reads gave are those of a script, which is these
-- bytes, or as many of the first as a script may have.
abbrev pub KnownBytesAreRead : {A H S : Type 0} → Language A H → (S → A → List ℕ → S → Type 0)
    → (List ℕ → List DeviceCall → Type 0) → Type 0
KnownBytesAreRead {A} {H} {S} language performs AreOver =
    (start : S) (calls : List DeviceCall) (answer : Result Summary RunFault) (bytes : List ℕ)
    → IsSession language performs start calls answer → AreOver bytes calls → (IsEnding calls Failed → ⊥)
    → IsReadOf calls (ending_of bytes) (take most_bytes bytes)

-- Two runs over the same bytes, with displays made so, that were not stopped, and whose answer isn't Read: they have
-- one answer and one transcript.
abbrev pub KnownBytesDecide : DisplayMaker → (List ℕ → List DeviceCall → Type 0)
    → (List ℕ → List DeviceCall → Type 0) → Type 0
KnownBytesDecide make AreOver AreOverToo =
    (calls others : List DeviceCall) (answer other : Result Summary RunFault) (bytes : List ℕ)
    → IsScriptSession make calls answer → IsScriptSession make others other
    → AreOver bytes calls → AreOverToo bytes others
    → was_stopped answer ≡ false → was_stopped other ≡ false → is_read answer ≡ false → is_read other ≡ false
    → (answer ≡ other) × (taken calls ≡ taken others)
