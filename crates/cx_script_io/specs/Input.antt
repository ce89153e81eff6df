-- What is read of a script (own).
use Rattle.std.specs.Prelude.{◌≡◌, ℕ, ◌<◌, ◌++◌, Bool, true, false, List, [], length, take, Some, None}
use Rattle.cx_script_io.specs.Calls.{DeviceCall, given, last_read}
use Rattle.cx_script_io.specs.declared.input.Ending.{Ending}
use Rattle.cx_script_io.specs.declared.input.Ending.TheVariants.{AtEnd, Failed, PastBound}

-- the most bytes that a script may have
unfoldable pub most_bytes : ℕ
most_bytes = 16777216

-- whether a read failed
abbrev pub is_failure : Ending → Bool
is_failure Failed = true
is_failure _ = false

-- why no more of a script is read after these calls: the last read gave no byte or failed, or they gave more than a
-- script may have
abbrev pub IsEnding : List DeviceCall → Ending → Type 0
IsEnding calls AtEnd = last_read calls ≡ Some (Some [])
IsEnding calls Failed = last_read calls ≡ Some None
IsEnding calls PastBound = most_bytes < length (given calls)

-- These bytes, of which no more can be had for this reason, may be the script: it begins with those that the reads
-- gave, at most as many as a script may have, and ends with them where the reads say why.
pub record IsReadOf (calls : List DeviceCall) (ending : Ending) (bytes : List ℕ) : Type 0 where
  pub rest : List ℕ
  pub whole : bytes ≡ take most_bytes (given calls) ++ rest
  pub ended : (why : Ending) → IsEnding calls why → (ending ≡ why) × (rest ≡ [])
