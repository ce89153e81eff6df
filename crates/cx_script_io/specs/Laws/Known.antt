-- Where the devices' bytes are known, the calls moved them.
use Rattle.std.specs.Prelude.{◌≡◌, ℕ, List, [], Option, Some}
use Rattle.std.specs.List.{FoldsTo}
use Rattle.std.specs.Io.KnownBytes.{Appends, Consumes, IsAtEnd}
use Rattle.cx_script_io.specs.Calls.{DeviceCall, did, given, last_read, taken}

-- the reader lost the bytes that the reads gave, and is at its end where the last one gave none; the writer has those
-- that the writes took besides
pub record MovesKnown (calls : List DeviceCall) (left left_after before after : Option (List ℕ)) : Type 0 where
  pub read : Consumes left left_after (given calls)
  pub ended : last_read calls ≡ Some (Some []) → IsAtEnd left_after
  pub written : Appends before after (taken calls)

-- all calls, one after another, move what is known so
abbrev pub CallsMoveKnown : {D : Type 0} → (D → Option (List ℕ) → D → Type 0) → (D → Option (List ℕ) → D → Type 0)
    → (D → Option (List ℕ)) → (D → Option (List ℕ)) → Type 0
CallsMoveKnown {D} reads writes left written =
    (before after : D) (calls : List DeviceCall) → FoldsTo (did reads writes) before calls after
    → MovesKnown calls (left before) (left after) (written before) (written after)
