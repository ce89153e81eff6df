-- What a step and a run leave of storage's areas: all of them, as they were. An instruction changes bytes alone.
use Rattle.std.specs.Prelude.{◌≡◌, ℕ}
use Rattle.cx_storage.specs.Storage.{areas_of}
use Rattle.cx_exec.specs.declared.machine.Halt.{Halt}
use Rattle.cx_exec.specs.Machine.{Machine}
use Rattle.cx_exec.specs.Advance.{Advances}

-- the areas after are those before
abbrev pub SameAreas : Machine → Machine → Type 0
SameAreas m after = areas_of after.storage ≡ areas_of m.storage

-- no instruction makes, frees or moves an area
abbrev pub RunsKeepAreas : Type 0
RunsKeepAreas =
    (limit : ℕ) (m : Machine) (end : Halt) (after : Machine) → Advances limit m end after → SameAreas m after
