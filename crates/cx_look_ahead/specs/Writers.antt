-- Which instruction of a run was the last to change a byte of a range (own).
use Rattle.std.specs.Prelude.{◌≡◌, ◌<◌, ◌≤◌, ℕ, zero, suc, Option, Some, None}
use Rattle.cx_storage.specs.Address.{address_after}
use Rattle.cx_storage.specs.Storage.{Storage, byte_at}
use Rattle.cx_exec.specs.Advance.{Passes}
use Rattle.cx_exec.specs.Machine.{Machine}
use Rattle.cx_exec.specs.Step.{Steps}
use Rattle.cx_exec.specs.declared.machine.Step.{Step}
use Rattle.cx_look_ahead.specs.declared.rows.Row.{Row}

-- each byte of a range is the same in both storages, or in neither
abbrev pub IsUnchanged : Storage → Storage → Row → Type 0
IsUnchanged before after range =
    (k : ℕ) → k < range.length → byte_at before (address_after range.at k) ≡ byte_at after (address_after range.at k)

-- the instruction of a run that comes after n others, however it ends
pub record PerformsAfter (n : ℕ) (m before after : Machine) : Type 0 where
  pub passes : Passes n m before
  pub step : Step
  pub steps : Steps before step after

-- from the one after n others on no instruction of a run of at most so many changes one of the bytes
abbrev pub NoneWrites : ℕ → ℕ → Machine → Row → Type 0
NoneWrites n limit m range =
    (k : ℕ) (before after : Machine) → n ≤ k → k < limit → PerformsAfter k m before after
    → IsUnchanged before.storage after.storage range

-- the instruction at an address changes one of them, and none after it does
pub record IsLastWriter (limit : ℕ) (m : Machine) (range : Row) (at : ℕ) : Type 0 where
  pub n : ℕ
  pub within : n < limit
  pub before : Machine
  pub after : Machine
  pub performs : PerformsAfter n m before after
  pub address : at ≡ before.next
  pub writes : IsUnchanged before.storage after.storage range → ⊥
  pub last : NoneWrites (suc n) limit m range

-- None where no instruction does
unfoldable pub LastWriter : ℕ → Machine → Row → Option ℕ → Type 0
LastWriter limit m range None = NoneWrites zero limit m range
LastWriter limit m range (Some at) = IsLastWriter limit m range at
