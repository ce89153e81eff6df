-- A run of steps (own): until the entry is the next address, a step is interrupted, or a limit is reached.
use Rattle.std.specs.Prelude.{◌≡◌, ◌≢◌, ℕ, zero, suc, ◌<◌, ◌≤◌}
use Rattle.cx_exec.specs.declared.machine.Step.TheVariants.{Done, Interrupt}
use Rattle.cx_exec.specs.declared.machine.Halt.{Halt}
use Rattle.cx_exec.specs.declared.machine.Halt.TheVariants as halt
use Rattle.cx_exec.specs.Machine.{Machine}
use Rattle.cx_exec.specs.Step.{Steps, entry}

-- n steps, each of them done; none begins at the entry, and none is interrupted
unfoldable pub Passes : ℕ → Machine → Machine → Type 0
Passes zero m after = after ≡ m
Passes (suc n) m after = (mid : Machine) × Steps m Done mid × Passes n mid after

-- Since a step that is done neither stops nor is interrupted, the number of steps is the least one.
unfoldable pub Advances : ℕ → Machine → Halt → Machine → Type 0
Advances limit m halt.AtEntry after = (n : ℕ) × (n ≤ limit) × Passes n m after × (after.next ≡ entry)
Advances limit m (halt.Interrupt cause place) after =
    (n : ℕ) × (n < limit) × (before : Machine) × Passes n m before × Steps before (Interrupt cause) after
    × (place ≡ after.next)
Advances limit m halt.Limit after = Passes limit m after × (after.next ≢ entry)
