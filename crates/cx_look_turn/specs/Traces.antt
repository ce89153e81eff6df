-- The instructions that a run comes to, one after another (own).
use Rattle.std.specs.Prelude.{◌≡◌, ℕ, ◌<◌, zero, suc, List, [], ◌∷◌, length}
use Rattle.circular_buffer.specs.Buffer.{keep_last}
use Rattle.cx_exec.specs.Advance.{Advances, Passes}
use Rattle.cx_exec.specs.Fetch.{code_bytes}
use Rattle.cx_exec.specs.Machine.{Machine}
use Rattle.cx_exec.specs.Step.{Steps}
use Rattle.cx_exec.specs.declared.machine.Halt.{Halt}
use Rattle.cx_exec.specs.declared.machine.Step.{Step}
use Rattle.cx_exec.specs.declared.machine.Step.TheVariants.{Done, AtEntry, Interrupt}
use Rattle.cx_look_turn.specs.declared.traces.Visit.{Visit}

-- the instruction at a machine's next address, with its bytes, where they are in storage
abbrev pub visit : Machine → Visit
visit m = record { at = m.next; code = code_bytes m.storage m.next }

-- those from one step on: after one that is done the run goes on, and one that is interrupted is the last
abbrev pub Follows : Visit → Step → (List Visit → Type 0) → List Visit → Type 0
Follows one Done GoesOn visits = (more : List Visit) × (visits ≡ one ∷ more) × GoesOn more
Follows one (Interrupt cause) GoesOn visits = visits ≡ one ∷ []
Follows one AtEntry GoesOn visits = visits ≡ []

-- those of a run of at most n steps
unfoldable pub Visits : ℕ → Machine → List Visit → Type 0
Visits zero m visits = visits ≡ []
Visits (suc n) m visits =
    (step : Step) × (after : Machine) × Steps m step after × Follows (visit m) step (Visits n after) visits

-- how many they are, and the last of them, at most so many
pub record IsTrace (limit : ℕ) (m : Machine) (most count : ℕ) (last : List Visit) : Type 0 where
  pub visits : List Visit
  pub are : Visits limit m visits
  pub counted : count ≡ length visits
  pub kept : last ≡ keep_last most visits

-- what the run leaves
pub record Leaves (limit : ℕ) (m after : Machine) : Type 0 where
  pub how : Halt
  pub advances : Advances limit m how after

-- more instructions come than so many
pub record ComesPast (m : Machine) (n : ℕ) : Type 0 where
  pub limit : ℕ
  pub visits : List Visit
  pub are : Visits limit m visits
  pub longer : n < length visits

-- fewer than so many instructions are done before the entry comes, or one is interrupted
abbrev pub PassesFewer : ℕ → Machine → Type 0
PassesFewer n m = (after : Machine) → Passes n m after → ⊥
