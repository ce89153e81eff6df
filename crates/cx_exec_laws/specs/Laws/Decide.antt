-- What it means that a relation decides its outcome.
use Rattle.std.specs.Prelude.{◌≡◌}
use Rattle.cx_exec.specs.declared.machine.Step.{Step}
use Rattle.cx_exec.specs.declared.machine.Halt.{Halt}
use Rattle.cx_exec.specs.Machine.{Machine}

-- two steps of one machine end alike and leave the same machine
abbrev pub StepsDecide : (Machine → Step → Machine → Type 0) → Type 0
StepsDecide P = (m : Machine) (s t : Step) (a b : Machine) → P m s a → P m t b → (s ≡ t) × (a ≡ b)

-- two runs of one machine end alike and leave the same machine
abbrev pub RunsDecide : (Machine → Halt → Machine → Type 0) → Type 0
RunsDecide P = (m : Machine) (h k : Halt) (a b : Machine) → P m h a → P m k b → (h ≡ k) × (a ≡ b)
