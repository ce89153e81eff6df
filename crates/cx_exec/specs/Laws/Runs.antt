-- Runs join: a run after steps that were done is one run with them.
use Rattle.std.specs.Prelude.{ℕ, ◌+◌}
use Rattle.cx_exec.specs.declared.machine.Halt.{Halt}
use Rattle.cx_exec.specs.Machine.{Machine}
use Rattle.cx_exec.specs.Advance.{Passes, Advances}

-- n steps and then a run of at most k steps are a run of at most n + k steps, with the same end
abbrev pub RunsJoin : Type 0
RunsJoin =
    (n k : ℕ) (m mid after : Machine) (end : Halt) → Passes n m mid → Advances k mid end after
    → Advances (n + k) m end after

-- n steps and then k steps are n + k steps
abbrev pub StepsJoin : Type 0
StepsJoin = (n k : ℕ) (m mid after : Machine) → Passes n m mid → Passes k mid after → Passes (n + k) m after
