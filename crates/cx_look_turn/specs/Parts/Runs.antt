-- The instructions so far.
use Rattle.std.specs.Prelude.{◌≡◌, ℕ, ◌+◌, ◌-◌, List, [], ◌∷◌, ◌++◌, length}
use Rattle.circular_buffer.specs.Buffer.{Buffer, buffer, keep_last}
use Rattle.cx_exec.specs.Machine.{Machine}
use Rattle.cx_exec.specs.declared.machine.Step.{Step}
use Rattle.cx_exec.specs.declared.machine.Step.TheVariants.{AtEntry}
use Rattle.cx_look_turn.specs.Traces.{Visits}
use Rattle.cx_look_turn.specs.declared.traces.Visit.{Visit}

-- how many there are after a step, and the last of them
abbrev pub count_after : Step → ℕ → ℕ
count_after AtEntry count = count
count_after _ count = count + 1

abbrev pub last_after : Step → Visit → Buffer Visit → Buffer Visit
last_after AtEntry one last = last
last_after _ one last = buffer (keep_last last.capacity (last.items ++ one ∷ [])) last.capacity

-- so many steps were done up to a machine: those of its run from there on follow
pub record Begins (limit : ℕ) (first now : Machine) (most count : ℕ) (last : List Visit) : Type 0 where
  pub visits : List Visit
  pub goes_on : (more : List Visit) → Visits (limit - count) now more → Visits limit first (visits ++ more)
  pub counted : count ≡ length visits
  pub kept : last ≡ keep_last most visits
