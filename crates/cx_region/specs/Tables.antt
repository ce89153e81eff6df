-- What is found in a region by name (this product's own).
use Rattle.std.specs.Prelude.{ℕ, List, Option, None}
use Rattle.std.specs.Option.{option_and_then}
use Rattle.std.specs.Map.{lookup, set_value}
use Rattle.cx_load.specs.declared.program.Loaded.{Loaded}
use Rattle.cx_region_state.specs.State.{TaskState, fresh_terminal_entry}
use Rattle.cx_region.specs.State.{RegionState, TerminalState}
use Rattle.cx_ebcdic.specs.Names.{is_name}

-- a new terminal: a blank screen, and nothing else
abbrev pub fresh_terminal : ℕ → TerminalState
fresh_terminal slot = record { entry = fresh_terminal_entry slot; task = None }

-- where the program of a name is
abbrev pub program_of : RegionState → List ℕ → Option Loaded
program_of region name = lookup (is_name name) region.shared.programs

-- the program's name of a transaction
abbrev pub transaction_of : RegionState → List ℕ → Option (List ℕ)
transaction_of region tran = lookup (is_name tran) region.transactions

-- the terminal of a name
abbrev pub terminal_of : RegionState → List ℕ → Option TerminalState
terminal_of region name = lookup (is_name name) region.terminals

-- the task of a terminal
abbrev pub task_of : RegionState → List ℕ → Option TaskState
task_of region name = option_and_then (λ terminal. terminal.task) (terminal_of region name)

-- the region with a new terminal under the name
abbrev pub with_terminal : RegionState → List ℕ → TerminalState → RegionState
with_terminal region name terminal = record region { terminals = set_value (is_name name) region.terminals terminal }
