-- The state of a region: all that its events can change. The manual's words are those of the Application Programmer's
-- Reference Manual (Command Level), SC33-0077; the limits and the layout in storage are this product's own.
use Rattle.std.specs.Prelude.{ℕ, List, Option}
use Rattle.cx_region_state.specs.State.{SharedState, TerminalEntryState, TaskState}

-- a terminal, with its task where it has one
pub record TerminalState : Type 0 where
  pub entry : TerminalEntryState
  pub task : Option TaskState

-- A region. The time is hhmmss and the date yyddd, for the tasks attached later; the counter is the last task's number.
pub record RegionState : Type 0 where
  pub shared : SharedState
  pub time : ℕ
  pub date : ℕ
  pub transactions : List (List ℕ × List ℕ)
  pub terminals : List (List ℕ × TerminalState)
  pub counter : ℕ
