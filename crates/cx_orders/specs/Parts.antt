-- The vocabulary of private functions.
use Rattle.std.specs.Prelude.{◌≡◌, ℕ, Bool, true, if◌then◌else◌, List, Some, slice_get}
use Rattle.cx_region.specs.Sound.{IsSound}
use Rattle.cx_region.specs.State.{TerminalState}
use Rattle.cx_region.specs.declared.replies.KeyReply.{KeyReply}
use Rattle.cx_look_tasks.specs.Activities.{IsActivity}
use Rattle.cx_orders.specs.Moves.{is_taken}
use Rattle.cx_orders.specs.declared.moves.Asked.{Asked}
use Rattle.cx_orders.specs.declared.states.OrdersState.{OrdersState}

-- a key that was pressed has come: one that is typed ahead only where it was taken
abbrev pub has_come : Bool → KeyReply → Bool
has_come typed_ahead reply = if typed_ahead then is_taken reply else true

-- what the terminal with that number is doing, and how many of its keys came
pub record IsAsked (from : OrdersState) (number : ℕ) (asked : Asked) : Type 0 where
  pub same : asked.number ≡ number
  pub sound : IsSound from.region
  pub terminal : TerminalState
  pub at : slice_get from.region.terminals number ≡ Some (asked.name, terminal)
  pub come : slice_get from.come number ≡ Some asked.came
  pub is : IsActivity from.region terminal asked.doing

-- there is no terminal with that number of which it is known how many keys came
abbrev pub IsNowhere : OrdersState → ℕ → Type 0
IsNowhere from number = (came : ℕ) (entry : List ℕ × TerminalState) → slice_get from.come number ≡ Some came
    → slice_get from.region.terminals number ≡ Some entry → ⊥
