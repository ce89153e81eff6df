-- What follows of the report of every order.
use Rattle.std.specs.Prelude.{◌≡◌, ℕ, List, Option, Some, None, length, slice_get}
use Rattle.std.specs.List.{IsDistinct}
use Rattle.std.specs.Map.{keys_of as names_of}
use Rattle.cx_ebcdic.specs.Names.{is_name}
use Rattle.cx_search.specs.Forever.{IsLong}
use Rattle.cx_look_lines.specs.Words.{Lines}
use Rattle.cx_region.specs.State.{RegionState}
use Rattle.cx_orders.specs.Moves.{Moves}
use Rattle.cx_orders.specs.declared.states.Keys.{Keys}
use Rattle.cx_orders.specs.declared.states.OrdersState.{OrdersState}
use Rattle.cx_look_orders.specs.Outcomes.{AreOutcomes, MayLoop}
use Rattle.cx_look_orders.specs.Report.{OrdersText}
use Rattle.cx_look_orders.specs.declared.outcomes.Outcome.{Outcome}
use Rattle.cx_look_steps.specs.Steps.{Telling}
use Rattle.cx_look_steps.specs.declared.steps.Step.{Step}

-- of a region in which no two terminals have one name one text is written
abbrev pub ReportsDecide : (RegionState → Lines → Type 0) → Telling → Keys → Type 0
ReportsDecide Shows tells keys = (region : RegionState) (edf : List (List ℕ)) (most : ℕ) (one other : Lines)
    → IsDistinct is_name (names_of region.terminals) → OrdersText Shows tells keys region edf most one
    → OrdersText Shows tells keys region edf most other → one ≡ other

-- no text stands twice among outcomes
abbrev pub TextsStandOnce : (RegionState → Lines → Type 0) → Telling → Keys → Type 0
TextsStandOnce Shows tells keys = (start : OrdersState) (cut : Option ℕ) (outcomes : List Outcome)
    → AreOutcomes Shows tells keys start cut outcomes → (j k : ℕ) (one other : Outcome)
    → slice_get outcomes j ≡ Some one → slice_get outcomes k ≡ Some other → one.text ≡ other.text → j ≡ k

-- the list that is written of moves without an end stands there exactly where there are lists of any length
pub record LoopsAreEndless (tells : Telling) (keys : Keys) : Type 0 where
  pub endless : (start : OrdersState) (steps : List Step) → MayLoop tells keys start (Some steps) → (least : ℕ)
      → IsLong (Moves keys) start least
  pub bounded : (start : OrdersState) → MayLoop tells keys start None
      → ((least : ℕ) → IsLong (Moves keys) start least) → ⊥
