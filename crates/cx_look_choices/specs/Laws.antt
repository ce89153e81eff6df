-- What follows of the report of every list of keys.
use Rattle.std.specs.Prelude.{◌≡◌, ℕ, false, List, Option, Some, None, slice_get}
use Rattle.std.specs.List.{IsDistinct}
use Rattle.std.specs.Map.{keys_of as names_of}
use Rattle.cx_ebcdic.specs.Names.{is_name}
use Rattle.cx_look_lines.specs.Words.{Lines}
use Rattle.cx_region.specs.State.{RegionState}
use Rattle.cx_orders.specs.Moves as orders
use Rattle.cx_orders.specs.declared.states.KeyLine.{KeyLine}
use Rattle.cx_choices.specs.Moves.{Goes, begun}
use Rattle.cx_choices.specs.declared.states.ChoicesState.{ChoicesState}
use Rattle.cx_search.specs.Moves.{Leads}
use Rattle.cx_look_steps.specs.Laws.{IsRunOf}
use Rattle.cx_look_choices.specs.Presses.{ArePresses, keys_pressed, moves_of, steps_of}
use Rattle.cx_look_choices.specs.Report.{ChoicesText}
use Rattle.cx_look_choices.specs.Rows.{AreRows}
use Rattle.cx_look_choices.specs.States.{StateText}
use Rattle.cx_look_choices.specs.declared.presses.Press.{Press}
use Rattle.cx_look_choices.specs.declared.rows.StateRow.{StateRow}

-- of a region one text is written
abbrev pub ReportsDecide : (RegionState → Lines → Type 0) → Type 0
ReportsDecide Shows = (choices : List KeyLine) (one_number : Option ℕ) (region : RegionState) (edf : List (List ℕ))
    (keys most : ℕ) (one other : Lines) → ChoicesText Shows choices one_number region edf keys most one
    → ChoicesText Shows choices one_number region edf keys most other → one ≡ other

-- presses are moves
abbrev pub PressesLead : Type 0
PressesLead = (choices : List KeyLine) (one_number : Option ℕ) (from to : ChoicesState) (presses : List Press)
    → ArePresses choices one_number from presses to → Leads (Goes choices one_number) from (moves_of presses) to

-- where presses lead, without one number, in a region in which no two terminals have one name, the run of their keys
-- and turns leads the region, as steps of ORDERS
abbrev pub PressesAreRuns : Type 0
PressesAreRuns = (choices : List KeyLine) (region : RegionState) (to : ChoicesState) (presses : List Press)
    → IsDistinct is_name (names_of region.terminals) → ArePresses choices None (begun region) presses to
    → IsRunOf (keys_pressed choices presses) (orders.begun region) (steps_of region choices presses)
    (orders.begun to.region)

-- the keys and turns of a row's list lead the region, whose numbers of tasks count on, to a state of the text that is
-- written of the row
pub record ListLeads (Shows : RegionState → Lines → Type 0) (choices : List KeyLine) (region : RegionState)
    (texts : List Lines) (row : StateRow) : Type 0 where
  pub real : ChoicesState
  pub run : IsRunOf (keys_pressed choices row.presses) (orders.begun region) (steps_of region choices row.presses)
      (orders.begun real.region)
  pub text : Lines
  pub shows : StateText Shows real text
  pub is : slice_get texts row.screen ≡ Some text

-- so it is of each row whose list is written, with one number or without
abbrev pub ListsLead : (RegionState → Lines → Type 0) → Type 0
ListsLead Shows = (choices : List KeyLine) (one_number : Option ℕ) (region : RegionState) (keys : ℕ)
    (texts : List Lines) (rows : List StateRow) → IsDistinct is_name (names_of region.terminals)
    → AreRows Shows choices one_number region keys texts rows → (place : ℕ) (row : StateRow)
    → slice_get rows place ≡ Some row → row.list_differs ≡ false → ListLeads Shows choices region texts row
