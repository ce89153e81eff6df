-- What any list of keys can do is what CHOICES writes of it.
use Rattle.std.specs.Prelude.{◌≡◌, ◌↔◌, ℕ, ◌+◌, ◌≤◌, List, [], ◌∷◌, ◌++◌, Option, Some, None, IsTrue, length, map, slice_get, Bool}
use Rattle.std.specs.List.{IsDistinct}
use Rattle.std.specs.Map.{keys_of as names_of}
use Rattle.cx_ebcdic.specs.Names.{is_name}
use Rattle.cx_search.specs.Moves.{Leads}
use Rattle.cx_search.specs.Within.{IsNear}
use Rattle.cx_region.specs.State.{RegionState}
use Rattle.cx_edf.specs.Steps.{DisplayMaker}
use Rattle.cx_edf.specs.declared.answers.EdfEvent.TheVariants as event
use Rattle.cx_edf.specs.Laws.Edf.{AreAnsweredOff}
use Rattle.cx_orders.specs.Moves as orders
use Rattle.cx_orders.specs.declared.states.KeyLine.{KeyLine}
use Rattle.cx_choices.specs.Moves.{Goes, begun}
use Rattle.cx_choices.specs.declared.states.ChoicesState.{ChoicesState}
use Rattle.cx_look_lines.specs.Words.{Lines}
use Rattle.cx_look_steps.specs.Laws.{AskFor, IsRunOf}
use Rattle.cx_look_steps.specs.Steps.{NoLater}
use Rattle.cx_look_steps.specs.Script.{steps_lines}
use Rattle.cx_look_choices.specs.Presses.{ArePresses, keys_pressed, list_lines, moves_of, steps_of}
use Rattle.cx_look_choices.specs.Report.{CutText, HasMany, WholeText}
use Rattle.cx_look_choices.specs.Rows.{AreArrows, IsOneOf, IsPlace}
use Rattle.cx_look_choices.specs.States.{StateText}
use Rattle.cx_look_choices.specs.declared.presses.Press.{Press}
use Rattle.cx_look_choices.specs.declared.rows.Arrow.{Arrow}
use Rattle.cx_look_choices.specs.declared.rows.StateRow.{StateRow}
use Rattle.cx_look.specs.Choices.{choices_block}
use Rattle.cx_look.specs.declared.choices.ChoicesAsked.{ChoicesAsked}
use Rattle.cx_look.specs.declared.choices.ChoicesBlock.{ChoicesBlock}
use Rattle.cx_look_script.specs.Choices.{number_of}
use Rattle.cx_look_script.specs.Laws.Orders.{LeadThere}
use Rattle.cx_look_script.specs.Laws.Outcomes.{IsScriptState}
use Rattle.cx_look_script.specs.Looking.{AreLookLines, ShowsChoices, at_region}
use Rattle.cx_look_script.specs.Orders.{AreSeen, names_with_edf, sights_of}
use Rattle.cx_look_script.specs.State.{LookState}

-- As steps of ORDERS the presses are a run of their keys and turns that leads the region there, each turn one of a
-- move. With EDF Off everywhere `cicsedf` answers these events so, and they lead it to that very region.
pub record AreRunThere (choices : List KeyLine) (region : RegionState) (presses : List Press) (to : RegionState)
    : Type 0 where
  pub run : IsRunOf (keys_pressed choices presses) (orders.begun region) (steps_of region choices presses)
      (orders.begun to)
  pub off : (make : DisplayMaker) → AreAnsweredOff make region run.events run.replies to

-- Presses are real. They are moves that lead from the region to the state; without one number, where no two terminals
-- share a name, their keys and turns lead it to that very state.
pub record AreReal (choices : List KeyLine) (one_number : Option ℕ) (region : RegionState) (presses : List Press)
    (state : ChoicesState) : Type 0 where
  pub are : ArePresses choices one_number (begun region) presses state
  pub leads : Leads (Goes choices one_number) (begun region) (moves_of presses) state
  pub run : one_number ≡ None → IsDistinct is_name (names_of region.terminals)
      → AreRunThere choices region presses state.region

-- So is an arrow from the state that presses lead to: its key, pressed after them, leads to the state at its place, or,
-- where it goes to MORE, to none of those that are written.
pub record IsRealArrow (choices : List KeyLine) (one_number : Option ℕ) (region : RegionState)
    (states : List ChoicesState) (presses : List Press) (arrow : Arrow) : Type 0 where
  pub press : Press
  pub is : press.choice ≡ arrow.choice
  pub to : ChoicesState
  pub real : AreReal choices one_number region (presses ++ press ∷ []) to
  pub there : IsPlace states to arrow.to

-- And so is a state: the presses that are written of it lead there, and what is seen there is its text. No list of keys
-- that leads there is sooner, and the lines that are written of this one ask for its keys and turns, one after another.
-- Each key that can be pressed there has its arrow, no other key has one, and each arrow is real.
pub record IsRealState (Shows : RegionState → Lines → Type 0) (choices : List KeyLine) (one_number : Option ℕ)
    (region : RegionState) (states : List ChoicesState) (texts : List Lines) (state : ChoicesState) (row : StateRow)
    : Type 0 where
  pub real : AreReal choices one_number region row.presses state
  pub soonest : (moves : List ℕ) → Leads (Goes choices one_number) (begun region) moves state
      → NoLater (moves_of row.presses) moves
  pub text : Lines
  pub shows : StateText Shows state text
  pub screen : slice_get texts row.screen ≡ Some text
  pub script : AskFor region (keys_pressed choices row.presses)
      (steps_lines region (keys_pressed choices row.presses) None (steps_of region choices row.presses))
      (steps_of region choices row.presses)
  pub arrows : AreArrows choices one_number region states state row.arrows
  pub real_arrows : (index : ℕ) (arrow : Arrow) → slice_get row.arrows index ≡ Some arrow
      → IsRealArrow choices one_number region states row.presses arrow

-- one of the states, which has a row
pub record HasRow (states : List ChoicesState) (rows : List StateRow) (state : ChoicesState) : Type 0 where
  pub place : ℕ
  pub at : slice_get states place ≡ Some state
  pub row : StateRow
  pub there : slice_get rows place ≡ Some row

-- None is missed of lists of at most so many keys: each leads to a state that has a row. Each state is real, is one
-- that such a list leads to, and stands once; and each text stands once.
pub record AreAll (Shows : RegionState → Lines → Type 0) (choices : List KeyLine) (one_number : Option ℕ)
    (region : RegionState) (keys : ℕ) (states : List ChoicesState) (texts : List Lines) (rows : List StateRow)
    : Type 0 where
  pub none_missed : (moves : List ℕ) (state : ChoicesState)
      → Leads (Goes choices one_number) (begun region) moves state → length moves ≤ keys → HasRow states rows state
  pub real : (place : ℕ) (state : ChoicesState) (row : StateRow) → slice_get states place ≡ Some state
      → slice_get rows place ≡ Some row → IsRealState Shows choices one_number region states texts state row
  pub near : (place : ℕ) (state : ChoicesState) → slice_get states place ≡ Some state
      → IsNear (Goes choices one_number) (begun region) keys state
  pub once : (one other : ℕ) (state : ChoicesState) → slice_get states one ≡ Some state
      → slice_get states other ≡ Some state → one ≡ other
  pub texts_once : (one other : ℕ) (text : Lines) → slice_get texts one ≡ Some text
      → slice_get texts other ≡ Some text → one ≡ other

-- no arrow goes to a state that isn't written
abbrev pub GoNoFurther : List StateRow → Type 0
GoNoFurther rows = (place index : ℕ) (row : StateRow) (arrow : Arrow) → slice_get rows place ≡ Some row
    → slice_get row.arrows index ≡ Some arrow → arrow.to ≡ None → ⊥

-- Where MORE THAN doesn't stand, of lists of at most so many keys. CLOSED stands exactly where no list of whatever
-- length leads elsewhere; no arrow goes further then.
pub record AreWhole (Shows : RegionState → Lines → Type 0) (choices : List KeyLine) (one_number : Option ℕ)
    (region : RegionState) (keys : ℕ) (states : List ChoicesState) (texts : List Lines) (rows : List StateRow)
    (is_closed : Bool) : Type 0 where
  pub all : AreAll Shows choices one_number region keys states texts rows
  pub closed : IsTrue is_closed ↔ ((moves : List ℕ) (state : ChoicesState)
      → Leads (Goes choices one_number) (begun region) moves state → IsOneOf states state)
  pub no_further : IsTrue is_closed → GoNoFurther rows

-- Where MORE THAN stands, of lists of as many keys as it says; lists of one key more lead to more states than may be
-- kept.
pub record AreCut (Shows : RegionState → Lines → Type 0) (choices : List KeyLine) (one_number : Option ℕ)
    (region : RegionState) (most keys : ℕ) (states : List ChoicesState) (texts : List Lines) (rows : List StateRow)
    : Type 0 where
  pub all : AreAll Shows choices one_number region keys states texts rows
  pub more : HasMany choices one_number region most (keys + 1)

-- what the lines of CHOICES say
pub record AreTrue (Shows : RegionState → Lines → Type 0) (choices : List KeyLine) (one_number : Option ℕ)
    (region : RegionState) (edf : List (List ℕ)) (keys most : ℕ) (lines : Lines) : Type 0 where
  pub whole : (it : WholeText Shows choices one_number region edf keys most lines)
      → AreWhole Shows choices one_number region keys it.are.states it.texts it.rows it.is_closed
  pub cut : (it : CutText Shows choices one_number region edf keys most lines)
      → AreCut Shows choices one_number region most it.at it.are.states it.texts it.rows

-- Whatever is written of every list of keys is true, and misses none, whatever is to be seen of a region.
abbrev pub ChoicesAreTrue : (RegionState → Lines → Type 0) → Type 0
ChoicesAreTrue Shows = (choices : List KeyLine) (one_number : Option ℕ) (region : RegionState) (edf : List (List ℕ))
    (keys most : ℕ) (lines : Lines) → AreTrue Shows choices one_number region edf keys most lines

-- what is to be seen of a region for a block of CHOICES, at a state
abbrev pub SeenOfChoices : ChoicesBlock → LookState → RegionState → Lines → Type 0
SeenOfChoices block state region =
    AreSeen (λ look. AreLookLines look (at_region state region)) region (sights_of block.sights state.edf.region)

-- so is whatever `cicslook` writes for a block of CHOICES
abbrev pub ChoicesBlocksAreTrue : Type 0
ChoicesBlocksAreTrue = (block : ChoicesBlock) (state : LookState) (text : List ℕ) (is : ShowsChoices block state text)
    → AreTrue (SeenOfChoices block state) block.choices (number_of block state.edf.region) state.edf.region
    (names_with_edf state.edf) block.asked.keys block.asked.most is.lines

-- The lines that are written of a list are read as lines of a script. They ask for EDF OFF where EDF is on, and then
-- for the very events that its keys and turns are; and done one after another they lead to that region.
pub record ListLeadsThere (make : DisplayMaker) (state : LookState) (choices : List KeyLine) (presses : List Press)
    (region : RegionState) : Type 0 where
  pub run : IsRunOf (keys_pressed choices presses) (orders.begun state.edf.region)
      (steps_of state.edf.region choices presses) (orders.begun region)
  pub lead : LeadThere make state (list_lines state.edf.region choices (names_with_edf state.edf) presses)
      (map event.Off (names_with_edf state.edf) ++ map event.Plain run.events) region

-- so it is of each list of keys of a block's lines, wherever a script may be, without one number
abbrev pub ListsLeadThere : Type 0
ListsLeadThere = (make : DisplayMaker) (state : LookState) → IsScriptState make state
    → (asked : ChoicesAsked) (lines : List (List ℕ)) (presses : List Press) (to : ChoicesState)
    → ArePresses (choices_block asked lines).choices None (begun state.edf.region) presses to
    → ListLeadsThere make state (choices_block asked lines).choices presses to.region
