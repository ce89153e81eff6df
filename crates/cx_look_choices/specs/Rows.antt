-- The states that lists of keys lead to, what is written of each, and where each key leads from there (this product's
-- own).
use Rattle.std.specs.Prelude.{◌≡◌, ◌⊎◌, ℕ, ◌<◌, Bool, false, List, [], ◌∷◌, ◌++◌, Option, Some, None, MatchBool, MatchOption, length, slice_get}
use Rattle.std.specs.List.{flat_map}
use Rattle.std.specs.Option.{option_map_or}
use Rattle.cx_look_lines.specs.Words.{Lines}
use Rattle.cx_region.specs.State.{RegionState}
use Rattle.cx_search.specs.Moves.{IsSooner, Leads}
use Rattle.cx_search.specs.Within.{IsNear}
use Rattle.cx_orders.specs.Incidents.{incident_of_key, incident_of_turn}
use Rattle.cx_orders.specs.declared.states.Incident.{Incident}
use Rattle.cx_orders.specs.declared.states.IncidentAt.{IncidentAt}
use Rattle.cx_orders.specs.declared.states.KeyLine.{KeyLine}
use Rattle.cx_choices.specs.Moves.{Chooses, Goes, begun, numbered}
use Rattle.cx_choices.specs.declared.states.ChoicesState.{ChoicesState}
use Rattle.cx_choices.specs.declared.states.Passage.{Passage}
use Rattle.cx_look_steps.specs.Steps.{NoLater}
use Rattle.cx_look_choices.specs.Presses.{ArePresses, key_pressed, moves_of, terminal_number}
use Rattle.cx_look_choices.specs.States.{StateText}
use Rattle.cx_look_choices.specs.declared.presses.Press.{Press}
use Rattle.cx_look_choices.specs.declared.rows.Arrow.{Arrow}
use Rattle.cx_look_choices.specs.declared.rows.StateRow.{StateRow}

-- ---- abends and refused keys of a move, in the order in which they come
abbrev pub incident_at : ℕ → Option Incident → List IncidentAt
incident_at number what = option_map_or (λ one. record { number = number; incident = one } ∷ []) what []

abbrev pub key_incidents : RegionState → Passage → KeyLine → List IncidentAt
key_incidents region passage key = incident_at (terminal_number region key.name) (incident_of_key passage.reply)

abbrev pub passage_incidents : RegionState → List KeyLine → ℕ → Passage → List IncidentAt
passage_incidents region choices number passage =
    flat_map (key_incidents region passage) (key_pressed choices number)
    ++ flat_map (λ turn. incident_at turn.number (incident_of_turn turn.reply)) passage.made

-- ---- the same once more, with numbers of tasks that count on
module _ (choices : List KeyLine) (region : RegionState) where
  -- the key with that number is pressed in a state, with one number or without; what is kept of it, and where it leads
  pub record Does (one_number : Option ℕ) (from : ChoicesState) (number : ℕ) (incidents : List IncidentAt)
      (to : ChoicesState) : Type 0 where
    pub passage : Passage
    pub chooses : Chooses choices one_number from.region number passage
    pub leads : to.region ≡ numbered one_number passage.after
    pub is : incidents ≡ passage_incidents region choices number passage

  -- it can't be pressed there
  abbrev pub CannotPress : Option ℕ → ChoicesState → ℕ → Type 0
  CannotPress one_number from number = (passage : Passage) → Chooses choices one_number from.region number passage → ⊥

-- one text is written of two states
pub record ShowSame (Shows : RegionState → Lines → Type 0) (one other : ChoicesState) : Type 0 where
  pub text : Lines
  pub shows : StateText Shows one text
  pub also : StateText Shows other text

module _ (Shows : RegionState → Lines → Type 0) (choices : List KeyLine) (one_number : Option ℕ)
    (region : RegionState) where
  -- a key has the same abends, or is refused alike, in a state and in that which numbers that count on lead to, and it
  -- leads to states of one text
  pub record DoesSame (from real : ChoicesState) (number : ℕ) : Type 0 where
    pub incidents : List IncidentAt
    pub one : ChoicesState
    pub does : Does choices region one_number from number incidents one
    pub other : ChoicesState
    pub again : Does choices region None real number incidents other
    pub same : ShowSame Shows one other

  -- or it can be pressed in neither
  abbrev pub IsSameKey : ChoicesState → ChoicesState → ℕ → Type 0
  IsSameKey from real number =
      (CannotPress choices region one_number from number × CannotPress choices region None real number)
      ⊎ DoesSame from real number

  -- a list, made once more with numbers that count on, leads by the same turns to a state of the same text
  pub record IsSameList (state : ChoicesState) (presses : List Press) : Type 0 where
    pub real : ChoicesState
    pub made : ArePresses choices None (begun region) presses real
    pub same : ShowSame Shows state real

  -- and there each key is the same
  pub record AreSameKeys (state : ChoicesState) (presses : List Press) : Type 0 where
    pub real : ChoicesState
    pub made : ArePresses choices None (begun region) presses real
    pub keys : (number : ℕ) → number < length choices → IsSameKey state real number

-- whether something isn't the same with numbers that count on: never without one number
unfoldable pub Differs : Option ℕ → Type 0 → Bool → Type 0
Differs one_number Same differs =
    MatchOption one_number (differs ≡ false) (λ number. MatchBool differs (Same → ⊥) Same)

-- ---- the states
-- the state is one of those
pub record IsOneOf (states : List ChoicesState) (state : ChoicesState) : Type 0 where
  pub place : ℕ
  pub at : slice_get states place ≡ Some state

-- the place of the state among those; none where it is none of them
unfoldable pub IsPlace : List ChoicesState → ChoicesState → Option ℕ → Type 0
IsPlace states state place =
    MatchOption place (IsOneOf states state → ⊥) (λ place. slice_get states place ≡ Some state)

module _ (choices : List KeyLine) (one_number : Option ℕ) (region : RegionState) where
  -- each of the states is one that a list of at most so many keys leads to, and stands there once
  pub record AreNear (keys : ℕ) (states : List ChoicesState) : Type 0 where
    pub each : (place : ℕ) (state : ChoicesState) → slice_get states place ≡ Some state
        → IsNear (Goes choices one_number) (begun region) keys state
    pub once : (one other : ℕ) (state : ChoicesState) → slice_get states one ≡ Some state
        → slice_get states other ≡ Some state → one ≡ other

  -- each state is there that a list of at most so many keys leads to
  abbrev pub HasNear : ℕ → List ChoicesState → Type 0
  HasNear keys states = (state : ChoicesState) → IsNear (Goes choices one_number) (begun region) keys state
      → IsOneOf states state

  -- ---- where keys lead
  -- of the key with that number: what happens when it is pressed in a state, and the state that it leads to
  pub record IsArrow (states : List ChoicesState) (from : ChoicesState) (arrow : Arrow) : Type 0 where
    pub passage : Passage
    pub chooses : Chooses choices one_number from.region arrow.choice passage
    pub to : ChoicesState
    pub leads : to.region ≡ numbered one_number passage.after
    pub there : IsPlace states to arrow.to
    pub incidents : arrow.incidents ≡ passage_incidents region choices arrow.choice passage

  -- one of the arrows is of the key with that number
  pub record HasArrow (arrows : List Arrow) (number : ℕ) : Type 0 where
    pub place : ℕ
    pub arrow : Arrow
    pub at : slice_get arrows place ≡ Some arrow
    pub is : arrow.choice ≡ number

  -- of each key that can be pressed in a state, in their order
  pub record AreArrows (states : List ChoicesState) (from : ChoicesState) (arrows : List Arrow) : Type 0 where
    pub each : (place : ℕ) (arrow : Arrow) → slice_get arrows place ≡ Some arrow → IsArrow states from arrow
    pub all : (number : ℕ) (passage : Passage) → Chooses choices one_number from.region number passage
        → HasArrow arrows number
    pub ordered : (j k : ℕ) (one other : Arrow) → j < k → slice_get arrows j ≡ Some one
        → slice_get arrows k ≡ Some other → one.choice < other.choice

  -- ---- what is written of the states
  -- of a state: the soonest list that leads to it, the number of its text, where each key leads, and whether the list
  -- and the keys are the same with numbers that count on
  pub record IsRow (Shows : RegionState → Lines → Type 0) (states : List ChoicesState) (texts : List Lines)
      (state : ChoicesState) (row : StateRow) : Type 0 where
    pub presses : ArePresses choices one_number (begun region) row.presses state
    pub soonest : (moves : List ℕ) → Leads (Goes choices one_number) (begun region) moves state
        → NoLater (moves_of row.presses) moves
    pub text : Lines
    pub shows : StateText Shows state text
    pub screen : slice_get texts row.screen ≡ Some text
    pub arrows : AreArrows states state row.arrows
    pub listed : Differs one_number (IsSameList Shows choices one_number region state row.presses) row.list_differs
    pub pressed : Differs one_number (AreSameKeys Shows choices one_number region state row.presses) row.keys_differ

-- one of the rows, before a place, has that number of a text
pub record HasScreen (rows : List StateRow) (before screen : ℕ) : Type 0 where
  pub place : ℕ
  pub less : place < before
  pub row : StateRow
  pub at : slice_get rows place ≡ Some row
  pub is : row.screen ≡ screen

-- the texts stand once, in the order in which they come first
pub record AreScreens (texts : List Lines) (rows : List StateRow) : Type 0 where
  pub once : (one other : ℕ) (text : Lines) → slice_get texts one ≡ Some text → slice_get texts other ≡ Some text
      → one ≡ other
  pub used : (screen : ℕ) (text : Lines) → slice_get texts screen ≡ Some text → HasScreen rows (length rows) screen
  pub first : (place screen : ℕ) (row : StateRow) → slice_get rows place ≡ Some row → screen < row.screen
      → HasScreen rows place screen

-- Of each state that a list of at most so many keys leads to a row, in the order of the soonest lists that lead there.
pub record AreRows (Shows : RegionState → Lines → Type 0) (choices : List KeyLine) (one_number : Option ℕ)
    (region : RegionState) (keys : ℕ) (texts : List Lines) (rows : List StateRow) : Type 0 where
  pub states : List ChoicesState
  pub near : AreNear choices one_number region keys states
  pub all : HasNear choices one_number region keys states
  pub many : length rows ≡ length states
  pub each : (place : ℕ) (state : ChoicesState) (row : StateRow) → slice_get states place ≡ Some state
      → slice_get rows place ≡ Some row → IsRow choices one_number region Shows states texts state row
  pub ordered : (j k : ℕ) (one other : StateRow) → j < k → slice_get rows j ≡ Some one → slice_get rows k ≡ Some other
      → IsSooner (moves_of one.presses) (moves_of other.presses)
  pub screens : AreScreens texts rows
