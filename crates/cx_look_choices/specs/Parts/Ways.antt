-- The presses of a list of moves, where keys lead among the first states that a search found, and the rows of these.
use Rattle.std.specs.Prelude.{◌≡◌, ◌⊎◌, ℕ, ◌+◌, ◌<◌, ◌≤◌, ◌&&◌, not, Bool, true, false, List, [], ◌∷◌, ◌++◌, Option, Some, MatchOption, codes, length, map, slice_get, take}
use Rattle.std.specs.Fmt.{decimal}
use Rattle.cx_look_lines.specs.Words.{Lines, look_line}
use Rattle.cx_region.specs.State.{RegionState}
use Rattle.cx_search.specs.declared.found.Origin.{Origin}
use Rattle.cx_search.specs.declared.within.Reach.{Reach}
use Rattle.cx_search.specs.declared.within.Reach.TheVariants.{Closed, Full, Open}
use Rattle.cx_search.specs.Found.{IsAt, IsFound}
use Rattle.cx_search.specs.Moves.{IsFirst}
use Rattle.cx_search.specs.Within.{IsNear}
use Rattle.cx_orders.specs.declared.states.KeyLine.{KeyLine}
use Rattle.cx_choices.specs.Moves.{Chooses, Goes, begun}
use Rattle.cx_choices.specs.declared.states.ChoicesState.{ChoicesState}
use Rattle.cx_choices.specs.declared.states.Passage.{Passage}
use Rattle.cx_look_choices.specs.Presses.{ArePresses, IsPress, moves_of}
use Rattle.cx_look_choices.specs.Report.{cut_line, numbers_show, states_lines, target_word, whole_line}
use Rattle.cx_look_choices.specs.Rows.{AreArrows, AreSameKeys, AreScreens, Differs, HasArrow, IsArrow, IsSameList}
use Rattle.cx_look_choices.specs.States.{StateText}
use Rattle.cx_look_choices.specs.declared.presses.Press.{Press}
use Rattle.cx_look_choices.specs.declared.rows.Arrow.{Arrow}
use Rattle.cx_look_choices.specs.declared.rows.StateRow.{StateRow}

-- ---- presses
module _ (choices : List KeyLine) (one_number : Option ℕ) (from : ChoicesState) where
  -- the key with that number is pressed, and leads to a state
  pub record IsPressed (number : ℕ) (press : Press) (to : ChoicesState) : Type 0 where
    pub is : IsPress choices one_number from press to
    pub of : press.choice ≡ number

  -- the presses are those of a list of moves, and lead to a state
  pub record ArePressesOf (moves : List ℕ) (to : ChoicesState) (presses : List Press) : Type 0 where
    pub are : ArePresses choices one_number from presses to
    pub of : moves_of presses ≡ moves

  -- the presses of the soonest list that leads to a state
  pub record AreFirstPresses (to : ChoicesState) (presses : List Press) : Type 0 where
    pub are : ArePresses choices one_number from presses to
    pub first : IsFirst (Goes choices one_number) from (moves_of presses) to

-- ---- what a search found
-- the first of the states that were found
abbrev pub states_of : ℕ → List (ChoicesState × Origin) → List ChoicesState
states_of many found = take many (map (λ (entry : ChoicesState × Origin). entry.0) found)

-- each state stands once
abbrev pub StandOnce : List (ChoicesState × Origin) → Type 0
StandOnce found = (one other : ℕ) (state : ChoicesState) → IsAt found one state → IsAt found other state → one ≡ other

-- the first so many are led to by at most so many moves, and the next isn't
pub record AreFirstWithin (found : List (ChoicesState × Origin)) (moves many : ℕ) : Type 0 where
  pub few : many ≤ length found
  pub near : (place : ℕ) (state : ChoicesState) (origin : Origin) → place < many
      → slice_get found place ≡ Some (state, origin)
      → origin.moves ≤ moves
  pub next : (state : ChoicesState) (origin : Origin) → slice_get found many ≡ Some (state, origin)
      → moves < origin.moves

-- each state was found that a list of at most so many moves leads to
abbrev pub HasFound : List KeyLine → Option ℕ → RegionState → List (ChoicesState × Origin) → ℕ → Type 0
HasFound choices one_number region found moves =
    (state : ChoicesState) → IsNear (Goes choices one_number) (begun region) moves state → IsFound found state

-- ---- where keys lead
module _ (choices : List KeyLine) (one_number : Option ℕ) (region : RegionState) (states : List ChoicesState)
    (from : ChoicesState) where
  -- of the key with that number, where it can be pressed
  pub record IsArrowOf (number : ℕ) (arrow : Arrow) : Type 0 where
    pub is : IsArrow choices one_number region states from arrow
    pub of : arrow.choice ≡ number

  abbrev pub MayLead : ℕ → Option Arrow → Type 0
  MayLead number arrow =
      MatchOption arrow ((passage : Passage) → Chooses choices one_number from.region number passage → ⊥)
      (IsArrowOf number)

  -- of the keys with the first numbers
  pub record AreFirstArrows (many : ℕ) (arrows : List Arrow) : Type 0 where
    pub each : (place : ℕ) (arrow : Arrow) → slice_get arrows place ≡ Some arrow
        → IsArrow choices one_number region states from arrow
    pub below : (place : ℕ) (arrow : Arrow) → slice_get arrows place ≡ Some arrow → arrow.choice < many
    pub all : (number : ℕ) (passage : Passage) → number < many → Chooses choices one_number from.region number passage
        → HasArrow choices one_number region arrows number
    pub ordered : (j k : ℕ) (one other : Arrow) → j < k → slice_get arrows j ≡ Some one
        → slice_get arrows k ≡ Some other → one.choice < other.choice

-- ---- texts
-- the texts stay, or one more comes last
pub record IsNew (before after : List Lines) (text : Lines) (number : ℕ) : Type 0 where
  pub first : number ≡ length before
  pub added : after ≡ before ++ text ∷ []
  pub new : (other : ℕ) → slice_get before other ≡ Some text → ⊥

-- the number of a text among those that came, to which it is added where it is none of them
pub record Numbers (before after : List Lines) (text : Lines) (number : ℕ) : Type 0 where
  pub is : slice_get after number ≡ Some text
  pub how : (after ≡ before) ⊎ IsNew before after text number

-- ---- rows
-- whether a list and the keys after it are the same with numbers that count on
pub record AreCompared (Shows : RegionState → Lines → Type 0) (choices : List KeyLine) (one_number : Option ℕ)
    (region : RegionState) (state : ChoicesState) (presses : List Press) (list_differs keys_differ : Bool) : Type 0 where
  pub listed : Differs one_number (IsSameList Shows choices one_number region state presses) list_differs
  pub pressed : Differs one_number (AreSameKeys Shows choices one_number region state presses) keys_differ

module _ (Shows : RegionState → Lines → Type 0) (choices : List KeyLine) (one_number : Option ℕ)
    (region : RegionState) (found : List (ChoicesState × Origin)) (many : ℕ) where
  -- of the state at a place
  pub record IsRowAt (texts : List Lines) (place : ℕ) (row : StateRow) : Type 0 where
    pub state : ChoicesState
    pub at : IsAt found place state
    pub presses : AreFirstPresses choices one_number (begun region) state row.presses
    pub text : Lines
    pub shows : StateText Shows state text
    pub screen : slice_get texts row.screen ≡ Some text
    pub arrows : AreArrows choices one_number region (states_of many found) state row.arrows
    pub compared :
        AreCompared Shows choices one_number region state row.presses row.list_differs row.keys_differ

  -- of the states at the first places
  pub record AreFirstRows (done : ℕ) (texts : List Lines) (rows : List StateRow) : Type 0 where
    pub as_many : length rows ≡ done
    pub each : (place : ℕ) (row : StateRow) → slice_get rows place ≡ Some row → IsRowAt texts place row
    pub screens : AreScreens texts rows

-- ---- the report
-- of states of lists of at most so many keys
abbrev pub limit_of : Reach → ℕ → ℕ
limit_of (Full many) keys = many
limit_of reach keys = keys

-- where a key leads
abbrev pub arrow_line : Arrow → Lines
arrow_line arrow = look_line (codes "KEY" ∷ decimal (arrow.choice + 1) ∷ codes "TO" ∷ target_word arrow.to ∷ [])

module _ (region : RegionState) (choices : List KeyLine) (one_number : Option ℕ) (edf : List (List ℕ))
    (texts : List Lines) (rows : List StateRow) where
  abbrev pub whole_report : ℕ → Bool → Lines
  whole_report keys is_closed =
      whole_line keys (length rows) (length texts) one_number (numbers_show rows)
      (is_closed && not (numbers_show rows)) ++ states_lines region choices edf texts rows

  abbrev pub cut_report : ℕ → ℕ → Lines
  cut_report most at =
      cut_line most at (length texts) one_number (numbers_show rows) ++ states_lines region choices edf texts rows

  -- of what a search came to
  abbrev pub report_of : ℕ → ℕ → Reach → Lines
  report_of keys most Closed = whole_report keys true
  report_of keys most Open = whole_report keys false
  report_of keys most (Full at) = cut_report most at
