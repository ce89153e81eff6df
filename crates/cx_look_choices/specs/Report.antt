-- What is written of every list of keys (this product's own).
use Rattle.std.specs.Prelude.{◌≡◌, ◌⊎◌, ℕ, ◌+◌, ◌==◌, ◌<◌, ◌≤◌, ◌&&◌, ◌||◌, not, Bool, true, if◌then◌else◌, List, [], ◌∷◌, ◌++◌, Option, MatchBool, codes, length, slice_get, unwrap_or}
use Rattle.std.specs.Fmt.{decimal}
use Rattle.std.specs.List.{flat_map, list_any}
use Rattle.std.specs.Option.{option_map_or}
use Rattle.cx_look_lines.specs.Words.{Lines, look_line}
use Rattle.cx_region.specs.State.{RegionState}
use Rattle.cx_search.specs.Within.{IsClosed, IsOpen}
use Rattle.cx_orders.specs.declared.states.KeyLine.{KeyLine}
use Rattle.cx_choices.specs.Moves.{Goes, begun}
use Rattle.cx_choices.specs.declared.states.ChoicesState.{ChoicesState}
use Rattle.cx_look_steps.specs.Incidents.{incident_line}
use Rattle.cx_look_choices.specs.Presses.{list_lines}
use Rattle.cx_look_choices.specs.Rows.{AreNear, AreRows, HasNear}
use Rattle.cx_look_choices.specs.declared.rows.Arrow.{Arrow}
use Rattle.cx_look_choices.specs.declared.rows.StateRow.{StateRow}

-- ---- whether numbers of tasks show
abbrev pub row_differs : StateRow → Bool
row_differs row = row.list_differs || row.keys_differ

abbrev pub numbers_show : List StateRow → Bool
numbers_show rows = list_any row_differs rows

abbrev pub show_words : Bool → List (List ℕ)
show_words shows = if shows then codes "NUMBERS SHOW" ∷ [] else []

-- where the list of a state, or one of its keys, isn't the same with numbers that count on
abbrev pub show_line : Bool → Lines
show_line shows = if shows then look_line (codes "NUMBERS SHOW" ∷ []) else []

abbrev pub keys_show_line : Bool → Lines
keys_show_line shows = if shows then look_line (codes "NUMBERS SHOW BY KEYS" ∷ []) else []

-- ---- the first line
abbrev pub number_words : Option ℕ → Bool → List (List ℕ)
number_words one_number shows = option_map_or (λ number. codes "ONE NUMBER" ∷ show_words shows) one_number []

abbrev pub closed_words : Bool → List (List ℕ)
closed_words is_closed = if is_closed then codes "CLOSED" ∷ [] else []

abbrev pub screens_words : ℕ → List (List ℕ)
screens_words screens = codes "SCREENS" ∷ decimal screens ∷ []

abbrev pub whole_line : ℕ → ℕ → ℕ → Option ℕ → Bool → Bool → Lines
whole_line keys states screens one_number shows is_closed =
    look_line
    ((codes "CHOICES KEYS" ∷ decimal keys ∷ codes "STATES" ∷ decimal states ∷ []) ++ screens_words screens
    ++ number_words one_number shows ++ closed_words is_closed)

abbrev pub cut_line : ℕ → ℕ → ℕ → Option ℕ → Bool → Lines
cut_line most keys screens one_number shows =
    look_line
    ((codes "CHOICES MORE THAN" ∷ decimal most ∷ codes "STATES, ALL OF" ∷ decimal keys ∷ codes "KEYS" ∷ [])
    ++ screens_words screens ++ number_words one_number shows)

-- ---- where keys lead
-- keys and states are numbered from 1
abbrev pub target_word : Option ℕ → List ℕ
target_word to = option_map_or (λ place. decimal (place + 1)) to (codes "MORE")

unfoldable pub arrow_lines : RegionState → Arrow → Lines
arrow_lines region arrow =
    look_line (codes "KEY" ∷ decimal (arrow.choice + 1) ∷ codes "TO" ∷ target_word arrow.to ∷ [])
    ++ flat_map (incident_line region) arrow.incidents

-- of a state with that number: a key that abends a task, or is refused; and where numbers show there
abbrev pub trouble_lines : RegionState → ℕ → Bool → Arrow → Lines
trouble_lines region number shows arrow =
    if length arrow.incidents == 0 then []
    else look_line (codes "STATE" ∷ decimal number ∷ []) ++ arrow_lines region arrow ++ show_line shows

-- of states with their numbers, from the first one's on
unfoldable pub troubles_lines : RegionState → ℕ → List StateRow → Lines
troubles_lines region number [] = []
troubles_lines region number (row ∷ rows) =
    flat_map (trouble_lines region number (row_differs row)) row.arrows ++ troubles_lines region (number + 1) rows

-- ---- the states
abbrev pub state_line : ℕ → ℕ → Lines
state_line number screen =
    look_line (codes "STATE" ∷ decimal number ∷ codes "SCREEN" ∷ decimal (screen + 1) ∷ [])

-- a text is written where it comes first: so many came before
abbrev pub screen_lines : List Lines → ℕ → ℕ → Lines
screen_lines texts came screen = if screen == came then unwrap_or (slice_get texts screen) [] else []

abbrev pub came_after : ℕ → ℕ → ℕ
came_after came screen = if screen == came then came + 1 else came

module _ (region : RegionState) (choices : List KeyLine) (edf : List (List ℕ)) (texts : List Lines) where
  -- a list that isn't the same with numbers that count on isn't written
  abbrev pub row_list : StateRow → Lines
  row_list row = if row.list_differs then show_line true else list_lines region choices edf row.presses

  unfoldable pub row_lines : ℕ → ℕ → StateRow → Lines
  row_lines number came row =
      state_line number row.screen ++ row_list row ++ flat_map (arrow_lines region) row.arrows
      ++ keys_show_line row.keys_differ ++ screen_lines texts came row.screen

  -- of states with their numbers, from the first one's on, before which so many texts came
  unfoldable pub rows_lines : ℕ → ℕ → List StateRow → Lines
  rows_lines number came [] = []
  rows_lines number came (row ∷ rows) =
      row_lines number came row ++ rows_lines (number + 1) (came_after came row.screen) rows

  -- first the keys that abend or are refused, then all states
  abbrev pub states_lines : List StateRow → Lines
  states_lines rows = troubles_lines region 1 rows ++ rows_lines 1 0 rows

-- ---- the whole
module _ (choices : List KeyLine) (one_number : Option ℕ) (region : RegionState) where
  -- lists of at most so many keys lead to at most so many states
  pub record HasFew (most keys : ℕ) : Type 0 where
    pub states : List ChoicesState
    pub all : HasNear choices one_number region keys states
    pub few : length states ≤ most

  -- they lead to more
  pub record HasMany (most keys : ℕ) : Type 0 where
    pub states : List ChoicesState
    pub near : AreNear choices one_number region keys states
    pub many : most < length states

module _ (Shows : RegionState → Lines → Type 0) (choices : List KeyLine) (one_number : Option ℕ)
    (region : RegionState) (edf : List (List ℕ)) (keys most : ℕ) where
  -- lists of at most so many keys, and of one more, lead to at most so many states
  pub record WholeText (lines : Lines) : Type 0 where
    pub count : HasFew choices one_number region most (keys + 1)
    pub texts : List Lines
    pub rows : List StateRow
    pub are : AreRows Shows choices one_number region keys texts rows
    pub is_closed : Bool
    pub closed : MatchBool is_closed (IsClosed (Goes choices one_number) (begun region) keys)
        (IsOpen (Goes choices one_number) (begun region) keys)
    pub is : lines ≡ whole_line keys (length rows) (length texts) one_number (numbers_show rows)
        (is_closed && not (numbers_show rows)) ++ states_lines region choices edf texts rows

  -- they lead to more: the states of lists of the most keys that lead to no more
  pub record CutText (lines : Lines) : Type 0 where
    pub at : ℕ
    pub within : at ≤ keys
    pub count : HasFew choices one_number region most at
    pub more : HasMany choices one_number region most (at + 1)
    pub texts : List Lines
    pub rows : List StateRow
    pub are : AreRows Shows choices one_number region at texts rows
    pub is : lines ≡ cut_line most at (length texts) one_number (numbers_show rows)
        ++ states_lines region choices edf texts rows

  -- What is written of every list of at most so many of these keys, where EDF is on at these terminals.
  abbrev pub ChoicesText : Lines → Type 0
  ChoicesText lines = WholeText lines ⊎ CutText lines
