-- A list of keys that are pressed one after another, each with the turns that follow it, and its lines in a script
-- (this product's own).
use Rattle.std.specs.Prelude.{◌≡◌, ℕ, List, [], ◌∷◌, ◌++◌, Option, Some, None, length, map, position, slice_get, unwrap_or}
use Rattle.std.specs.List.{flat_map}
use Rattle.std.specs.Map.{keys_of as names_of}
use Rattle.std.specs.Option.{option_map_or}
use Rattle.cx_ebcdic.specs.Names.{is_name}
use Rattle.cx_look_lines.specs.Words.{Lines}
use Rattle.cx_region.specs.State.{RegionState}
use Rattle.cx_orders.specs.Moves.{keys_of}
use Rattle.cx_orders.specs.declared.states.KeyLine.{KeyLine}
use Rattle.cx_choices.specs.Moves.{Chooses, numbered}
use Rattle.cx_choices.specs.declared.states.ChoicesState.{ChoicesState}
use Rattle.cx_choices.specs.declared.states.Passage.{Passage}
use Rattle.cx_choices.specs.declared.states.TurnMade.{TurnMade}
use Rattle.cx_look_steps.specs.Script.{script_lines}
use Rattle.cx_look_steps.specs.declared.steps.Step.{Step}
use Rattle.cx_look_choices.specs.declared.presses.Press.{Press}

-- ---- what a list of presses is
module _ (choices : List KeyLine) (one_number : Option ℕ) where
  -- the choice with that number is pressed in a state, those turns follow, and it leads to a state
  pub record IsPress (from : ChoicesState) (press : Press) (to : ChoicesState) : Type 0 where
    pub passage : Passage
    pub chooses : Chooses choices one_number from.region press.choice passage
    pub made : press.made ≡ passage.made
    pub leads : to.region ≡ numbered one_number passage.after

  -- a press, and then what is said of the state between
  pub record PressThen (Rest : ChoicesState → Type 0) (from : ChoicesState) (press : Press) : Type 0 where
    pub between : ChoicesState
    pub is : IsPress from press between
    pub rest : Rest between

  -- the presses lead from a state to a state
  unfoldable pub ArePresses : ChoicesState → List Press → ChoicesState → Type 0
  ArePresses from [] to = to ≡ from
  ArePresses from (press ∷ presses) to = PressThen (λ between. ArePresses between presses to) from press

-- as a list of moves
abbrev pub moves_of : List Press → List ℕ
moves_of presses = map (λ (press : Press). press.choice) presses

-- ---- as keys and turns of ORDERS
-- the number of the terminal of that name, in the order of their definition
abbrev pub terminal_number : RegionState → List ℕ → ℕ
terminal_number region name = unwrap_or (position (is_name name) (names_of region.terminals)) 0

-- the choice with a number, as a list
abbrev pub key_pressed : List KeyLine → ℕ → List KeyLine
key_pressed choices number = option_map_or (λ key. key ∷ []) (slice_get choices number) []

-- the keys of presses, in their order
abbrev pub keys_pressed : List KeyLine → List Press → List KeyLine
keys_pressed choices presses = flat_map (λ (press : Press). key_pressed choices press.choice) presses

-- a key is a step of its terminal, before which so many of its keys came; nothing is told of steps here
abbrev pub key_step : RegionState → List KeyLine → KeyLine → Step
key_step region before key =
    record { number = terminal_number region key.name; key = Some (length (keys_of before key.name)); told = None }

abbrev pub turn_step : TurnMade → Step
turn_step turn = record { number = turn.number; key = None; told = None }

abbrev pub press_steps : RegionState → List KeyLine → List KeyLine → List TurnMade → List Step
press_steps region before keys made = map (key_step region before) keys ++ map turn_step made

-- of presses before which those keys were pressed
unfoldable pub steps_after : RegionState → List KeyLine → List KeyLine → List Press → List Step
steps_after region choices before [] = []
steps_after region choices before (press ∷ presses) =
    let keys = key_pressed choices press.choice in
    press_steps region before keys press.made ++ steps_after region choices (before ++ keys) presses

abbrev pub steps_of : RegionState → List KeyLine → List Press → List Step
steps_of region choices presses = steps_after region choices [] presses

-- the lines of a script that does them, as ORDERS writes them
abbrev pub list_lines : RegionState → List KeyLine → List (List ℕ) → List Press → Lines
list_lines region choices edf presses =
    script_lines region (keys_pressed choices presses) edf (steps_of region choices presses)
