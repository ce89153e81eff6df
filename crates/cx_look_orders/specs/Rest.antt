-- What is written of a state at rest: how tasks ended by abends on the way, keys that were refused, tasks that wait,
-- keys that couldn't come, and what is to be seen there (this product's own).
use Rattle.std.specs.Prelude.{◌≡◌, ℕ, ◌==◌, ◌-◌, if◌then◌else◌, List, [], ◌∷◌, ◌++◌, codes, length, position, slice_get, unwrap_or}
use Rattle.std.specs.Fmt.{decimal}
use Rattle.std.specs.List.{flat_map, list_any}
use Rattle.std.specs.Map.{keys_of as names_of}
use Rattle.std.specs.Option.{option_and_then}
use Rattle.cx_base.specs.Texts.{shown_name}
use Rattle.cx_ebcdic.specs.Names.{is_name}
use Rattle.cx_look_tasks.specs.Tasks.{WaitsText}
use Rattle.cx_look_lines.specs.Words.{Lines, look_line}
use Rattle.cx_look_steps.specs.Incidents.{incident_line}
use Rattle.cx_orders.specs.Moves.{keys_of}
use Rattle.cx_orders.specs.declared.states.KeyLine.{KeyLine}
use Rattle.cx_orders.specs.declared.states.OrdersState.{OrdersState}
use Rattle.cx_region.specs.State.{RegionState}

-- ---- keys that couldn't come
-- how many keys of the terminal of that name came: none, where no such terminal is defined
abbrev pub came_of : OrdersState → List ℕ → ℕ
came_of state name =
    unwrap_or (option_and_then (slice_get state.come) (position (is_name name) (names_of state.region.terminals))) 0

-- where some are left, the terminal's name and how many
abbrev pub left_line : List ℕ → ℕ → Lines
left_line name left = if left == 0 then [] else look_line (codes "KEYS" ∷ shown_name name ∷ decimal left ∷ [])

-- of a key of that terminal, where it is its last one
unfoldable pub key_lines : List ℕ → ℕ → List KeyLine → Lines
key_lines name left later =
    if list_any (λ (other : KeyLine). is_name other.name name) later then [] else left_line name left

-- of each terminal that keys are of, in the order of its last key
unfoldable pub keys_text : OrdersState → List KeyLine → List KeyLine → Lines
keys_text state keys [] = []
keys_text state keys (key ∷ later) =
    key_lines key.name (length (keys_of keys key.name) - came_of state key.name) later ++ keys_text state keys later

-- ---- the whole
pub record RestText (Shows : RegionState → Lines → Type 0) (keys : List KeyLine) (state : OrdersState) (lines : Lines)
    : Type 0 where
  pub waits : Lines
  pub waiting : WaitsText state.region waits
  pub sight : Lines
  pub seen : Shows state.region sight
  pub is : lines ≡ flat_map (incident_line state.region) state.incidents ++ waits ++ keys_text state keys keys ++ sight
