-- What is written of a state that keys lead to (this product's own).
use Rattle.std.specs.Prelude.{◌≡◌, Bool, if◌then◌else◌, [], ◌∷◌, ◌++◌, MatchBool, codes}
use Rattle.cx_look_lines.specs.Words.{Lines, look_line}
use Rattle.cx_look_tasks.specs.Tasks.{WaitsText}
use Rattle.cx_region.specs.State.{RegionState}
use Rattle.cx_choices.specs.Settling.{IsAtRest}
use Rattle.cx_choices.specs.declared.states.ChoicesState.{ChoicesState}

-- where a terminal can act
abbrev pub running_line : Bool → Lines
running_line is_running = if is_running then look_line (codes "STILL RUNNING" ∷ []) else []

-- the tasks that wait, as TASKS has them; that the region isn't at rest; and what is to be seen
pub record StateText (Shows : RegionState → Lines → Type 0) (state : ChoicesState) (lines : Lines) : Type 0 where
  pub waits : Lines
  pub waiting : WaitsText state.region waits
  pub is_running : Bool
  pub running : MatchBool is_running (IsAtRest state.region → ⊥) (IsAtRest state.region)
  pub sight : Lines
  pub seen : Shows state.region sight
  pub is : lines ≡ waits ++ running_line is_running ++ sight
