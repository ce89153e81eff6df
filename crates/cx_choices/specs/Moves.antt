-- A move of an operator: a key is pressed in a region at rest, and the region settles (this product's own).
use Rattle.std.specs.Prelude.{◌≡◌, ◌==◌, ℕ, zero, suc, Bool, true, false, if◌then◌else◌, List, Option, Some, None, MatchOption, length, slice_get}
use Rattle.std.specs.List.{list_any}
use Rattle.std.specs.Option.{option_map_or}
use Rattle.cx_region_state.specs.State.{TaskState}
use Rattle.cx_region.specs.Attach.{TakesKey, input_from, next_number}
use Rattle.cx_region.specs.State.{RegionState, TerminalState}
use Rattle.cx_region.specs.Tables.{terminal_of}
use Rattle.cx_look_tasks.specs.Activities.{IsActivity}
use Rattle.cx_look_tasks.specs.declared.activities.Activity.{Activity}
use Rattle.cx_orders.specs.Moves.{is_ready}
use Rattle.cx_orders.specs.declared.states.KeyLine.{KeyLine}
use Rattle.cx_choices.specs.Settling.{IsAtRest, Settles, most_turns}
use Rattle.cx_choices.specs.declared.states.ChoicesState.{ChoicesState}
use Rattle.cx_choices.specs.declared.states.Passage.{Passage}

-- a task that there is has the number
abbrev pub has_number : ℕ → TerminalState → Bool
has_number number terminal = option_map_or (λ (task : TaskState). task.number == number) terminal.task false

abbrev pub is_given : List (List ℕ × TerminalState) → ℕ → Bool
is_given terminals number = list_any (λ entry. has_number number entry.1) terminals

-- a number of the last task, counted on from one where that is so: no task that there is has the next number. There are
-- at most so many that have
unfoldable pub free_number : List (List ℕ × TerminalState) → ℕ → ℕ → ℕ
free_number terminals zero number = number
free_number terminals (suc more) number =
    if is_given terminals (next_number number) then free_number terminals more (next_number number) else number

-- With one number, the number of the last task is put back to it, so that the next task gets the same each time; where
-- a task has that, it gets the first after it that none has.
abbrev pub numbered : Option ℕ → RegionState → RegionState
numbered None region = region
numbered (Some number) region =
    record region { counter = free_number region.terminals (length region.terminals) number }

-- an operator could press a key at the terminal: it has no task, or its task waits for input
pub record IsReady (region : RegionState) (name : List ℕ) : Type 0 where
  pub terminal : TerminalState
  pub there : terminal_of region name ≡ Some terminal
  pub activity : Activity
  pub is : IsActivity region terminal activity
  pub ready : is_ready activity ≡ true

-- the key is pressed, whatever it is answered, and the region settles
pub record Presses (choice : KeyLine) (from : RegionState) (passage : Passage) : Type 0 where
  pub ready : IsReady from choice.name
  pub between : RegionState
  pub takes : TakesKey from choice.name (input_from choice.aid choice.bytes) passage.reply between
  pub settles : Settles most_turns between passage.made passage.after

-- move number k from a region: it is at rest, and the choice with that number is pressed
pub record Chooses (choices : List KeyLine) (one_number : Option ℕ) (from : RegionState) (number : ℕ)
    (passage : Passage) : Type 0 where
  pub rest : IsAtRest from
  pub choice : KeyLine
  pub is : slice_get choices number ≡ Some choice
  pub presses : Presses choice (numbered one_number from) passage

-- what happens when a move is made; nothing where it can't be made
unfoldable pub ChoosesTo : List KeyLine → Option ℕ → RegionState → ℕ → Option Passage → Type 0
ChoosesTo choices one_number from number passage =
    MatchOption passage ((other : Passage) → Chooses choices one_number from number other → ⊥)
    (Chooses choices one_number from number)

-- a move leads from a state to a state: the region then; with one number, that is put back again, so that states which
-- differ in it alone are one
pub record Goes (choices : List KeyLine) (one_number : Option ℕ) (from : ChoicesState) (number : ℕ)
    (to : ChoicesState) : Type 0 where
  pub passage : Passage
  pub chooses : Chooses choices one_number from.region number passage
  pub leads : to.region ≡ numbered one_number passage.after

-- the state in which moves begin
abbrev pub begun : RegionState → ChoicesState
begun region = record { region = region }
