-- Turns of terminals until none can act (this product's own).
use Rattle.std.specs.Prelude.{◌≡◌, ◌⊎◌, ℕ, ◌<◌, ◌≤◌, true, List, [], ◌∷◌, length, Some, slice_get}
use Rattle.cx_region.specs.State.{RegionState, TerminalState}
use Rattle.cx_region.specs.Turn.{TakesTurn}
use Rattle.cx_look_tasks.specs.Activities.{IsActivity, is_acting}
use Rattle.cx_look_tasks.specs.declared.activities.Activity.{Activity}
use Rattle.cx_choices.specs.declared.states.TurnMade.{TurnMade}

-- the terminal with that number, in the order of their definition, and that name can act
pub record CanAct (region : RegionState) (number : ℕ) (name : List ℕ) : Type 0 where
  pub terminal : TerminalState
  pub at : slice_get region.terminals number ≡ Some (name, terminal)
  pub activity : Activity
  pub is : IsActivity region terminal activity
  pub acts : is_acting activity ≡ true

-- no terminal can act
abbrev pub IsAtRest : RegionState → Type 0
IsAtRest region = (number : ℕ) (name : List ℕ) → CanAct region number name → ⊥

-- it is the first that can act
pub record IsFirstToAct (region : RegionState) (number : ℕ) (name : List ℕ) : Type 0 where
  pub acts : CanAct region number name
  pub first : (other : ℕ) (another : List ℕ) → other < number → CanAct region other another → ⊥

-- the first terminal that can act makes its turn; and then what is said of the region after it
pub record MakesTurn (Rest : RegionState → Type 0) (from : RegionState) (turn : TurnMade) : Type 0 where
  pub name : List ℕ
  pub first : IsFirstToAct from turn.number name
  pub between : RegionState
  pub takes : TakesTurn from name turn.reply between
  pub rest : Rest between

-- such turns, one after another
unfoldable pub MakesTurns : RegionState → List TurnMade → RegionState → Type 0
MakesTurns from [] after = after ≡ from
MakesTurns from (turn ∷ turns) after = MakesTurn (λ between. MakesTurns between turns after) from turn

-- a region settles by these turns: they are made until no terminal can act, or so many are made
pub record Settles (most : ℕ) (from : RegionState) (made : List TurnMade) (after : RegionState) : Type 0 where
  pub turns : MakesTurns from made after
  pub few : length made ≤ most
  pub ends : IsAtRest after ⊎ (length made ≡ most)

-- at most so many turns follow a key
abbrev pub most_turns : ℕ
most_turns = 4096
