-- The vocabulary of private functions (own): places that are marked by the places that moves lead to.
use Rattle.std.specs.Prelude.{◌≡◌, ℕ, nat_lt, not, ◌&&◌, suc, Bool, true, false, ◌||◌, ◌==◌, List, [], ◌∷◌, Some, length, get_or, slice_get}
use Rattle.std.specs.List.{list_all, list_any}
use Rattle.cx_search.specs.declared.found.Origin.{Origin}
use Rattle.cx_search.specs.declared.marks.Rule.{Rule}
use Rattle.cx_search.specs.declared.marks.Rule.TheVariants.{All, Any, To}
use Rattle.cx_search.specs.Forever.{CanRest, IsBounded}
use Rattle.cx_search.specs.Found.{IsAt}
use Rattle.cx_search.specs.Moves.{Leads}

abbrev pub is_marked : List Bool → ℕ → Bool
is_marked marks place = get_or marks place false

-- how many places aren't marked
abbrev pub unmarked : List Bool → ℕ
unmarked [] = 0
unmarked (true ∷ marks) = unmarked marks
unmarked (false ∷ marks) = suc (unmarked marks)

-- by the rule a place is to be marked: where one of those that moves lead to is, or none is led to; where all are; or
-- where one is, or is that place
abbrev pub is_due : Rule → List ℕ → List Bool → Bool
is_due Any nexts marks = (length nexts == 0) || list_any (is_marked marks) nexts
is_due All nexts marks = list_all (is_marked marks) nexts
is_due (To target) nexts marks = list_any (λ next. (next == target) || is_marked marks next) nexts

-- one move or more lead from a state to a state
pub record LeadsOn {State : Type 0} (Goes : State → ℕ → State → Type 0) (from to : State) : Type 0 where
  pub number : ℕ
  pub moves : List ℕ
  pub leads : Leads Goes from (number ∷ moves) to

-- what a mark says of a state
abbrev pub Says : {State : Type 0} → (State → ℕ → State → Type 0) → List (State × Origin) → Rule → State → Type 0
Says Goes found Any state = CanRest Goes state
Says Goes found All state = IsBounded Goes state
Says {State = State} Goes found (To target) state = (to : State) → IsAt found target to → LeadsOn Goes state to

-- each mark is right
abbrev pub AreRight : {State : Type 0} → (State → ℕ → State → Type 0) → List (State × Origin) → Rule → List Bool
    → Type 0
AreRight {State = State} Goes found rule marks =
    (place : ℕ) (state : State) → is_marked marks place ≡ true → IsAt found place state → Says Goes found rule state

-- no more are due
abbrev pub AreStable : List (List ℕ) → Rule → List Bool → Type 0
AreStable links rule marks =
    (place : ℕ) (nexts : List ℕ) → slice_get links place ≡ Some nexts → is_marked marks place ≡ false
    → is_due rule nexts marks ≡ false

-- the place is below a limit, and isn't marked
abbrev pub is_free : List Bool → ℕ → ℕ → Bool
is_free marks most place = nat_lt place most && not (is_marked marks place)

-- the state at the place that is come to, to which moves lead on from each place that was seen
pub record IsComeTo {State : Type 0} (Goes : State → ℕ → State → Type 0) (found : List (State × Origin))
    (seen : List Bool) (place : ℕ) : Type 0 where
  pub state : State
  pub at : IsAt found place state
  pub on : (other : ℕ) (from : State) → is_marked seen other ≡ true → IsAt found other from → LeadsOn Goes from state
