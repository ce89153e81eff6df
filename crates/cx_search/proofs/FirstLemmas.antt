-- The first of some places.
use Rattle.std.proofs.Common.{◌≡◌, ℕ, ◌<◌, inl, inr, List, arith}
use Rattle.std.proofs.lemmas.Bool.{cases_lt}
use Rattle.cx_search.specs.declared.found.Origin.{Origin}
use Rattle.cx_search.specs.Found.{IsAt}
use Rattle.cx_search.specs.Forever.{IsFirstPlaceOf, Loops}

-- of two first places
pub first_place_one : {State : Type 0} (Holds : State → Type 0) (found : List (State × Origin)) (one other : ℕ) → IsFirstPlaceOf Holds found one
    → IsFirstPlaceOf Holds found other → one ≡ other
first_place_one Holds found one other f g = elim (cases_lt one other) [
  | inl less ↦ absurd (g.first one f.is.state less f.is.at f.is.is)
  | inr more ↦ elim (cases_lt other one) [
    | inl less ↦ absurd (f.first other g.is.state less g.is.at g.is.is)
    | inr few ↦ omega (arith, more, few)
  ]
]

-- one that loops, before which none does
pub first_loop : {State : Type 0} (Goes : State → ℕ → State → Type 0) (found : List (State × Origin)) (place : ℕ) (state : State) → IsAt found place state
    → Loops Goes state → ((other : ℕ) (s : State) → other < place → IsAt found other s → Loops Goes s → ⊥) → IsFirstPlaceOf (Loops Goes) found place
first_loop Goes found place state at loops first = record { is = record { state = state; at = at; is = loops }; first = first }
