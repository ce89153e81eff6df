-- Laws of lists of moves: which of two is sooner, where one leads, and which leads there first.
use Rattle.std.specs.Prelude.{◌≡◌, ℕ, ◌⊎◌, List}
use Rattle.cx_search.specs.declared.found.Origin.{Origin}
use Rattle.cx_search.specs.Forever.{CanRest, IsBounded, IsFirstPlaceOf, IsLong, Loops}
use Rattle.cx_search.specs.Moves.{IsFirst, IsSooner, Leads}
use Rattle.cx_search.specs.Within.{Reaches}
use Rattle.cx_search.specs.declared.within.Reach.{Reach}

-- of two lists one is the sooner, or they are equal; and so in a row
pub record SoonerOrders : Type 0 where
  pub either : (xs ys : List ℕ) → (xs ≡ ys) ⊎ (IsSooner xs ys ⊎ IsSooner ys xs)
  pub not_self : (xs : List ℕ) → IsSooner xs xs → ⊥
  pub onward : (xs ys zs : List ℕ) → IsSooner xs ys → IsSooner ys zs → IsSooner xs zs

module _ {State : Type 0} (Goes : State → ℕ → State → Type 0) where
  -- one list leads there first
  abbrev pub FirstIsOne : Type 0
  FirstIsOne =
      (from to : State) (one other : List ℕ) → IsFirst Goes from one to → IsFirst Goes from other to → one ≡ other

  -- where a list leads to a state that is come to again from itself, there are lists of any length
  abbrev pub LoopsLeadOn : Type 0
  LoopsLeadOn =
      (from to : State) (moves : List ℕ) → Leads Goes from moves to → Loops Goes to → (least : ℕ)
      → IsLong Goes from least

  -- so no number bounds them
  abbrev pub BoundedNeverLoop : Type 0
  BoundedNeverLoop =
      (from to : State) (moves : List ℕ) → IsBounded Goes from → Leads Goes from moves to → Loops Goes to → ⊥

  -- the first place of a state that is come to again from itself is one, and that of a state from which no rest can be
  -- come to
  pub record FirstPlacesDecide : Type 0 where
    pub looping : (found : List (State × Origin)) (one other : ℕ) → IsFirstPlaceOf (Loops Goes) found one
        → IsFirstPlaceOf (Loops Goes) found other → one ≡ other
    pub restless : (found : List (State × Origin)) (one other : ℕ)
        → IsFirstPlaceOf (λ state. CanRest Goes state → ⊥) found one
        → IsFirstPlaceOf (λ state. CanRest Goes state → ⊥) found other → one ≡ other

  -- how far a search within so many moves came is one
  abbrev pub ReachesDecide : Type 0
  ReachesDecide =
      (start : State) (found : List (State × Origin)) (links : List (List ℕ)) (most moves : ℕ) (one other : Reach)
      → Reaches Goes start found links most moves one → Reaches Goes start found links most moves other → one ≡ other
