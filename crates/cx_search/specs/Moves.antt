-- Moves between states, and lists of them (this product's own).
use Rattle.std.specs.Prelude.{◌≡◌, ℕ, ◌<◌, ◌⊎◌, List, [], ◌∷◌, Option, MatchOption, length}

-- of two lists, that it has the lower number at the first place where they differ
abbrev pub IsLower : List ℕ → List ℕ → Type 0
IsLower [] ys = ⊥
IsLower (x ∷ xs) [] = ⊥
IsLower (x ∷ xs) (y ∷ ys) = (x < y) ⊎ ((x ≡ y) × IsLower xs ys)

-- of two lists, that it is shorter, or as long and lower
abbrev pub IsSooner : List ℕ → List ℕ → Type 0
IsSooner xs ys = (length xs < length ys) ⊎ ((length xs ≡ length ys) × IsLower xs ys)

module _ {State : Type 0} (Goes : State → ℕ → State → Type 0) where
  -- a move leads to that state, and to no other
  pub record GoesOnly (from : State) (number : ℕ) (to : State) : Type 0 where
    pub goes : Goes from number to
    pub only : (other : State) → Goes from number other → other ≡ to

  -- where a move leads; nowhere where it can't be made
  unfoldable pub GoesTo : State → ℕ → Option State → Type 0
  GoesTo from number to = MatchOption to ((t : State) → Goes from number t → ⊥) (GoesOnly from number)

  -- a move, and then what is said of the state between
  pub record After (Rest : State → Type 0) (from : State) (number : ℕ) : Type 0 where
    pub between : State
    pub goes : Goes from number between
    pub rest : Rest between

  -- a list of moves leads from a state to a state
  unfoldable pub Leads : State → List ℕ → State → Type 0
  Leads from [] to = to ≡ from
  Leads from (number ∷ numbers) to = After (λ between. Leads between numbers to) from number

  -- of the lists that lead from a state to a state, the soonest
  pub record IsFirst (from : State) (moves : List ℕ) (to : State) : Type 0 where
    pub leads : Leads from moves to
    pub soonest : (other : List ℕ) → Leads from other to → (moves ≡ other) ⊎ IsSooner moves other
