-- How far a search has come (own): the states that it found, in the order in which they were found, each with how it
-- was first come to.
use Rattle.std.specs.Prelude.{◌≡◌, ℕ, ◌+◌, ◌<◌, ◌≤◌, ◌⊎◌, List, Some, slice_get}
use Rattle.cx_search.specs.declared.found.Origin.{Origin}

-- the state is at that place
pub record IsAt {State : Type 0} (found : List (State × Origin)) (place : ℕ) (state : State) : Type 0 where
  pub origin : Origin
  pub there : slice_get found place ≡ Some (state, origin)

-- the state was found
pub record IsFound {State : Type 0} (found : List (State × Origin)) (state : State) : Type 0 where
  pub place : ℕ
  pub is : IsAt found place state

-- the move is before another, of a place before or with a lower number: the order in which moves are tried
abbrev pub IsBefore : ℕ → ℕ → ℕ → ℕ → Type 0
IsBefore place number at tried = (place < at) ⊎ ((place ≡ at) × (number < tried))

-- the state was come to by one move more than one before it
pub record ComesFrom {State : Type 0} (Goes : State → ℕ → State → Type 0) (found : List (State × Origin)) (place : ℕ)
    (state : State) (origin : Origin) : Type 0 where
  pub from : State
  pub by : Origin
  pub before : origin.from < place
  pub there : slice_get found origin.from ≡ Some (from, by)
  pub goes : Goes from origin.number state
  pub more : origin.moves ≡ by.moves + 1

-- the state was found, no later than by that move
pub record IsFoundBy {State : Type 0} (found : List (State × Origin)) (state : State) (at : ℕ) (number : ℕ)
    : Type 0 where
  pub place : ℕ
  pub origin : Origin
  pub there : slice_get found place ≡ Some (state, origin)
  pub soon : (place ≡ 0) ⊎ IsBefore origin.from origin.number at (number + 1)

-- What a search has found, once all moves from the first `done` states were tried, and `tried` of the next: each state
-- once, the first with no move, each other by a move from one before it, in the order of these moves; and where each
-- move leads that was tried.
pub record Searched {State : Type 0} (Goes : State → ℕ → State → Type 0) (found : List (State × Origin)) (done : ℕ)
    (tried : ℕ) : Type 0 where
  pub start : State
  pub first : Origin
  pub begins : slice_get found 0 ≡ Some (start, first)
  pub zero_moves : first.moves ≡ 0
  pub comes : (place : ℕ) (state : State) (origin : Origin) → 0 < place → slice_get found place ≡ Some (state, origin)
      → ComesFrom Goes found place state origin
  pub once : (one other : ℕ) (state : State) (o p : Origin) → slice_get found one ≡ Some (state, o)
      → slice_get found other ≡ Some (state, p) → one ≡ other
  pub sorted : (one other : ℕ) (s t : State) (o p : Origin) → 0 < one → one < other → slice_get found one ≡ Some (s, o)
      → slice_get found other ≡ Some (t, p) → IsBefore o.from o.number p.from p.number
  pub soon : (place : ℕ) (s : State) (o : Origin) → 0 < place → slice_get found place ≡ Some (s, o)
      → IsBefore o.from o.number done tried
  pub small : (place : ℕ) (s : State) (o : Origin) → slice_get found place ≡ Some (s, o) → o.moves ≤ place
  pub closed : (place number : ℕ) (s t : State) (o : Origin) → IsBefore place number done tried
      → slice_get found place ≡ Some (s, o) → Goes s number t → IsFoundBy found t place number
