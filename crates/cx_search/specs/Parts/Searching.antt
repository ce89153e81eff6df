-- The vocabulary of private functions (own): a search while it goes on, and one that was cut.
use Rattle.std.specs.Prelude.{◌≡◌, ℕ, ◌<◌, ◌≤◌, List, Some, length, slice_get}
use Rattle.cx_search.specs.declared.found.Origin.{Origin}
use Rattle.cx_search.specs.Found.{IsAt, Searched}
use Rattle.cx_search.specs.Nexts.{IsAmong, LeadsTo}

module _ {State : Type 0} (Goes : State → ℕ → State → Type 0) (found : List (State × Origin)) where
  -- the places that the first moves from a state lead to
  pub record AreFirstNexts (state : State) (tried : ℕ) (nexts : List ℕ) : Type 0 where
    pub each : (index to : ℕ) → slice_get nexts index ≡ Some to → LeadsTo Goes found state to
    pub all : (number : ℕ) (next : State) → number < tried → Goes state number next → IsAmong Goes found nexts next

-- A search was cut: a state isn't among those that were found, to which a move from the next one leads, and no more may
-- be.
pub record IsCut {State : Type 0} (Goes : State → ℕ → State → Type 0) (found : List (State × Origin)) (done : ℕ)
    (most : ℕ) : Type 0 where
  pub tried : ℕ
  pub searched : Searched Goes found done tried
  pub full : most ≤ length found
  pub from : State
  pub by : Origin
  pub at : slice_get found done ≡ Some (from, by)
  pub more : State
  pub goes : Goes from tried more
  pub new : (place : ℕ) → IsAt found place more → ⊥
