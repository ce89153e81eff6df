-- What is put over a region, so that it has another state.
use Rattle.std.specs.Prelude.{◌≡◌, ◌<◌, ◌≤◌, ℕ, List, [], ◌∷◌, Option, None, Some, fold, length, slice_get}
use Rattle.std.specs.List.{AllByRecursion}
use Rattle.cx_storage.specs.Storage.{areas_of}
use Rattle.cx_region.specs.Changes.{HaveRoomFor, IsNumberIn, IsPlaceFor, with_changes, with_terminals_made, with_terminal}
use Rattle.cx_region.specs.State.{RegionState, TerminalState}
use Rattle.cx_region.specs.declared.parts.ChangedParts.{ChangedParts}
use Rattle.cx_region.specs.declared.parts.ChangedTerminal.{ChangedTerminal}

-- the first so many terminals are places for those that are kept, and the others are as they were
pub record HaveRoomTo (there made kept : List (List ℕ × TerminalState)) (many : ℕ) : Type 0 where
  pub long : length made ≡ length there
  pub each : (i : ℕ) (one other : List ℕ × TerminalState) → i < many → slice_get made i ≡ Some one
      → slice_get kept i ≡ Some other → IsPlaceFor one other
  pub others : (i : ℕ) → many ≤ i → slice_get made i ≡ slice_get there i

-- terminals that are put in the places of some of those that are there, so that the first so many have room for those
-- that are kept
pub record ArePut (there kept : List (List ℕ × TerminalState)) (changes : List ChangedTerminal) (many : ℕ)
    : Type 0 where
  pub numbers : AllByRecursion (IsNumberIn there) changes
  pub room : HaveRoomTo there (fold with_terminal there changes) kept many

-- so that all have room
pub record MakeRoom (there kept : List (List ℕ × TerminalState)) (changes : List ChangedTerminal) : Type 0 where
  pub numbers : AllByRecursion (IsNumberIn there) changes
  pub room : HaveRoomFor (fold with_terminal there changes) kept

-- the terminal with its number, where one is given
abbrev pub changed_at : ℕ → Option TerminalState → List ChangedTerminal
changed_at number None = []
changed_at number (Some terminal) = record { number = number; terminal = terminal } ∷ []

-- parts that are put over a region, so that it has that state
pub record Becomes (region state : RegionState) (parts : ChangedParts) : Type 0 where
  pub areas : areas_of region.shared.storage ≡ areas_of state.shared.storage
  pub numbers : AllByRecursion (IsNumberIn region.terminals) parts.terminals.items
  pub room : HaveRoomFor (with_terminals_made region parts) state.terminals
  pub all : with_changes region state.shared.storage state.terminals parts ≡ state
