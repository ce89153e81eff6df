-- What a region keeps, with other parts put in the place of some of it (this product's own).
use Rattle.std.specs.Prelude.{◌≡◌, ℕ, ◌<◌, List, Some, IsSome, fold, length, slice_get, unwrap_or}
use Rattle.indexmap.specs.IndexMap.{set_value_at}
use Rattle.cx_storage.specs.Storage.{Storage}
use Rattle.cx_region.specs.State.{RegionState, TerminalState}
use Rattle.cx_region.specs.declared.parts.ChangedTerminal.{ChangedTerminal}
use Rattle.cx_region.specs.declared.parts.ChangedParts.{ChangedParts}

-- the terminal is put in the place of one that is there
abbrev pub IsNumberIn : List (List ℕ × TerminalState) → ChangedTerminal → Type 0
IsNumberIn terminals change = change.number < length terminals

abbrev pub with_terminal : List (List ℕ × TerminalState) → ChangedTerminal → List (List ℕ × TerminalState)
with_terminal terminals change = set_value_at terminals change.number change.terminal

-- A terminal that takes the state of another without memory: its input and what its next key attaches are the same, and
-- it has a task where the other has one.
pub record HasRoomFor (there kept : TerminalState) : Type 0 where
  pub input : there.entry.input ≡ kept.entry.input
  pub following : there.entry.following ≡ kept.entry.following
  pub task : IsSome kept.task → IsSome there.task

-- one has the other's name, and room for it
abbrev pub IsPlaceFor : List ℕ × TerminalState → List ℕ × TerminalState → Type 0
IsPlaceFor there kept = (there.0 ≡ kept.0) × HasRoomFor there.1 kept.1

-- terminals are as many as others, and each is a place for the other at the same place
pub record HaveRoomFor (there kept : List (List ℕ × TerminalState)) : Type 0 where
  pub long : length there ≡ length kept
  pub each : (i : ℕ) (one other : List ℕ × TerminalState) → slice_get there i ≡ Some one
      → slice_get kept i ≡ Some other → IsPlaceFor one other

-- the terminals, those that are made anew put in their places
abbrev pub with_terminals_made : RegionState → ChangedParts → List (List ℕ × TerminalState)
with_terminals_made region parts = fold with_terminal region.terminals parts.terminals.items

abbrev pub with_changes : RegionState → Storage → List (List ℕ × TerminalState) → ChangedParts → RegionState
with_changes region storage terminals parts =
    record {
      shared = record region.shared {
        storage = storage;
        queues = unwrap_or parts.queues region.shared.queues;
        resources = unwrap_or parts.enqueues region.shared.resources;
      };
      time = parts.time;
      date = parts.date;
      transactions = region.transactions;
      terminals = terminals;
      counter = parts.counter;
    }
