-- The program levels of a task (Application Programmer's Reference Manual, SC33-0077, "Program Control"; HANDLE ABEND).
use Rattle.std.specs.Prelude.{◌≡◌, ◌<◌, ℕ, Bool, true, false, Option, Some, None, List, [], ◌∷◌, ◌++◌, is_some, reverse, slice_get}
use Rattle.std.specs.Option.{option_map_or}
use Rattle.cx_program.specs.declared.level.Level.{Level}
use Rattle.cx_program.specs.Entries.{label_on}

-- The current level, and the levels that called it one after another, the nearest first.
pub record Levels : Type 0 where
  pub callers : List Level
  pub current : Level

-- all levels, from the highest to the current one
abbrev pub all_levels : Levels → List Level
all_levels levels = reverse levels.callers ++ levels.current ∷ []

-- a level alone: the highest, and the current one
abbrev pub highest : Level → Levels
highest level = record { callers = []; current = level }

-- LINK: a level under the current one, which has called it
abbrev pub with_called_level : Levels → Level → Levels
with_called_level levels level = record { callers = levels.current ∷ levels.callers; current = level }

-- the levels with another as the current one
abbrev pub with_current : Levels → Level → Levels
with_current levels level = record levels { current = level }

-- the level's exit is on
abbrev pub has_exit : Level → Bool
has_exit level = is_some (label_on level.handles.active.exit)

-- there is a level at this index, and its exit is on
abbrev pub has_exit_at : List Level → ℕ → Bool
has_exit_at levels i = option_map_or has_exit (slice_get levels i) false

-- The nearest exit from the current level upward: on at that index, and at no greater one; or on at none.
unfoldable pub IsNearestExit : List Level → Option ℕ → Type 0
IsNearestExit levels None = (i : ℕ) → has_exit_at levels i ≡ false
IsNearestExit levels (Some i) = (has_exit_at levels i ≡ true) × ((j : ℕ) → i < j → has_exit_at levels j ≡ false)
