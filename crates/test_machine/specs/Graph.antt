-- A graph of places with two moves each (own).
use Rattle.std.specs.Prelude.{◌≡◌, ◌==◌, ℕ, if◌then◌else◌, List, Option, Some, None, option_and_then, slice_get}
use Rattle.test_machine.specs.declared.graph.Row.{Row}

abbrev pub move_of : Row → ℕ → Option ℕ
move_of row number = if number == 0 then row.zero else if number == 1 then row.one else None

-- where a move leads
abbrev pub edge_of : List Row → ℕ → ℕ → Option ℕ
edge_of rows from number = option_and_then (λ row. move_of row number) (slice_get rows from)

abbrev pub Edge : List Row → ℕ → ℕ → ℕ → Type 0
Edge rows from number to = edge_of rows from number ≡ Some to
