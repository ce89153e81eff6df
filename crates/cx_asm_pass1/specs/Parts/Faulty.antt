-- A line's fault as an entry of a table (own).
use Rattle.std.specs.Prelude.{ℕ, List, nat_eq}
use Rattle.std.specs.Map.{lookup}
use Rattle.std.specs.Option.{option_map_or}
use Rattle.cx_asm_expressions.specs.declared.faults.FaultKind.{FaultKind}
use Rattle.cx_asm_expressions.specs.Faults.{lower_of}

-- the lower one of a line's fault in the table and a second one
abbrev pub lowest_with : ℕ → FaultKind → List (ℕ × FaultKind) → FaultKind
lowest_with line kind entries = option_map_or (λ first. lower_of first kind) (lookup (nat_eq line) entries) kind
