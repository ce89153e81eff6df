-- What the lowest of several faults is.
use Rattle.std.specs.Prelude.{◌≡◌, ◌≤◌, Option, Some, None, List, Contains}
use Rattle.std.specs.List.{AllByRecursion}
use Rattle.cx_asm_expressions.specs.Faults.{fault_row}
use Rattle.cx_asm_expressions.specs.declared.faults.FaultKind.{FaultKind}

-- no fault with a lower number
abbrev pub IsNotBelow : FaultKind → Option FaultKind → Type 0
IsNotBelow fault None = Unit {0}
IsNotBelow fault (Some other) = (fault_row fault).0 ≤ (fault_row other).0

-- Of a list the lowest fault is one of its faults, and none has a lower number; where there is none the list has none.
abbrev pub IsLowest : List (Option FaultKind) → Option FaultKind → Type 0
IsLowest faults None = AllByRecursion (λ fault. fault ≡ None) faults
IsLowest faults (Some fault) = AllByRecursion (IsNotBelow fault) faults × Contains faults (Some fault)
