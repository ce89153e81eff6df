-- The kinds of fault that a statement may have, and which of several is answered: the one with the lowest number (own).
use Rattle.std.specs.Prelude.{ℕ, nat_le, if◌then◌else◌, Option, Some, None, List, [], ◌∷◌, codes}
use Rattle.cx_asm_expressions.specs.declared.faults.FaultKind.{FaultKind}
use Rattle.cx_asm_expressions.specs.declared.faults.FaultKind.TheVariants.{UnknownOperation, UndefinedSymbol, DuplicateSymbol, NoAddressability, BadOperand, ValueOutOfRange, NotRelocatable, TooLarge}

-- a kind's number and its name, as text
abbrev pub fault_row : FaultKind → ℕ × List ℕ
fault_row UnknownOperation = (1, codes "UnknownOperation")
fault_row UndefinedSymbol = (2, codes "UndefinedSymbol")
fault_row DuplicateSymbol = (3, codes "DuplicateSymbol")
fault_row NoAddressability = (4, codes "NoAddressability")
fault_row BadOperand = (5, codes "BadOperand")
fault_row ValueOutOfRange = (6, codes "ValueOutOfRange")
fault_row NotRelocatable = (7, codes "NotRelocatable")
fault_row TooLarge = (8, codes "TooLarge")

-- the one of two with the lower number
abbrev pub lower_of : FaultKind → FaultKind → FaultKind
lower_of one other = if nat_le (fault_row one).0 (fault_row other).0 then one else other

-- the one of two faults with the lower number, where there is any
abbrev pub lower : Option FaultKind → Option FaultKind → Option FaultKind
lower None other = other
lower (Some one) None = Some one
lower (Some one) (Some other) = Some (lower_of one other)

-- the one of a list with the lowest number, where there is any
abbrev pub lowest : List (Option FaultKind) → Option FaultKind
lowest [] = None
lowest (fault ∷ faults) = lower fault (lowest faults)
