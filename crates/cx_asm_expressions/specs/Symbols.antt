-- The values of symbols, terms and expressions, and the table of symbols (GC33-4010, "Symbols" and "Symbol Table").
use Rattle.std.specs.Prelude.{◌≡◌, ℕ, ℤ, if◌then◌else◌, Option, Some, None, List}
use Rattle.std.specs.Map.{lookup}
use Rattle.cx_asm_expressions.specs.Names.{is_same}
use Rattle.cx_asm_expressions.specs.declared.values.Value.{Value}

-- a number that is in no section, with the length attribute 1
abbrev pub absolute : ℤ → Value
absolute number = record { section = None; number = number; length = 1 }

-- the symbols, each with its value
abbrev pub Symbols : Type 0
Symbols = List (List ℕ × Value)

-- the value of the symbol of a name
abbrev pub find_in : Symbols → List ℕ → Option Value
find_in symbols name = lookup (is_same name) symbols

-- The name has this value now, and every other what it had.
abbrev pub Defines : Symbols → List ℕ → Value → Symbols → Type 0
Defines old name value new =
    (other : List ℕ) → find_in new other ≡ (if is_same name other then Some value else find_in old other)
