-- Symbols as the names that they are known by (GC33-4010, "Symbols").
use Rattle.std.specs.Prelude.{ℕ, Bool, if◌then◌else◌, Option, None, List}
use Rattle.cx_ebcdic.specs.Names.{padded_name, is_name as is_same_name}
use Rattle.cx_source.specs.Lines.{is_symbol_name}

-- whether two names, as bytes, are the same name
abbrev pub is_same : List ℕ → List ℕ → Bool
is_same = is_same_name

-- the name that a symbol is known by: 1 to 8 letters and digits, the first a letter
unfoldable pub symbol_name : List ℕ → Option (List ℕ)
symbol_name text = if is_symbol_name text then padded_name 8 text else None
