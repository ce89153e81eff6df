-- The line of the statement whose bytes hold an offset in a program (own).
use Rattle.std.specs.Prelude.{ℕ, Bool, nat_le, nat_lt, ◌&&◌, Option, option_and_then, option_map, List}
use Rattle.std.specs.List.{find}
use Rattle.std.specs.Map.{lookup}
use Rattle.cx_asm_expressions.specs.Names.{is_same}
use Rattle.cx_look_symbols.specs.declared.statements.StatementPlace.{StatementPlace}

abbrev pub has_offset : ℕ → StatementPlace → Bool
has_offset offset place = nat_le place.start offset && nat_lt offset place.end

-- the line of the first that holds it
abbrev pub line_at : List StatementPlace → ℕ → Option ℕ
line_at places offset = option_map (λ place. place.line) (find (has_offset offset) places)

-- the statements of the programs that a source defined, by their names
abbrev pub SourcePlaces : Type 0
SourcePlaces = List (List ℕ × List StatementPlace)

-- the line of an offset in a program; none where no source defined the program, or no statement holds the offset
abbrev pub line_in : SourcePlaces → List ℕ → ℕ → Option ℕ
line_in sources program offset = option_and_then (λ places. line_at places offset) (lookup (is_same program) sources)
