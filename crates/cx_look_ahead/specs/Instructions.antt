-- AHEAD: how the instructions that a terminal's next turn will come to are written (own).
use Rattle.std.specs.Prelude.{ℕ, Option, Some, None, List, [], ◌∷◌, ◌++◌, codes}
use Rattle.std.specs.Fmt.{decimal}
use Rattle.std.specs.List.{flat_map}
use Rattle.std.specs.Option.{option_map_or}
use Rattle.cx_base.specs.Digits.{hex_digits}
use Rattle.cx_load.specs.declared.program.Loaded.{Loaded}
use Rattle.cx_look_lines.specs.Words.{Lines, look_line}
use Rattle.cx_look_symbols.specs.Places.{address_word, place_at_address}
use Rattle.cx_look_symbols.specs.Sources.{Sources, led_by, statement_at}
use Rattle.cx_look_turn.specs.declared.traces.Trace.{Trace}
use Rattle.cx_look_turn.specs.declared.traces.Visit.{Visit}

-- ---- their number, and a line for each
-- its address and where it is, its bytes, and the statement
unfoldable pub visit_line : Sources → List (List ℕ × Loaded) → Visit → Lines
visit_line sources programs it =
    let place = place_at_address programs it.at in
    look_line
    (codes "INSTRUCTION" ∷ (address_word place ++ codes " " ++ option_map_or hex_digits it.code (codes "--")
    ++ led_by (codes " LINE ") (statement_at sources place.spot)) ∷ [])

unfoldable pub count_line : ℕ → Lines
count_line n = look_line (codes "INSTRUCTIONS" ∷ decimal n ∷ [])

abbrev pub trace_lines : Sources → List (List ℕ × Loaded) → Option Trace → Lines
trace_lines sources programs None = []
trace_lines sources programs (Some trace) =
    count_line trace.count ++ flat_map (visit_line sources programs) trace.last.items
