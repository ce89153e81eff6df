-- The statements of a source's lines that have bytes (GC33-4010, "Assembler Listing").
use Rattle.std.specs.Prelude.{ℕ, ◌+◌, nat_lt, ◌&&◌, if◌then◌else◌, Option, Some, None, List, []}
use Rattle.std.specs.List.{filter_map}
use Rattle.std.specs.Option.{option_map_or}
use Rattle.cx_source.specs.declared.source.Source.{Source}
use Rattle.cx_asm_pools.specs.Pools.{cap}
use Rattle.cx_asm_pass1.specs.PassState.{is_control, role_in}
use Rattle.cx_asm_pass1.specs.Locations.{final_state}
use Rattle.cx_asm_pass2.specs.Statements.{PlacedStatement, statements_of}
use Rattle.cx_asm.specs.Listing.{object_length}
use Rattle.cx_look_symbols.specs.Placed.{placed_in}
use Rattle.cx_look_symbols.specs.declared.statements.StatementPlace.{StatementPlace}

-- a statement with `length` bytes from its offset on
abbrev pub place_with : PlacedStatement → ℕ → StatementPlace
place_with s length = record { start = cap s.place.offset; end = cap s.place.offset + cap length; line = s.line }

-- An instruction or a DC of the control section, with the bytes that are listed beside it; none where there is no byte.
abbrev pub statement_place_of : Option (List ℕ) → PlacedStatement → Option StatementPlace
statement_place_of control s =
    let length = object_length s (role_in s.stmt) in
    if is_control s.place.section control && nat_lt 0 length then Some (place_with s length) else None

-- those of a source in its order
abbrev pub places_in : Source → List StatementPlace
places_in source = filter_map (statement_place_of (final_state source).control) (statements_of source)

-- those of lines; none where these aren't a source without a fault
unfoldable pub statement_places : List (List ℕ) → List StatementPlace
statement_places lines = option_map_or places_in (placed_in lines) []
