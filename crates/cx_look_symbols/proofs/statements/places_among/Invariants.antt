use Rattle.std.proofs.Common.{◌≡◌, ◌++◌, drop}
use Rattle.std.specs.List.{filter_map}
use Rattle.cx_look_symbols.specs.Statements.{statement_place_of}
use Rattle.cx_look_symbols.proofs.statements.places_among.Given as goal

abbrev pub invariant-loop-statement : goal.invariant-loop-statement
invariant-loop-statement l =
    l.found.items ++ filter_map (statement_place_of l.control) (drop l.statement-index l.statements)
    ≡ filter_map (statement_place_of l.control) l.statements
