use Rattle.std.proofs.Common.{◌≡◌, ◌++◌, drop}
use Rattle.std.specs.Prelude.{None}
use Rattle.std.specs.List.{filter_map}
use Rattle.cx_look_cover.specs.Statements.{first_on_lines, instruction_place_of}
use Rattle.cx_look_cover.proofs.statements.instructions_among.Given as goal

-- those so far, and those from the last one's line on
abbrev pub invariant-loop-statement : goal.invariant-loop-statement
invariant-loop-statement l =
    l.found.items
    ++ first_on_lines l.line (filter_map (instruction_place_of l.control) (drop l.statement-index l.statements))
    ≡ first_on_lines None (filter_map (instruction_place_of l.control) l.statements)
