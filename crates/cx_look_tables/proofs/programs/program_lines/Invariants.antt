use Rattle.std.proofs.Common.{◌≡◌, ◌++◌}
use Rattle.std.specs.List.{flat_map}
use Rattle.cx_look_tables.specs.Programs.{program_line}
use Rattle.cx_look_tables.proofs.programs.program_lines.Given as goal

abbrev pub invariant-loop-name : goal.invariant-loop-name
invariant-loop-name l =
    l.report ++ flat_map (program_line l.transactions.entries) l.name-iterator
    ≡ l.initial.report ++ flat_map (program_line l.transactions.entries) l.programs.entries
