use Rattle.std.proofs.Common.{◌≡◌, ◌++◌}
use Rattle.std.specs.List.{flat_map}
use Rattle.cx_look_tables.specs.Terminals.{terminal_line}
use Rattle.cx_look_tables.proofs.terminals.terminal_lines.Given as goal

abbrev pub invariant-loop-name : goal.invariant-loop-name
invariant-loop-name g l =
    l.report ++ flat_map (terminal_line l.state.sessions) l.name-iterator
    ≡ l.initial.report ++ flat_map (terminal_line l.state.sessions) l.region.terminals
