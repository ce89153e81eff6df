use Rattle.std.proofs.Common.{◌≡◌, ◌++◌}
use Rattle.std.specs.List.{flat_map}
use Rattle.cx_look_symbols.specs.Texts.{symbol_line}
use Rattle.cx_look_symbols.proofs.all.symbol_lines.Given as goal

abbrev pub invariant-loop-name : goal.invariant-loop-name
invariant-loop-name l =
    l.report ++ flat_map (symbol_line l.control l.program) l.name-iterator
    ≡ l.initial.report ++ flat_map (symbol_line l.control l.program) l.symbols.entries
