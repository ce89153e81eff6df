use Rattle.std.proofs.Common.{◌≡◌, ◌++◌}
use Rattle.std.specs.List.{flat_map}
use Rattle.cx_look_xref.specs.Parts.Uses.{lines_of_name}
use Rattle.cx_look_xref.specs.Texts.{name_line}
use Rattle.cx_look_xref.proofs.symbols.NameLines.name_lines.Given as goal

abbrev pub invariant-loop-name : goal.invariant-loop-name
invariant-loop-name l =
    let line = name_line (lines_of_name l.self.stored.now.entries) (lines_of_name l.self.used.now.entries) l.self.given.now in
    l.report ++ flat_map line l.name-iterator ≡ l.initial.report ++ flat_map line l.symbols.entries
