use Rattle.std.proofs.Common.{◌≡◌, ◌++◌}
use Rattle.std.specs.List.{flat_map}
use Rattle.cx_look_fields.specs.Addresses.{terminal_field_lines}
use Rattle.cx_look_fields.proofs.wheres.SoughtAddress.all_lines.Given as goal

abbrev pub invariant-loop-term : goal.invariant-loop-term
invariant-loop-term l =
    let line = terminal_field_lines l.self.programs.now.entries l.self.sources.now l.self.address in
    l.report ++ flat_map line l.term-iterator ≡ l.initial.report ++ flat_map line l.terminals.entries
