use Rattle.std.proofs.Common.{◌≡◌, ◌++◌}
use Rattle.std.specs.List.{flat_map}
use Rattle.cx_look_fields.specs.KeptFields.{kept_row}
use Rattle.cx_look_fields.proofs.kept.KeptStorage.rows_lines.Given as goal

abbrev pub invariant-loop-name : goal.invariant-loop-name
invariant-loop-name l =
    let line = kept_row l.self.term l.self.readings.now l.self.at l.self.bytes.now in
    l.report ++ flat_map line l.name-iterator ≡ l.initial.report ++ flat_map line l.names.symbols.entries
