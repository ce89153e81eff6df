use Rattle.std.proofs.Common.{◌≡◌, ◌++◌}
use Rattle.std.specs.List.{flat_map, range_with_len}
use Rattle.cx_look_fields.specs.Addresses.{level_lines_at}
use Rattle.cx_look_fields.proofs.wheres.SoughtAddress.task_field_lines.Given as goal

abbrev pub invariant-loop-k : goal.invariant-loop-k
invariant-loop-k l =
    let lines = level_lines_at l.self.programs.now.entries l.self.sources.now l.self.address l.term l.task in
    l.report ≡ l.initial.report ++ flat_map lines (range_with_len 1 l.k)
