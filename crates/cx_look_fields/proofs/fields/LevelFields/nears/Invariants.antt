use Rattle.std.proofs.Common.{◌≡◌, ◌++◌}
use Rattle.std.specs.List.{filter_map}
use Rattle.cx_look_fields.specs.Addresses.{near_field}
use Rattle.cx_look_fields.proofs.fields.LevelFields.nears.Given as goal

abbrev pub invariant-loop-name : goal.invariant-loop-name
invariant-loop-name l =
    let near = near_field l.address l.self.regs l.self.bases l.self.named.control in
    l.nears.items ++ filter_map near l.name-iterator ≡ filter_map near l.self.named.rows
