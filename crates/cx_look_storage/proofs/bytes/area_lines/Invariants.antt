use Rattle.std.proofs.Common.{◌≡◌, ◌++◌, take}
use Rattle.std.specs.List.{flat_map}
use Rattle.cx_look_storage.specs.Uses.{met_line}
use Rattle.cx_look_storage.proofs.bytes.area_lines.Given as goal

abbrev pub invariant-loop-area : goal.invariant-loop-area
invariant-loop-area g l = l.report ≡ l.initial.report ++ flat_map (met_line l.region l.address) (take l.area-index l.areas)
