use Rattle.std.proofs.Common.{◌≡◌, ◌++◌, take}
use Rattle.std.specs.List.{flat_map}
use Rattle.cx_look_storage.specs.Uses.{area_line}
use Rattle.cx_look_storage.proofs.areas.area_lines.Given as goal

abbrev pub invariant-loop-area : goal.invariant-loop-area
invariant-loop-area g l = l.report ≡ l.initial.report ++ flat_map (area_line l.region) (take l.area-index l.areas)
