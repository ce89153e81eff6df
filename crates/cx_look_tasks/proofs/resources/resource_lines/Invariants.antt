use Rattle.std.proofs.Common.{◌≡◌, ◌++◌}
use Rattle.std.specs.List.{flat_map}
use Rattle.cx_look_tasks.specs.Tasks.{resource_lines}
use Rattle.cx_look_tasks.proofs.resources.resource_lines.Given as goal

abbrev pub invariant-loop-name : goal.invariant-loop-name
invariant-loop-name g l =
    l.report ++ flat_map (resource_lines l.region l.activities) l.name-iterator ≡ flat_map (resource_lines l.region l.activities) l.region.shared.resources
