use Rattle.std.proofs.Common.{◌≡◌, ◌++◌, drop}
use Rattle.std.specs.List.{flat_map}
use Rattle.cx_look_steps.specs.Incidents.{incident_line}
use Rattle.cx_look_steps.proofs.incidents.incident_lines.Given as goal

abbrev pub invariant-loop-one : goal.invariant-loop-one
invariant-loop-one g l =
    l.report ++ flat_map (incident_line l.region) (drop l.one-index l.incidents) ≡ l.initial.report ++ flat_map (incident_line l.region) l.incidents
