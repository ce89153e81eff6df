use Rattle.std.proofs.Common.{◌≡◌, ◌++◌, drop}
use Rattle.std.specs.List.{flat_map}
use Rattle.cx_look_steps.specs.Script.{off_line}
use Rattle.cx_look_steps.proofs.script.off_lines.Given as goal

abbrev pub invariant-loop-name : goal.invariant-loop-name
invariant-loop-name l = l.report ++ flat_map off_line (drop l.name-index l.edf) ≡ l.initial.report ++ flat_map off_line l.edf
