use Rattle.std.proofs.Common.{◌≡◌, ◌++◌, drop}
use Rattle.std.specs.List.{flat_map}
use Rattle.cx_look_choices.specs.Report.{arrow_lines}
use Rattle.cx_look_choices.proofs.report.all_arrow_lines.Given as goal

abbrev pub invariant-loop-arrow : goal.invariant-loop-arrow
invariant-loop-arrow g l =
    l.report ++ flat_map (arrow_lines l.region) (drop l.arrow-index l.arrows) ≡ l.initial.report ++ flat_map (arrow_lines l.region) l.arrows
