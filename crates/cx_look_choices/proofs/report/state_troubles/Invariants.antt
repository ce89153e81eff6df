use Rattle.std.proofs.Common.{◌≡◌, ◌+◌, ◌++◌, drop}
use Rattle.std.specs.List.{flat_map}
use Rattle.cx_look_choices.specs.Report.{trouble_lines}
use Rattle.cx_look_choices.proofs.report.state_troubles.Given as goal

abbrev pub invariant-loop-arrow : goal.invariant-loop-arrow
invariant-loop-arrow g l =
    l.report ++ flat_map (trouble_lines l.region (l.place + 1) l.shows) (drop l.arrow-index l.arrows)
    ≡ l.initial.report ++ flat_map (trouble_lines l.region (l.place + 1) l.shows) l.arrows
