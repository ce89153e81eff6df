use Rattle.std.proofs.Common.{◌≡◌, ◌++◌, drop}
use Rattle.std.specs.List.{flat_map}
use Rattle.cx_look_cover.specs.Texts.{branch_line}
use Rattle.cx_look_cover.proofs.texts.branch_lines.Given as goal

abbrev pub invariant-loop-it : goal.invariant-loop-it
invariant-loop-it l =
    l.report ++ flat_map (branch_line l.lines) (drop l.it-index l.counted) ≡ l.initial.report ++ flat_map (branch_line l.lines) l.counted
