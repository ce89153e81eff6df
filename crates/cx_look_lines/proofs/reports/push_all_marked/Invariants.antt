use Rattle.std.proofs.Common.{◌≡◌, ◌++◌, take}
use Rattle.std.specs.List.{flat_map}
use Rattle.cx_look_lines.specs.Parts.Words.{marked_line}
use Rattle.cx_look_lines.proofs.reports.push_all_marked.Given as goal

abbrev pub invariant-loop-line : goal.invariant-loop-line
invariant-loop-line l = l.text.items ≡ l.initial.text.items ++ flat_map marked_line (take l.line-index l.lines)
