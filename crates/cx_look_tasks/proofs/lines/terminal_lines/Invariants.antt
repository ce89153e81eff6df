use Rattle.std.proofs.Common.{◌≡◌, ◌++◌, drop}
use Rattle.cx_look_tasks.specs.Parts.Words.{line_of}
use Rattle.cx_look_tasks.specs.Tasks.{of_each}
use Rattle.cx_look_tasks.proofs.lines.terminal_lines.Given as goal

abbrev pub invariant-loop-i : goal.invariant-loop-i
invariant-loop-i g l =
    l.report ++ of_each (line_of l.region l.line) (drop l.i l.region.terminals) (drop l.i l.activities)
    ≡ l.initial.report ++ of_each (line_of l.region l.line) l.region.terminals l.activities
