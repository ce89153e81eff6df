use Rattle.std.proofs.Common.{◌≡◌, ◌+◌, ◌++◌, drop}
use Rattle.cx_base.specs.Pages.{lines_from}
use Rattle.cx_base.proofs.pages.push_lines.Given as goal

abbrev pub invariant-loop-i : goal.invariant-loop-i
invariant-loop-i l = l.text.items ++ lines_from (l.i + 1) (drop l.i l.lines) ≡ l.initial.text.items ++ lines_from 1 l.lines
