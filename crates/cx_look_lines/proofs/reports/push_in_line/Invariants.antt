use Rattle.std.proofs.Common.{◌≡◌, ◌++◌, drop}
use Rattle.std.specs.List.{filter}
use Rattle.cx_look_lines.specs.Words.{is_in_line}
use Rattle.cx_look_lines.proofs.reports.push_in_line.Given as goal

abbrev pub invariant-loop-c : goal.invariant-loop-c
invariant-loop-c l = l.text.items ++ filter is_in_line (drop l.c-index l.line) ≡ l.initial.text.items ++ filter is_in_line l.line
