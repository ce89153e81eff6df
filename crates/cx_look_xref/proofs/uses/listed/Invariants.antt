use Rattle.std.proofs.Common.{◌≡◌, ◌++◌}
use Rattle.cx_look_xref.proofs.uses.listed.Given as goal

abbrev pub invariant-loop-line : goal.invariant-loop-line
invariant-loop-line l = l.list.items ++ l.line-iterator ≡ l.fn.lines.keys
