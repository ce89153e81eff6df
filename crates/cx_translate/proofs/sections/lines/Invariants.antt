use Rattle.std.proofs.Common.{◌≡◌, ◌++◌, drop}
use Rattle.cx_translate.specs.Sections.{lines}
use Rattle.cx_translate.proofs.sections.lines.Given as goal

abbrev pub invariant-loop-stmt : goal.invariant-loop-stmt
invariant-loop-stmt l = l.items.items ++ lines l.line (drop l.stmt-index l.made) ≡ lines l.line l.made
