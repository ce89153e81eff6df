use Rattle.std.proofs.Common.{◌≡◌, ◌++◌, drop}
use Rattle.std.specs.List.{filter_map}
use Rattle.cx_asm_pass2.specs.Statements.{stated_in}
use Rattle.cx_asm_pass2.proofs.statements.stated.Given as goal

abbrev pub invariant-loop-line : goal.invariant-loop-line
invariant-loop-line l = l.found.items ++ filter_map stated_in (drop l.line-index l.placed) ≡ filter_map stated_in l.placed
