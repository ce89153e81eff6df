use Rattle.std.proofs.Common.{◌≡◌, ◌++◌, drop}
use Rattle.cx_look_tasks.specs.Commands.{input_lines}
use Rattle.cx_look_tasks.proofs.words.input_lines.Given as goal

abbrev pub invariant-loop-option : goal.invariant-loop-option
invariant-loop-option g l = l.report ++ input_lines (g.S.Store.storage l.store) l.call (drop l.option-index l.options) ≡ l.initial.report ++ input_lines (g.S.Store.storage l.store) l.call l.options
