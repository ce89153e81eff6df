use Rattle.std.proofs.Common.{◌≡◌, ◌++◌, map, take}
use Rattle.cx_look_tasks.specs.Commands.{condition_word}
use Rattle.cx_look_lines.specs.Words.{with_blanks}
use Rattle.cx_look_tasks.proofs.words.push_conditions.Given as goal

abbrev pub invariant-loop-listed : goal.invariant-loop-listed
invariant-loop-listed l = l.text.items ≡ l.initial.text.items ++ with_blanks (map condition_word (take l.listed-index l.conditions))
