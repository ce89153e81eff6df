use Rattle.std.proofs.Common.{◌≡◌, ◌++◌, drop}
use Rattle.cx_look_tasks.specs.Commands.{option_words}
use Rattle.cx_look_lines.specs.Words.{with_blanks}
use Rattle.cx_look_tasks.proofs.words.push_options.Given as goal

abbrev pub invariant-loop-option : goal.invariant-loop-option
invariant-loop-option g l = l.text.items ++ with_blanks (option_words (g.S.Store.storage l.store) l.call (drop l.option-index l.options)) ≡ l.initial.text.items ++ with_blanks (option_words (g.S.Store.storage l.store) l.call l.options)
