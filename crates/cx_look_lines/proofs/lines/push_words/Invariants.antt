use Rattle.std.proofs.Common.{◌≡◌, ◌++◌, map, take}
use Rattle.cx_look_lines.specs.Words.{with_blanks}
use Rattle.cx_look_lines.proofs.lines.push_words.Given as goal

abbrev pub invariant-loop-word : goal.invariant-loop-word
invariant-loop-word l = l.text.items ≡ l.initial.text.items ++ with_blanks (map (λ word. word.now) (take l.word-index l.words))
