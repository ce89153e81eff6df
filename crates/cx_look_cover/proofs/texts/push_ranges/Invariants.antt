use Rattle.std.proofs.Common.{◌≡◌, ◌++◌, map, take}
use Rattle.cx_look_lines.specs.Words.{with_blanks}
use Rattle.cx_look_cover.specs.Texts.{range_word}
use Rattle.cx_look_cover.proofs.texts.push_ranges.Given as goal

abbrev pub invariant-loop-range : goal.invariant-loop-range
invariant-loop-range l = l.text.items ≡ l.initial.text.items ++ with_blanks (map range_word (take l.range-index l.ranges))
