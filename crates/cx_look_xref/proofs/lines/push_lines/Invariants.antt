use Rattle.std.proofs.Common.{◌≡◌, ◌++◌, drop, map}
use Rattle.cx_look_lines.specs.Words.{with_blanks}
use Rattle.cx_look_xref.specs.Texts.{use_line_word}
use Rattle.cx_look_xref.proofs.lines.push_lines.Given as goal

abbrev pub invariant-loop-line : goal.invariant-loop-line
invariant-loop-line l =
    l.text.items ++ with_blanks (map (use_line_word l.storing) (drop l.line-index l.lines))
    ≡ l.initial.text.items ++ with_blanks (map (use_line_word l.storing) l.lines)
