use Rattle.std.proofs.Common.{◌≡◌, ◌++◌, drop}
use Rattle.cx_look_steps.specs.Script.{comment_lines, comments_on}
use Rattle.cx_look_steps.proofs.script.comment_lines.Given as goal

abbrev pub invariant-loop-text : goal.invariant-loop-text
invariant-loop-text l =
    l.report ++ comments_on l.line.items (drop l.text-index l.others) ≡ l.initial.report ++ comment_lines l.texts
