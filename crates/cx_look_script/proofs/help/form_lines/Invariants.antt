use Rattle.std.proofs.Common.{◌≡◌, ◌++◌, take}
use Rattle.cx_look_script.specs.Help.{form_lines}
use Rattle.cx_look_script.proofs.help.form_lines.Given as goal

abbrev pub invariant-loop-subject : goal.invariant-loop-subject
invariant-loop-subject l = l.report ≡ l.initial.report ++ form_lines (take l.subject-index l.subjects)
