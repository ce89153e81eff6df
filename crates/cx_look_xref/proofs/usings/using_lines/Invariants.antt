use Rattle.std.proofs.Common.{◌≡◌, ◌++◌, drop}
use Rattle.cx_asm_pass2.specs.Whole.{whole_by}
use Rattle.cx_look_xref.specs.Texts.{usings_from}
use Rattle.cx_look_xref.proofs.usings.using_lines.Given as goal

abbrev pub invariant-loop-i : goal.invariant-loop-i
invariant-loop-i l =
    l.report ++ usings_from (whole_by l.places) l.last (drop l.i l.statements)
    ≡ l.initial.report ++ usings_from (whole_by l.places) l.last l.statements
