use Rattle.std.proofs.Common.{◌≡◌, ◌++◌, drop}
use Rattle.cx_look_xref.specs.Parts.Uses.{lines_of_literal}
use Rattle.cx_look_xref.specs.Texts.{literals_from}
use Rattle.cx_look_xref.proofs.literals.literals_by.Given as goal

abbrev pub invariant-loop-number : goal.invariant-loop-number
invariant-loop-number l =
    l.report ++ literals_from l.section (lines_of_literal l.used.entries) l.number (drop l.number l.pools)
    ≡ l.initial.report ++ literals_from l.section (lines_of_literal l.used.entries) 0 l.pools
