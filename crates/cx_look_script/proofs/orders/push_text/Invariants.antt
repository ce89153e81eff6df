use Rattle.std.proofs.Common.{◌≡◌, ◌++◌, length}
use Rattle.cx_script_io.specs.Lines.{lines_met}
use Rattle.cx_script_io.specs.declared.input.Ending.TheVariants.{AtEnd}
use Rattle.cx_look_script.proofs.orders.push_text.Given as goal

abbrev pub invariant-loop-line : goal.invariant-loop-line
invariant-loop-line l = l.report ++ lines_met AtEnd l.rest ≡ l.initial.report ++ lines_met AtEnd l.text

abbrev pub decreases-loop-line : goal.decreases-loop-line
decreases-loop-line l = length l.rest
