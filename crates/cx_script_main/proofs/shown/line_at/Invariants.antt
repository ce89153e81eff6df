use Rattle.std.proofs.Common.{◌≡◌, ◌-◌, slice_get}
use Rattle.cx_script_io.specs.Lines.{lines_met}
use Rattle.cx_script_io.specs.declared.input.Ending.TheVariants.{AtEnd}
use Rattle.cx_script_main.proofs.shown.line_at.Given as goal

abbrev pub invariant-lines : goal.invariant-lines
invariant-lines l = slice_get (lines_met AtEnd l.rest) (l.number - l._before) ≡ slice_get (lines_met AtEnd l.bytes) (l.number - 1)
