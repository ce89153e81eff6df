use Rattle.std.proofs.Common.{◌≡◌, fold, take}
use Rattle.cx_source.specs.Reader.{reading_at_start, take_line}
use Rattle.cx_asm_build.proofs.program.fed.Given as goal

abbrev pub invariant-loop-line : goal.invariant-loop-line
invariant-loop-line l = l.reader ≡ fold take_line reading_at_start (take l.line-index l.lines)
