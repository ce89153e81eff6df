use Rattle.std.proofs.Common.{drop}
use Rattle.cx_asm_image.specs.Parts.Making.{GoesOn}
use Rattle.cx_asm_image.proofs.text.section_text.Given as goal

abbrev pub invariant-loop-line : goal.invariant-loop-line
invariant-loop-line l = GoesOn l.lines (drop l.line-index l.lines) l.size l.text.items
