use Rattle.std.proofs.Common.{◌≡◌, map, take}
use Rattle.cx_asm_image.specs.Spans.{span_of}
use Rattle.cx_asm_image.proofs.text.spans_of.Given as goal

abbrev pub invariant-loop-line : goal.invariant-loop-line
invariant-loop-line l = l.spans.items ≡ map span_of (take l.line-index l.lines)
