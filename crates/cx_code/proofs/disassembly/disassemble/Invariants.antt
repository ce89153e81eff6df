use Rattle.std.proofs.Common.{◌≡◌, take}
use Rattle.cx_code.specs.Lines.{lines}
use Rattle.cx_code.proofs.disassembly.disassemble.Given as goal

abbrev pub invariant-loop-span : goal.invariant-loop-span
invariant-loop-span l = l.found.items ≡ lines l.text (take l.span-index l.spans)
