use Rattle.cx_exec.proofs.RegisterLemmas.{AreTaken}
use Rattle.cx_exec.proofs.registers.take_registers.Given as goal

abbrev pub invariant-high : goal.invariant-high
invariant-high l = AreTaken l.fn.regs l.regs l.part l.fn.range.first l.k

abbrev pub invariant-low : goal.invariant-low
invariant-low l = AreTaken l.fn.regs l.regs l.part l.fn.range.first l.k
