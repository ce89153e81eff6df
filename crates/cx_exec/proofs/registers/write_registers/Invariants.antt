use Rattle.std.proofs.Common.{◌≡◌, ◌*◌, take}
use Rattle.cx_exec.specs.Registers.{register_bytes}
use Rattle.cx_exec.proofs.registers.write_registers.Given as goal

-- as many words as turns of the loops are written
abbrev pub invariant-high : goal.invariant-high
invariant-high l = take (4 * l.k) l.bytes ≡ register_bytes l.regs l.first l.k

abbrev pub invariant-low : goal.invariant-low
invariant-low l = take (4 * l.k) l.bytes ≡ register_bytes l.regs l.first l.k
