use Rattle.std.proofs.Common.{◌≡◌, ℕ, ◌<◌, ◌≤◌, length, slice_index}
use Rattle.cx_exec.specs.Registers.{loaded_register}
use Rattle.cx_exec.proofs.registers.load_registers.Given as goal

-- the registers before this one are as they are to be, and the others as they were
abbrev pub invariant-loop-r : goal.invariant-loop-r
invariant-loop-r l = record {
  before : (k : ℕ) → k < l.r → slice_index l.regs k ≡ loaded_register l.initial.regs l.range.first l.range.last l.words k;
  others : (k : ℕ) → l.r ≤ k → slice_index l.regs k ≡ slice_index l.initial.regs k;
  size : length l.regs ≡ 16;
}
