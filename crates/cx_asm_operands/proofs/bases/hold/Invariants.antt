use Rattle.std.proofs.Common.{◌≡◌, ◌+ℤ◌, ◌*◌, pos, drop, length}
use Rattle.cx_asm_operands.specs.Bases.{after_using}
use Rattle.cx_asm_operands.proofs.bases.hold.Given as goal

-- the place is 4,096 more for each register passed
abbrev pub invariant-loop-register : goal.invariant-loop-register
invariant-loop-register l = record {
  rest : after_using l.section l.place (drop l.register-index l.registers) l.bases ≡ after_using l.section l.number l.registers l.initial.bases;
  place : l.place ≡ l.number +ℤ pos (4096 * l.register-index);
  size : length l.bases ≡ 16;
}
