use Rattle.std.proofs.Common.{◌≡◌, Some, drop, length}
use Rattle.cx_asm_operands.specs.Bases.{after_drop}
use Rattle.cx_asm_operands.proofs.bases.end.Given as goal

abbrev pub invariant-loop-register : goal.invariant-loop-register
invariant-loop-register l = record {
  rest : after_drop (Some (drop l.register-index l.registers)) l.bases ≡ after_drop (Some l.registers) l.initial.bases;
  size : length l.bases ≡ 16;
}
