use Rattle.std.proofs.Common.{◌≡◌, reverse, take}
use Rattle.cx_asm_pass2.specs.SecondFaults.{bases_after_all, second_faults_after}
use Rattle.cx_asm_pass2.specs.Whole.{whole_by}
use Rattle.cx_asm.proofs.section.second_faults.Given as goal

abbrev pub invariant-loop-number : goal.invariant-loop-number
invariant-loop-number l = record {
  bases : l.bases ≡ bases_after_all (whole_by l.places) (reverse (take l.number l.statements));
  faults : l.faults ≡ second_faults_after (whole_by l.places) (reverse (take l.number l.statements));
}
