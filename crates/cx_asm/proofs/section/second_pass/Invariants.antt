use Rattle.std.proofs.Common.{◌≡◌, drop, reverse, slice_get, take}
use Rattle.cx_asm_operands.specs.Bases.{none_in_use}
use Rattle.cx_asm_pass2.specs.SecondFaults.{bases_after_all, second_faults_after}
use Rattle.cx_asm_pass2.specs.Whole.{whole_by}
use Rattle.cx_asm.specs.Parts.Kept.{kept}
use Rattle.cx_asm.specs.Resolving.{empty_section, standing_from}
use Rattle.cx_asm.proofs.section.second_pass.Given as goal

abbrev pub invariant-loop-number : goal.invariant-loop-number
invariant-loop-number l = record {
  bases : l.bases ≡ bases_after_all (whole_by l.places) (reverse (take l.number l.statements));
  first : l.first ≡ slice_get (second_faults_after (whole_by l.places) (reverse (take l.number l.statements))) 0;
  standing :
      kept l.keeps l.standing (standing_from (whole_by l.places) l.statements l.bases (drop l.number l.statements))
      ≡ kept l.keeps empty_section (standing_from (whole_by l.places) l.statements none_in_use l.statements);
}
