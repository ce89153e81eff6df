use Rattle.std.proofs.Common.{◌≡◌, ◌++◌, drop}
use Rattle.std.specs.List.{enumerate_from, filter_map}
use Rattle.cx_asm_pass2.specs.Whole.{whole_by}
use Rattle.cx_look_faults.specs.Beside.{beside_at}
use Rattle.cx_look_faults.specs.Faults.{kind_at}
use Rattle.cx_look_faults.specs.Operands.{bases_before}
use Rattle.cx_look_faults.proofs.beside.faults_beside.Given as goal

abbrev pub invariant-loop-i : goal.invariant-loop-i
invariant-loop-i l =
    record {
      bases : l.bases ≡ bases_before (whole_by l.places) l.statements l.i;
      goes_on : l.found.items ++ filter_map (beside_at (whole_by l.places) (kind_at l.kinds.entries) l.statements) (enumerate_from l.i (drop l.i l.statements))
          ≡ filter_map (beside_at (whole_by l.places) (kind_at l.kinds.entries) l.statements) (enumerate_from 0 l.statements);
    }
