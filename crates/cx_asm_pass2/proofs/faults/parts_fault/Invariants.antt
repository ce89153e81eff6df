use Rattle.std.proofs.Common.{◌≡◌, drop, map}
use Rattle.cx_asm_expressions.specs.Faults.{lower, lowest}
use Rattle.cx_asm_pass2.specs.Whole.{whole_by}
use Rattle.cx_asm_pass2.specs.SecondFaults.{part_fault}
use Rattle.cx_asm_pass2.proofs.faults.parts_fault.Given as goal

abbrev pub invariant-loop-part : goal.invariant-loop-part
invariant-loop-part l =
    lower l.fault (lowest (map (part_fault (whole_by l.places) l.number l.statement) (map (λ part. part.now) (drop l.part-index l.parts))))
    ≡ lowest (map (part_fault (whole_by l.places) l.number l.statement) (map (λ part. part.now) l.parts))
