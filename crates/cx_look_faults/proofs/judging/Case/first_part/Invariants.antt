use Rattle.std.proofs.Common.{◌≡◌, drop}
use Rattle.std.specs.List.{find}
use Rattle.cx_asm_pass2.specs.Whole.{whole_by}
use Rattle.cx_look_faults.specs.Parts.Tests.{passes}
use Rattle.cx_look_faults.specs.Spans.{spans_of}
use Rattle.cx_look_faults.proofs.judging.Case.first_part.Given as goal

abbrev pub invariant-loop-part : goal.invariant-loop-part
invariant-loop-part l =
    find (passes (whole_by l.self.places.now) l.self.bases.now l.self.statement.now l.self.kind l.test) (drop l.part-index l.part-items)
    ≡ find (passes (whole_by l.self.places.now) l.self.bases.now l.self.statement.now l.self.kind l.test) (spans_of l.fn.cut l.self.statement.now.stmt.operand)
