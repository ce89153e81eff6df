use Rattle.std.proofs.Common.{◌≡◌, ◌++◌, drop}
use Rattle.std.specs.Prelude.{filter}
use Rattle.cx_asm_pass2.specs.Whole.{whole_by}
use Rattle.cx_look_faults.specs.Judging.{has_fault}
use Rattle.cx_look_faults.specs.Parts.Tests.{is_without}
use Rattle.cx_look_faults.proofs.judging.Case.parts_without.Given as goal

abbrev pub invariant-loop-part : goal.invariant-loop-part
invariant-loop-part l =
    l.kept.items ++ filter (is_without (has_fault (whole_by l.self.places.now) l.self.bases.now l.self.statement.now l.self.kind) l.cells) (drop l.part-index l.parts)
    ≡ filter (is_without (has_fault (whole_by l.self.places.now) l.self.bases.now l.self.statement.now l.self.kind) l.cells) l.parts
