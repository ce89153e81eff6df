use Rattle.std.proofs.Common.{◌≡◌, drop}
use Rattle.cx_asm_operands.specs.Bases.{none_in_use}
use Rattle.cx_asm_pass2.specs.Whole.{whole_by}
use Rattle.cx_look_fields.specs.Fields.{bases_at}
use Rattle.cx_look_fields.proofs.fields.bases_at.Given as goal

abbrev pub invariant-loop-statement : goal.invariant-loop-statement
invariant-loop-statement l =
    bases_at (whole_by l.places) l.offset l.bases (drop l.statement-index l.statements)
    ≡ bases_at (whole_by l.places) l.offset none_in_use l.statements
