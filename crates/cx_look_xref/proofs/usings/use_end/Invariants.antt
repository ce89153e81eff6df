use Rattle.std.proofs.Common.{◌≡◌, drop}
use Rattle.cx_asm_pass2.specs.Whole.{whole_by}
use Rattle.cx_look_xref.specs.Usings.{use_end}
use Rattle.cx_look_xref.proofs.usings.use_end.Given as goal

abbrev pub invariant-loop-statement : goal.invariant-loop-statement
invariant-loop-statement l =
    use_end (whole_by l.places) l.last l.register (drop l.statement-index l.statements) ≡ use_end (whole_by l.places) l.last l.register l.statements
