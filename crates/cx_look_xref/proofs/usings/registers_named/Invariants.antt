use Rattle.std.proofs.Common.{◌≡◌, ◌++◌, drop, map}
use Rattle.cx_asm_pass2.specs.Whole.{whole_by}
use Rattle.cx_look_xref.specs.Usings.{registers_named}
use Rattle.cx_look_xref.proofs.usings.registers_named.Given as goal

abbrev pub invariant-loop-part : goal.invariant-loop-part
invariant-loop-part l =
    l.registers.items ++ registers_named (whole_by l.places) l.statement (map (λ part. part.now) (drop l.part-index l.parts))
    ≡ registers_named (whole_by l.places) l.statement (map (λ part. part.now) l.parts)
