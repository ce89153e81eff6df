use Rattle.std.proofs.Common.{◌≡◌, ◌++◌, drop}
use Rattle.std.specs.List.{flat_map}
use Rattle.cx_asm_pass2.specs.Whole.{whole_by}
use Rattle.cx_look_xref.specs.Texts.{using_line}
use Rattle.cx_look_xref.proofs.usings.Using.lines_of.Given as goal

abbrev pub invariant-loop-register : goal.invariant-loop-register
invariant-loop-register l =
    let line = using_line (whole_by l.self.places.now) l.self.last l.self.statement.now l.self.after.now in
    l.report ++ flat_map line (drop l.register-index l.registers) ≡ l.initial.report ++ flat_map line l.registers
