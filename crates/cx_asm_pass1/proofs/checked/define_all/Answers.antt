use Rattle.std.proofs.Common.{◌≡◌, true, rules}
use Rattle.std.specs.Prelude.{codes}
use Rattle.std.specs.Str.{bytes_eq}
use Rattle.cx_asm_pass1.proofs.checked.define_all.Goals as goal

pub returns-in_ok-define_rows-in-Registers : goal.returns-in_ok-define_rows-in-Registers
returns-in_ok-define_rows-in-Registers c = rw c.in-Registers.is c.in_ok-define_rows-in-Registers.ensures

pub returns-in_ok-define_rows-in-Member : goal.returns-in_ok-define_rows-in-Member
returns-in_ok-define_rows-in-Member c =
    let e : bytes_eq c.args.operand.now (codes "DFHAID") ≡ true = search rules in
    rw (c.in-Member.is, e) c.in_ok-define_rows-in-Member.ensures
