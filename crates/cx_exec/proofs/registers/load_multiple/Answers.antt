use Rattle.std.proofs.Common.{rules, refl}
use Rattle.cx_exec.specs.Machine.{machine}
use Rattle.cx_exec.proofs.RegisterLemmas.{loads_lent}
use Rattle.cx_exec.proofs.registers.load_multiple.Goals as goal

pub returns : goal.returns
returns g c =
    rw (← c.updated.view_is) (loads_lent (machine c.args.cpu.now (g.S.Store.storage c.args.store.now)) c.args.range.first c.args.range.last c.args.a c.in-Some.part.now _ _
    (search rules) (search rules) c.take_registers.ensures refl refl refl)
