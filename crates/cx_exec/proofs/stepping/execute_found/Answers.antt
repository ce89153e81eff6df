use Rattle.cx_exec.specs.Machine.{machine}
use Rattle.cx_exec.proofs.FrontLemmas.{lent_executes}
use Rattle.cx_exec.proofs.stepping.execute_found.Goals as goal

pub returns : goal.returns
returns g c =
    lent_executes (machine c.args.cpu.now (g.S.Store.storage c.args.store.now)) _ c.args.prefix.now _ _ _ c.requires.performed
    c.indexed_of-it.ensures.r1 c.indexed_of-it.ensures.operand c.execute.ensures
