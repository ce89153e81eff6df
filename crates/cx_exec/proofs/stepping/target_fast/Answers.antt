use Rattle.std.proofs.Common.{rules}
use Rattle.cx_exec.specs.Machine.{machine}
use Rattle.cx_exec.proofs.FrontLemmas.{lent_target}
use Rattle.cx_exec.proofs.stepping.target_fast.Goals as goal

pub returns-clause-found : goal.returns-clause-found
returns-clause-found g c =
    lent_target (machine c.args.cpu.now (g.S.Store.storage c.fetched_prefix.new.store)) _ _ _ _ _ c.read_by_first_byte.ensures.known c.first_bits.ensures
    c.requires.operand c.in_ok-fetched_prefix.ensures.even c.in_ok-fetched_prefix.ensures.bytes (c.changed_copy-prefix.ensures (g.S.Store.storage c.fetched_prefix.new.store)) (search rules) (search rules)
