use Rattle.std.proofs.Common.{rules}
use Rattle.cx_exec.specs.Machine.{machine}
use Rattle.cx_exec.proofs.FrontLemmas.{lent_performed}
use Rattle.cx_exec.proofs.TallyLemmas.{lent_following, lent_target_of}
use Rattle.cx_exec.proofs.stepping.fetch_fast.Goals as goal

pub returns-clause-performed : goal.returns-clause-performed
returns-clause-performed g c =
    lent_performed (machine c.args.cpu.now (g.S.Store.storage c.fetched_prefix.new.store)) _ _ c.read_by_first_byte.ensures.known c.first_bits.ensures
    (search rules) c.in_ok-prefix.ensures.even c.in_ok-prefix.ensures.bytes (search rules)

pub returns-clause-following : goal.returns-clause-following
returns-clause-following g c =
    lent_following (machine c.args.cpu.now (g.S.Store.storage c.fetched_prefix.new.store)) _ _ c.first_bits.ensures (search rules)
    c.in_ok-prefix.ensures.bytes (search rules)

pub returns-clause-target : goal.returns-clause-target
returns-clause-target g c =
    lent_target_of (machine c.args.cpu.now (g.S.Store.storage c.fetched_prefix.new.store)) _ _ (search rules) c.in_ok-prefix.ensures.bytes (search rules)
