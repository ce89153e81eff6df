use Rattle.std.proofs.Common.{rules, arith}
use Rattle.cx_exec.proofs.BlockLemmas.{copied_lent}
use Rattle.cx_exec.proofs.strings.copy_at_hand.Goals as goal

pub returns-clause-done : goal.returns-clause-done
returns-clause-done g c = λ e.
    copied_lent _ _ _ _ _ _ _ _ c.args.at.first c.args.at.second (omega (arith, c.requires.count)) c.requires.outside (search rules) (c.put_fast.ensures.done e)
