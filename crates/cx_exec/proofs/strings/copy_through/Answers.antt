use Rattle.std.proofs.Common.{rules, arith}
use Rattle.cx_exec.proofs.BlockLemmas.{copied}
use Rattle.cx_exec.proofs.strings.copy_through.Goals as goal

pub returns : goal.returns
returns g c =
    copied _ _ _ _ _ _ _ _ _ _ c.args.at.first c.args.at.second (omega (arith, c.requires.count)) c.requires.outside (search rules) (search rules)
    c.read.ensures.after c.put_bytes.ensures
