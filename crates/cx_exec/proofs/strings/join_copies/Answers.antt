use Rattle.std.proofs.Common.{rules, arith}
use Rattle.cx_exec.proofs.BlockLemmas.{read_is_joined}
use Rattle.cx_exec.proofs.strings.join_copies.Goals as goal

pub returns-clause-bytes : goal.returns-clause-bytes
returns-clause-bytes g c = λ _.
    read_is_joined _ _ _ _ _ _ _ _ _ _ _ c.read.ensures.after c.read-else-not-read.ensures.after (search rules) (search rules) (search rules) (search rules)
    c.args.at.first c.args.at.second (omega (arith, c.requires.count)) c.requires.outside (search rules) c.join_bytes.ensures.size c.join_bytes.ensures.each
