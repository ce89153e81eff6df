use Rattle.std.proofs.Common.{rules}
use Rattle.cx_exec.proofs.BlockLemmas.{not_joined, joined}
use Rattle.cx_exec.proofs.strings.join_through.Goals as goal

pub returns-then-not-join_stored : goal.returns-then-not-join_stored
returns-then-not-join_stored g c = not_joined _ _ _ _ _ (search rules)

pub returns : goal.returns
returns g c = joined _ _ _ _ _ _ _ _ _ (search rules) (search rules) c.string_code-cc.ensures.value c.put_coded.ensures
