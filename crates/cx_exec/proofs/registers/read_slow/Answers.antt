use Rattle.std.proofs.Common.{rules}
use Rattle.cx_exec.proofs.RegisterLemmas.{words_filled}
use Rattle.cx_exec.proofs.registers.read_slow.Goals as goal

pub loop-k-preserved : goal.loop-k-preserved
loop-k-preserved g c = words_filled _ _ _ _ _ (search rules) c.loop-k.invariant (rw c.address_after.ensures.value at c.in_ok-word.ensures)
