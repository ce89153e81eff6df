use Rattle.std.proofs.Common.{rules, arith}
use Rattle.std.proofs.lemmas.Grind.{common_steps}
use Rattle.cx_exec.proofs.SequenceLemmas.{filled}
use Rattle.cx_exec.specs.Strings.{moved_byte}
use Rattle.cx_exec.proofs.strings.move_bytes.Goals as goal

pub loop-k-preserved : goal.loop-k-preserved
unfolding moved_byte
loop-k-preserved g c = filled _ _ _ _ (search rules) c.loop-k.invariant (grind (arith, common_steps))
