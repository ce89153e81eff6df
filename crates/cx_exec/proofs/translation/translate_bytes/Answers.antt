use Rattle.std.proofs.Common.{rules, arith}
use Rattle.std.proofs.lemmas.Grind.{common_steps}
use Rattle.cx_exec.proofs.SequenceLemmas.{filled}
use Rattle.cx_exec.specs.Translation.{translated_byte}
use Rattle.cx_exec.proofs.translation.translate_bytes.Goals as goal

pub loop-k-preserved : goal.loop-k-preserved
unfolding translated_byte
loop-k-preserved g c = filled _ _ _ _ (search rules) c.loop-k.invariant (grind (arith, common_steps))
