use Rattle.std.proofs.Common.{◌<◌, ◌++◌, length, arith}
use Rattle.std.proofs.lemmas.Grind.{common_steps}
use Rattle.cx_script.proofs.PieceLemmas.{too_long_line}
use Rattle.cx_script.proofs.TakeLemmas.{take_long}
use Rattle.cx_script.proofs.run.ScriptRun.end_line.Goals as goal

pub returns-then-is_err-clause-taken : goal.returns-then-is_err-clause-taken
returns-then-is_err-clause-taken g c =
    let long : 4097 < length (c.args.self.now.part.items ++ c.args.bytes.now) = grind (arith, common_steps) in
    take_long g.P.Performer.performs g.W.ScriptOut.writes _ _ _ _ _ _ (too_long_line _ _ _ _ long)
