use Rattle.std.proofs.Common.{Result, Ok, Err, OnErr}
use Rattle.cx_script_io.specs.Facts.Devices.{wrote_kept, wrote_none}
use Rattle.cx_script_io.proofs.output.write_all.Goals as goal

on_err : {A E X : Type 0} (r : Result A E) → X → OnErr r X
on_err (Ok a) h = tt
on_err (Err e) h = h

pub returns-in_err-taken-clause-err : goal.returns-in_err-taken-clause-err
returns-in_err-taken-clause-err g c =
    on_err c.from_residual.result (wrote_kept g.W.ScriptOut.writes _ _ _ _ _ c.loop-turn.invariant.3 c.in_err-taken.ensures.call)

pub returns-then-taken-eq0-clause-err : goal.returns-then-taken-eq0-clause-err
returns-then-taken-eq0-clause-err g c =
    wrote_none g.W.ScriptOut.writes _ _ _ _ _ _ _ c.if-taken-eq0.true c.loop-turn.invariant.3 c.in_ok-taken.ensures.call
