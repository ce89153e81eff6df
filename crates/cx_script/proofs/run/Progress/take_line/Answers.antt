use Rattle.std.proofs.Common.{refl, sym}
use Rattle.cx_script.proofs.TakeLemmas.{take_acted, take_faulty}
use Rattle.cx_script.proofs.run.Progress.take_line.Goals as goal

pub returns-in-Err-clause-taken : goal.returns-in-Err-clause-taken
returns-in-Err-clause-taken g c =
    let value = rw c.take.ensures.value at c.step_at.ensures.value in
    let bad = rw c.take.ensures.value at c.step_at.ensures.bad in
    take_faulty g.P.Performer.performs g.W.ScriptOut.writes _ _ _ _ _ c.step_at.result c.in-Err.fault _ _ _ c.in-Err.is value bad c.step_at.ensures.unwritten

pub returns-clause-taken : goal.returns-clause-taken
returns-clause-taken g c =
    let led = c.in-Ok.ensures.value refl in
    let due = rw c.take.ensures.value at led in
    rw c.bad_look_after.ensures
    (take_acted g.P.Performer.performs g.W.ScriptOut.writes _ g.P.Performer.refused _ _ _ _ _ _ _ _ _ _ _ (sym due) c.act.ensures.acted)
