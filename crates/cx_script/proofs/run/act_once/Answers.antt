use Rattle.cx_script.proofs.TakeLemmas.{act_memory, act_put, act_unwritten}
use Rattle.cx_script.proofs.run.act_once.Goals as goal

pub returns-in_err-text-clause-acted : goal.returns-in_err-text-clause-acted
returns-in_err-text-clause-acted g c =
    act_memory g.P.Performer.performs g.W.ScriptOut.writes g.P.Performer.refused _ _ _ _ _ _ c.from_residual.ensures.1 c.in_err-text.ensures.refused

pub returns-in-Ok-clause-acted : goal.returns-in-Ok-clause-acted
returns-in-Ok-clause-acted g c =
    act_put g.P.Performer.performs g.W.ScriptOut.writes g.P.Performer.refused _ _ _ _ _ _ _ _ _ c.in_ok-text.ensures.done c.as_slice.ensures.value c.in-Ok.ensures.ok

pub returns-clause-acted : goal.returns-clause-acted
returns-clause-acted g c =
    act_unwritten g.P.Performer.performs g.W.ScriptOut.writes g.P.Performer.refused _ _ _ _ _ _ _ _ _ c.in_ok-text.ensures.done c.as_slice.ensures.value c.in-Err.ensures.err
