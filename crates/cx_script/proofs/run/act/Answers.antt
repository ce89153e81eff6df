use Rattle.cx_script.proofs.TakeLemmas.{acts_done, acts_first, acts_on, acts_stopped}
use Rattle.cx_script.proofs.run.act.Goals as goal

pub actions-init : goal.actions-init
actions-init g c = (c.requires.failure, c.requires.allowed, acts_first g.P.Performer.performs g.W.ScriptOut.writes _ _ _ _ _)

pub returns-in-Err-clause-acted : goal.returns-in-Err-clause-acted
returns-in-Err-clause-acted g c =
    acts_stopped g.P.Performer.performs g.W.ScriptOut.writes _ g.P.Performer.refused _ _ _ _ _ _ _ _ _ _ _ _ _ _ c.actions.invariant.2 c.in-Some.is c.following-due.ensures.value c.in-Err.ensures.acted

pub returns-clause-acted : goal.returns-clause-acted
returns-clause-acted g c = acts_done g.P.Performer.performs g.W.ScriptOut.writes _ g.P.Performer.refused _ _ _ _ _ _ _ _ c.actions.invariant.2 c.in_default.is

pub actions-preserved : goal.actions-preserved
actions-preserved g c = (
  c.in_default-act_once.ensures.failure,
  c.following-due.ensures.allowed,
  acts_on g.P.Performer.performs g.W.ScriptOut.writes _ g.P.Performer.refused _ _ _ _ _ _ _ _ _ _ _ _ _ c.actions.invariant.2 c.in-Some.is c.following-due.ensures.value
      c.in_default-act_once.ensures.acted,
)
