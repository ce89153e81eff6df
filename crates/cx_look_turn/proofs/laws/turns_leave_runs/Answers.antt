use Rattle.cx_look_turn.proofs.LeaveLemmas.{turns_leave_runs as leave_runs}
use Rattle.cx_look_turn.proofs.laws.turns_leave_runs.Goals as goal

pub returns : goal.returns
returns c = leave_runs c.runs_decide.ensures c.abend_records_explain.ensures.explain
