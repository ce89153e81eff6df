use Rattle.cx_edf.proofs.EndLemmas.{ended_passed}
use Rattle.cx_edf.proofs.debugged.Debugged.end_task.Goals as goal

pub returns-clause-ended : goal.returns-clause-ended
returns-clause-ended g c = ended_passed _ _ _ _ c.args.name c.alter-reply.result c.self.view_is c.alter-reply.ensures.alters c.alter.ensures
