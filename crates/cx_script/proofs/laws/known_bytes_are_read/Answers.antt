use Rattle.cx_script.proofs.KnownLemmas.{known_bytes_are_read}
use Rattle.cx_script.proofs.laws.known_bytes_are_read.Goals as goal

pub returns : goal.returns
returns g c =
    known_bytes_are_read g.D.ScriptIn.reads g.D.ScriptOut.writes g.D.ScriptIn.left g.D.ScriptOut.written c.calls_move_what_is_known.ensures
    g.P.Action.ScriptAction.language g.P.Performer.performs
