use Rattle.cx_script_io.proofs.KnownLemmas.{calls_move_known}
use Rattle.cx_script_io.proofs.laws.calls_move_what_is_known.Goals as goal

pub returns : goal.returns
returns g c =
    calls_move_known g.D.ScriptIn.reads g.D.ScriptOut.writes g.D.ScriptIn.left g.D.ScriptOut.written g.D.ScriptIn.has_failed g.D.ScriptOut.has_failed
    g.met.D.ScriptIn.known g.met.D.ScriptOut.known g.met.D.ScriptDevices.read_keeps g.met.D.ScriptDevices.write_keeps
