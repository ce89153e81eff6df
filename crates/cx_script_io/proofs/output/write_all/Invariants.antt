use Rattle.std.proofs.Common.{◌≡◌, ◌≤◌, false, length, take}
use Rattle.cx_script_io.specs.Devices.{Takes}
use Rattle.cx_script_io.proofs.output.write_all.Given as goal

abbrev pub invariant-loop-turn : goal.invariant-loop-turn
invariant-loop-turn g l = (l._turn ≤ l.at) × (l.at ≤ length l.bytes) × (g.W.ScriptOut.has_failed l.writer ≡ false)
    × Takes g.W.ScriptOut.writes l.initial.writer l.writer (take l.at l.bytes)
