use Rattle.std.proofs.Common.{◌≡◌, ◌+◌, ◌≤◌, ◌++◌, false, length}
use Rattle.cx_script_io.specs.Devices.{device_output}
use Rattle.cx_script.specs.Parts.Progress.{Calling, Came}
use Rattle.cx_script_io.specs.Unbroken.{IsUnbroken}
use Rattle.cx_script.proofs.run.ScriptRun.take_piece.Given as goal

abbrev pub invariant-lines : goal.invariant-lines
invariant-lines g l =
    (g.W.ScriptOut.has_failed l.writer ≡ false)
    × IsUnbroken l.self.part.items
    × (l.self.progress.lines + length l.rest ≤ l.initial.self.progress.lines + length l.piece)
    × Calling g.W.ScriptOut.writes l.initial.writer l.writer (λ x y. Came g.P.Action.ScriptAction.language g.P.Performer.performs
    l.initial.self.progress.performer l.initial.self.progress.lines l.initial.self.progress.place (l.initial.self.part.items ++ l.piece) (device_output x l.initial.self.progress.waiting)
    l.self.progress.performer l.self.progress.lines l.self.progress.place (l.self.part.items ++ l.rest) (device_output y l.self.progress.waiting))

abbrev pub decreases-lines : goal.decreases-lines
decreases-lines g l = length l.rest
