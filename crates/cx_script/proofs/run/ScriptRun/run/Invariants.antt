use Rattle.std.proofs.Common.{◌≡◌, ◌≤◌, false, []}
use Rattle.std.specs.Str.Lines.{strip_carriage_return}
use Rattle.cx_script_io.specs.Lines.{is_too_long}
use Rattle.cx_script.specs.Parts.Progress.{SeenSoFar}
use Rattle.cx_script_io.specs.Unbroken.{IsUnbroken}
use Rattle.cx_script.proofs.run.ScriptRun.run.Given as goal

abbrev pub invariant-pieces : goal.invariant-pieces
invariant-pieces g l =
    (g.D.ScriptIn.has_failed l.devices ≡ false) × (g.D.ScriptOut.has_failed l.devices ≡ false)
    × (l.self.progress.waiting ≡ []) × IsUnbroken l.self.part.items × (is_too_long (strip_carriage_return l.self.part.items) ≡ false)
    × (l.self.progress.lines ≤ l.read) × (l._turn ≤ l.read) × (l.read ≤ 16777216)
    × SeenSoFar g.P.Action.ScriptAction.language g.P.Performer.performs l.initial.self.progress.performer g.D.ScriptIn.reads g.D.ScriptOut.writes l.initial.devices l.devices l.read
    l.self.progress.performer l.self.progress.lines l.self.progress.place l.self.part.items
