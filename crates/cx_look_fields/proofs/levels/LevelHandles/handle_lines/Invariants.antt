use Rattle.std.proofs.Common.{◌≡◌, ◌++◌, take}
use Rattle.cx_look_fields.specs.Parts.Levels.{handle_lines, handles_number}
use Rattle.cx_look_fields.proofs.levels.LevelHandles.handle_lines.Given as goal

abbrev pub invariant-loop-condition : goal.invariant-loop-condition
invariant-loop-condition l =
    l.report
    ≡ l.initial.report
    ++ handle_lines l.self.sources.now.entries l.self.programs.now.entries (handles_number l.self.of) l.entries (take l.condition-index l.conditions)
