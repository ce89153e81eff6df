use Rattle.std.proofs.Common.{◌≡◌, ◌+◌, ◌++◌, drop}
use Rattle.cx_look_fields.specs.Levels.{pushed_lines}
use Rattle.cx_look_fields.proofs.levels.pushed_lines.Given as goal

abbrev pub invariant-loop-index : goal.invariant-loop-index
invariant-loop-index l =
    l.report ++ pushed_lines l.sources.entries l.programs.entries l.k (l.index + 1) (drop l.index l.kept)
    ≡ l.initial.report ++ pushed_lines l.sources.entries l.programs.entries l.k 1 l.kept
