use Rattle.std.proofs.Common.{◌≡◌, take}
use Rattle.std.specs.List.{flat_map}
use Rattle.cx_look_ahead.specs.Watching.{change_line}
use Rattle.cx_look_ahead.proofs.watching.Done.statement_lines.Given as goal

-- the lines of the first ranges so far
abbrev pub invariant-loop-kept : goal.invariant-loop-kept
invariant-loop-kept g l = l.report ≡ flat_map (λ kept. change_line l.self kept l.statement) (take l.kept-index l.changed)
