use Rattle.std.proofs.Common.{◌≡◌, ◌++◌}
use Rattle.std.specs.List.{flat_map}
use Rattle.cx_look_ahead.specs.Instructions.{visit_line}
use Rattle.cx_look_ahead.proofs.instructions.visit_lines.Given as goal

-- what is left
abbrev pub invariant-loop-visit : goal.invariant-loop-visit
invariant-loop-visit l =
    l.report ++ flat_map (visit_line l.sources l.programs.entries) l.visit-iterator
    ≡ l.initial.report ++ flat_map (visit_line l.sources l.programs.entries) l.trace.last.items
