use Rattle.std.proofs.Common.{◌≡◌, ◌++◌, drop}
use Rattle.std.specs.List.{flat_map}
use Rattle.cx_look_xref.specs.Given.{line_given}
use Rattle.cx_look_xref.proofs.given.lines_given.Given as goal

abbrev pub invariant-loop-item : goal.invariant-loop-item
invariant-loop-item l =
    l.lines.items ++ flat_map line_given (drop l.item-index l.source.items) ≡ l.initial.lines.items ++ flat_map line_given l.source.items
