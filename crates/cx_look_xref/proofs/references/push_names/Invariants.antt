use Rattle.std.proofs.Common.{◌≡◌, ◌++◌, drop, map}
use Rattle.cx_look_xref.specs.References.{reference}
use Rattle.cx_look_xref.proofs.references.push_names.Given as goal

abbrev pub invariant-loop-name : goal.invariant-loop-name
invariant-loop-name l =
    l.references.items ++ map (reference l.line) (drop l.name-index l.names) ≡ l.initial.references.items ++ map (reference l.line) l.names
