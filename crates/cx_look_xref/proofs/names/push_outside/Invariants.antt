use Rattle.std.proofs.Common.{◌≡◌, ◌++◌, [], drop}
use Rattle.cx_look_xref.specs.References.{names_from}
use Rattle.cx_look_xref.proofs.names.push_outside.Given as goal

abbrev pub invariant-loop-i : goal.invariant-loop-i
invariant-loop-i l =
    l.names.items ++ names_from l.run.items (drop l.i l.text) (drop l.i l.outside) ≡ l.initial.names.items ++ names_from [] l.text l.outside
