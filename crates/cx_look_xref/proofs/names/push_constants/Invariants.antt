use Rattle.std.proofs.Common.{◌≡◌, ◌++◌, drop, map}
use Rattle.std.specs.List.{flat_map}
use Rattle.cx_look_xref.specs.References.{names_of_constant}
use Rattle.cx_look_xref.proofs.names.push_constants.Given as goal

abbrev pub invariant-loop-part : goal.invariant-loop-part
invariant-loop-part l =
    l.names.items ++ flat_map names_of_constant (map (λ part. part.now) (drop l.part-index l.parts))
    ≡ l.initial.names.items ++ flat_map names_of_constant (map (λ part. part.now) l.parts)
