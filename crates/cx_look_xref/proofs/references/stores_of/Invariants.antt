use Rattle.std.proofs.Common.{◌≡◌, ◌++◌, drop}
use Rattle.std.specs.List.{flat_map}
use Rattle.cx_look_xref.specs.References.{names_stored, references_on, stores_of}
use Rattle.cx_look_xref.proofs.references.stores_of.Given as goal

abbrev pub invariant-loop-item : goal.invariant-loop-item
invariant-loop-item l =
    l.references.items ++ flat_map (λ item. references_on names_stored item.line item.stmt) (drop l.item-index l.source.items) ≡ stores_of l.source
