use Rattle.std.proofs.Common.{◌≡◌, ◌++◌, drop}
use Rattle.std.specs.List.{flat_map}
use Rattle.cx_look_xref.specs.References.{names_used, references_of, references_on}
use Rattle.cx_look_xref.proofs.references.references_of.Given as goal

abbrev pub invariant-loop-item : goal.invariant-loop-item
invariant-loop-item l =
    l.references.items ++ flat_map (λ item. references_on names_used item.line item.stmt) (drop l.item-index l.source.items) ≡ references_of l.source
