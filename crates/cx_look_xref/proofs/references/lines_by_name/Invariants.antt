use Rattle.std.proofs.Common.{◌≡◌, List, ℕ, drop, fold, map}
use Rattle.std.specs.BTreeSet.{insert_key}
use Rattle.std.specs.List.{filter}
use Rattle.std.specs.Ordering.{nat_cmp}
use Rattle.cx_asm_expressions.specs.Names.{is_same}
use Rattle.cx_look_xref.specs.Parts.Uses.{lines_of_name}
use Rattle.cx_look_xref.specs.References.{lines_using}
use Rattle.cx_look_xref.proofs.references.lines_by_name.Given as goal

abbrev pub invariant-loop-reference : goal.invariant-loop-reference
invariant-loop-reference l =
    (name : List ℕ)
    → fold (insert_key nat_cmp) (lines_of_name l.table.entries name)
    (map (λ r. r.line) (filter (λ r. is_same name r.name) (drop l.reference-index l.references)))
    ≡ lines_using l.references name
