use Rattle.std.proofs.Common.{◌≡◌, List, ℕ, drop, fold, map}
use Rattle.std.specs.BTreeSet.{insert_key}
use Rattle.std.specs.List.{filter}
use Rattle.std.specs.Ordering.{nat_cmp}
use Rattle.cx_look_xref.specs.Parts.Uses.{lines_of_literal}
use Rattle.cx_look_xref.specs.Literals.{lines_with, uses_literal}
use Rattle.cx_look_xref.proofs.literals.lines_by_literal.Given as goal

abbrev pub invariant-loop-statement : goal.invariant-loop-statement
invariant-loop-statement l =
    (number : ℕ) (text : List ℕ)
    → fold (insert_key nat_cmp) (lines_of_literal l.table.entries number text)
    (map (λ s. s.line) (filter (uses_literal number text) (drop l.statement-index l.statements)))
    ≡ lines_with l.statements number text
