use Rattle.std.proofs.Common.{◌≡◌, List, ℕ, drop, map}
use Rattle.cx_look_xref.specs.Parts.Uses.{lines_of_literal, uses_part, with_line}
use Rattle.cx_look_xref.proofs.literals.put_parts.Given as goal

abbrev pub invariant-loop-part : goal.invariant-loop-part
invariant-loop-part l =
    (number : ℕ) (text : List ℕ)
    → with_line (uses_part number text l.pool (map (λ part. part.now) (drop l.part-index l.parts))) l.line
    (lines_of_literal l.table.entries number text)
    ≡ with_line (uses_part number text l.pool (map (λ part. part.now) l.parts)) l.line (lines_of_literal l.initial.table.entries number text)
