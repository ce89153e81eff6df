-- What is asked of a part of an operand.
use Rattle.std.specs.Prelude.{ℕ, Bool, true, not, List, ◌∷◌, []}
use Rattle.cx_asm_operands.specs.Bases.{Bases}
use Rattle.cx_asm_pass2.specs.Statements.{PlacedStatement}
use Rattle.cx_asm_pass2.specs.Whole.{Whole}
use Rattle.cx_asm_build.specs.declared.faults.SourceKind.{SourceKind}
use Rattle.cx_look_faults.specs.Judging.{has_fault}
use Rattle.cx_look_faults.specs.Operands.{is_term}
use Rattle.cx_look_faults.specs.Spans.{span_text, zeros_from}
use Rattle.cx_look_faults.specs.declared.spans.Cell.{Cell}
use Rattle.cx_look_faults.specs.declared.operands.Test.{Test}
use Rattle.cx_look_faults.specs.declared.operands.Test.TheVariants.{Alone, Item, Term}
use Rattle.cx_look_faults.specs.declared.spans.Span.{Span}

abbrev pub passes : Whole → Bases → PlacedStatement → SourceKind → Test → Span → Bool
passes whole bases s kind (Alone cells) part = has_fault whole bases s kind (zeros_from (part ∷ []) true 0 cells.now)
passes whole bases s kind Item part = has_fault whole bases s kind (span_text part s.stmt.operand)
passes whole bases s kind Term part = is_term whole s kind part

-- a part doesn't have the fault alone, of an operand of these characters
unfoldable pub is_without : (List ℕ → Bool) → List Cell → Span → Bool
is_without has cells part = not (has (zeros_from (part ∷ []) true 0 cells))
