-- What the marked part of an operand is for (own).
use Rattle.std.specs.Prelude.{◌≡◌, ◌⊎◌, ℕ, true, false, Bool, Option, Some, List}
use Rattle.std.specs.Option.{option_or}
use Rattle.cx_asm_operations.specs.declared.operations.Operation.{Operation}
use Rattle.cx_asm_operands.specs.Bases.{Bases}
use Rattle.cx_asm_pass2.specs.Statements.{PlacedStatement}
use Rattle.cx_asm_pass2.specs.Whole.{Whole}
use Rattle.cx_asm_build.specs.declared.faults.SourceKind.{SourceKind}
use Rattle.cx_look_faults.specs.Judging.{has_fault}
use Rattle.cx_look_faults.specs.Operands.{constant_part, is_alone, is_term, last_part, smallest_part, whole_part}
use Rattle.cx_look_faults.specs.Spans.{span, span_text}
use Rattle.cx_look_faults.specs.declared.spans.Cut.{Cut}
use Rattle.cx_look_faults.specs.declared.spans.Cut.TheVariants.{Operands, Subfields, Terms}
use Rattle.cx_look_faults.specs.declared.spans.Span.{Span}

-- A part has a fault by itself: the statement has it where all other parts of the operand are 0, and hasn't where this
-- one is 0 too. `has` says whether the statement has the fault with an operand.
pub record IsCause (has : List ℕ → Bool) (operand : List ℕ) (cut : Cut) (part : Span) : Type 0 where
  pub has_it : is_alone has cut operand part ≡ true
  pub goes : is_alone has cut operand (span 0 0) ≡ false

-- Of an instruction or a directive a term is such a part, a subfield or an operand; else it is all of the operand,
-- which has the fault, or what has none by itself: a literal that no base reaches, or an EQU's symbol.
abbrev pub IsMarked : (List ℕ → Bool) → List ℕ → Option Span → Span → Type 0
IsMarked has operand last part =
    IsCause has operand Terms part ⊎ (IsCause has operand Subfields part ⊎ (IsCause has operand Operands part
    ⊎ ((whole_part has operand ≡ Some part) ⊎ (last ≡ Some part))))

abbrev pub PartsAreCauses : Type 0
PartsAreCauses =
    (whole : Whole) (bases : Bases) (statements : List PlacedStatement) (at : ℕ) (s : PlacedStatement)
    (kind : SourceKind) (operation : Option Operation) (part : Span)
    → let has = has_fault whole bases s kind in let last = last_part statements at s.stmt.operand operation kind in
    option_or (smallest_part has s.stmt.operand) last ≡ Some part → IsMarked has s.stmt.operand last part

-- of a DC or DS it is a term or an item that has it
abbrev pub ConstantsAreCauses : Type 0
ConstantsAreCauses =
    (whole : Whole) (bases : Bases) (s : PlacedStatement) (kind : SourceKind) (part : Span)
    → constant_part whole bases s kind ≡ Some part
    → (is_term whole s kind part ≡ true) ⊎ (has_fault whole bases s kind (span_text part s.stmt.operand) ≡ true)
