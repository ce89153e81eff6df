-- The part of an operand that is at fault (own).
use Rattle.std.specs.Prelude.{ℕ, ◌-◌, Bool, ◌&&◌, not, ◌==◌, if◌then◌else◌, Option, Some, None, fold, option_and_then, option_map, List, [], ◌∷◌, codes, drop, length, slice_index, take}
use Rattle.std.specs.List.{enumerate_from, filter_map, find, list_any}
use Rattle.std.specs.Option.{option_or}
use Rattle.std.specs.Result.{result_err}
use Rattle.std.specs.Str.{bytes_eq}
use Rattle.cx_asm_expressions.specs.Expressions.{value_of}
use Rattle.cx_asm_operations.specs.declared.operations.Operation.{Operation}
use Rattle.cx_asm_operations.specs.declared.operations.Operation.TheVariants.{Directive}
use Rattle.cx_asm_operations.specs.declared.operations.Directive.TheVariants.{Dc, Ds, Equ}
use Rattle.cx_asm_operands.specs.Bases.{Bases, none_in_use}
use Rattle.cx_asm_operands.specs.Forms.{literal_in}
use Rattle.cx_asm_pass2.specs.SecondFaults.{bases_after}
use Rattle.cx_asm_pass2.specs.Statements.{PlacedStatement, operation_of}
use Rattle.cx_asm_pass2.specs.Whole.{Whole, counter_of}
use Rattle.cx_asm_build.specs.declared.faults.SourceKind.{SourceKind}
use Rattle.cx_asm_build.specs.declared.faults.SourceKind.TheVariants as kind
use Rattle.cx_look_faults.specs.Judging.{has_fault, is_kind}
use Rattle.cx_look_faults.specs.Spans.{is_one_of, span, span_text, spans_of, with_zeros}
use Rattle.cx_look_faults.specs.declared.operands.OperandPart.{OperandPart}
use Rattle.cx_look_faults.specs.declared.spans.Cut.{Cut}
use Rattle.cx_look_faults.specs.declared.spans.Cut.TheVariants.{Operands, Subfields, Terms}
use Rattle.cx_look_faults.specs.declared.spans.Span.{Span}

-- ---- instructions and directives; `has` says whether the statement has the fault with an operand
-- A part has the fault alone: the operand has it where all others are 0.
abbrev pub is_alone : (List ℕ → Bool) → Cut → List ℕ → Span → Bool
is_alone has cut operand part = has (with_zeros cut (part ∷ []) operand)

-- the first part that has it alone; None where the operand has it without any
abbrev pub alone_in : (List ℕ → Bool) → List ℕ → Cut → Option Span
alone_in has operand cut =
    if is_alone has cut operand (span 0 0) then None else find (is_alone has cut operand) (spans_of cut operand)

-- all of the operand, where it has the fault
abbrev pub whole_part : (List ℕ → Bool) → List ℕ → Option Span
whole_part has operand = if not (length operand == 0) && has operand then Some (span 0 (length operand)) else None

-- the smallest part: a term, or else a subfield, or else an operand, or else all
abbrev pub smallest_part : (List ℕ → Bool) → List ℕ → Option Span
smallest_part has operand =
    option_or (alone_in has operand Terms) (option_or (alone_in has operand Subfields)
    (option_or (alone_in has operand Operands) (whole_part has operand)))

-- A symbol isn't known yet: this statement or a later one defines it, and none before.
abbrev pub is_later : List PlacedStatement → ℕ → List ℕ → Bool
is_later statements at name =
    let defines = list_any (λ (s : PlacedStatement). bytes_eq s.stmt.name name) in
    defines (drop at statements) && not (defines (take at statements))

-- Without one: a literal that no base reaches, which is the last operand; the first term of an EQU that isn't known
-- yet, or else all of its operand. The statement is the one at this place.
abbrev pub last_part : List PlacedStatement → ℕ → List ℕ → Option Operation → SourceKind → Option Span
last_part statements at operand operation kind.NoAddressability =
    option_map (λ literal. span (length operand - length literal) (length operand)) (literal_in operand)
last_part statements at operand (Some (Directive Equ)) kind.UndefinedSymbol =
    option_or (find (λ part. is_later statements at (span_text part operand)) (spans_of Terms operand))
    (Some (span 0 (length operand)))
last_part statements at operand operation kind = None

-- ---- DC and DS
-- a term of an address whose value has the fault
abbrev pub is_term : Whole → PlacedStatement → SourceKind → Span → Bool
is_term whole s kind part =
    is_one_of (codes "(+-") (slice_index s.stmt.operand (part.start - 1))
    && is_kind (result_err (value_of whole.find (counter_of s) (span_text part s.stmt.operand))) kind

-- the first such term, or else the first item that has it
abbrev pub constant_part : Whole → Bases → PlacedStatement → SourceKind → Option Span
constant_part whole bases s kind =
    option_or (find (is_term whole s kind) (spans_of Terms s.stmt.operand))
    (find (λ part. has_fault whole bases s kind (span_text part s.stmt.operand)) (spans_of Operands s.stmt.operand))

-- ---- the part of a statement's operand that has a fault
abbrev pub part_by : Whole → Bases → List PlacedStatement → ℕ → PlacedStatement → SourceKind → Option Operation
    → Option Span
part_by whole bases statements at s kind (Some (Directive Dc)) = constant_part whole bases s kind
part_by whole bases statements at s kind (Some (Directive Ds)) = constant_part whole bases s kind
part_by whole bases statements at s kind operation =
    option_or (smallest_part (has_fault whole bases s kind) s.stmt.operand)
    (last_part statements at s.stmt.operand operation kind)

-- the part of a statement's operand that has a fault of this kind, with the operand and the line
abbrev pub part_on : Whole → Bases → List PlacedStatement → ℕ → PlacedStatement → SourceKind → Option OperandPart
part_on whole bases statements at s kind =
    option_map (λ part. record { line = s.line; operand = s.stmt.operand; part = part })
    (part_by whole bases statements at s kind (operation_of s))

-- the bases in use before the statement at a place
abbrev pub bases_before : Whole → List PlacedStatement → ℕ → Bases
bases_before whole statements at = fold (bases_after whole) none_in_use (take at statements)

-- those of the statements on faulty lines, by what the fault of a line is
abbrev pub part_at : Whole → (ℕ → Option SourceKind) → List PlacedStatement → ℕ × PlacedStatement → Option OperandPart
part_at whole kind_of statements entry =
    option_and_then (part_on whole (bases_before whole statements entry.0) statements entry.0 entry.1)
    (kind_of entry.1.line)

unfoldable pub operand_parts_in : Whole → (ℕ → Option SourceKind) → List PlacedStatement → List OperandPart
operand_parts_in whole kind_of statements = filter_map (part_at whole kind_of statements) (enumerate_from 0 statements)
