-- There are sixteen bases after every statement where there were sixteen before it.
use Rattle.std.specs.Prelude.{Result, Ok, Err, ℤ, slice_set, unwrap_or}
use Rattle.std.specs.Option.{option_map_or}
use Rattle.std.specs.Result.{result_ok}
use Rattle.std.proofs.Common.{◌≡◌, ℕ, Option, Some, None, List, [], ◌∷◌, length, refl, ◌∙◌}
use Rattle.std.proofs.lemmas.List.{length-set}
use Rattle.cx_asm_expressions.specs.declared.faults.FaultKind.{FaultKind}
use Rattle.cx_asm_operands.specs.Bases.{Bases, UsingStatement, after_drop, after_using}
use Rattle.cx_asm_operands.specs.Checking.{with_made}
use Rattle.cx_asm_operands.specs.Context.{Context}
use Rattle.cx_asm_operands.specs.Directives.{bases_in, drop_in, using_in}
use Rattle.cx_asm_operands.specs.Forms.{operands_of}
use Rattle.cx_asm_operations.specs.declared.operations.Directive.TheVariants as directive
use Rattle.cx_asm_operations.specs.declared.operations.Operation.{Operation}
use Rattle.cx_asm_operations.specs.declared.operations.Operation.TheVariants as operation
use Rattle.cx_asm_pass2.specs.SecondFaults.{bases_after}
use Rattle.cx_asm_pass2.specs.Statements.{PlacedStatement, operation_of}
use Rattle.cx_asm_pass2.specs.Whole.{Whole, directive_context}

held_length : (section : List ℕ) (registers : List ℕ) (number : ℤ) (bases : Bases) → length (after_using section number registers bases) ≡ length bases
held_length section [] number bases = refl
held_length section (register ∷ registers) number bases = held_length section registers _ (slice_set bases register _) ∙ length-set bases register _

ended_length : (registers : List ℕ) (bases : Bases) → length (after_drop (Some registers) bases) ≡ length bases
ended_length [] bases = refl
ended_length (register ∷ registers) bases = ended_length registers (slice_set bases register None) ∙ length-set bases register None

abbrev or_kept : Result Bases FaultKind → Bases → Bases
or_kept made bases = unwrap_or (result_ok made) bases

using_sixteen : (given : Result UsingStatement FaultKind) (bases : Bases) → length bases ≡ 16
    → length (or_kept (with_made (λ u. after_using u.section u.number u.registers bases) given) bases) ≡ 16
using_sixteen (Ok given) bases e = held_length given.section given.registers given.number bases ∙ e
using_sixteen (Err fault) bases e = e

drop_sixteen : (registers : Result (Option (List ℕ)) FaultKind) (bases : Bases) → length bases ≡ 16
    → length (or_kept (with_made (λ named. after_drop named bases) registers) bases) ≡ 16
drop_sixteen (Ok None) bases e = refl
drop_sixteen (Ok (Some registers)) bases e = ended_length registers bases ∙ e
drop_sixteen (Err fault) bases e = e

operand_sixteen : (o : Operation) (c : Context) (operand : List ℕ) → length c.bases ≡ 16 → length (or_kept (bases_in o c operand) c.bases) ≡ 16
unfolding bases_in
operand_sixteen (operation.Directive directive.Using) c operand e = using_sixteen (using_in c (operands_of operand)) c.bases e
operand_sixteen (operation.Directive directive.Drop) c operand e = drop_sixteen (drop_in c operand) c.bases e
operand_sixteen o c operand e = e

pub after_sixteen : (whole : Whole) (bases : Bases) (s : PlacedStatement) → length bases ≡ 16 → length (bases_after whole bases s) ≡ 16
unfolding bases_after
after_sixteen whole bases s e = go (operation_of s)
  where
    go : (o : Option Operation) → length (option_map_or (λ it. or_kept (bases_in it (directive_context whole bases s) s.stmt.operand) bases) o bases) ≡ 16
    go None = e
    go (Some o) = operand_sixteen o (directive_context whole bases s) s.stmt.operand e
