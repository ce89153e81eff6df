-- What a directive makes doesn't depend on the bases in use.
use Rattle.std.proofs.Common.{◌≡◌, ℕ, List, Option, Ok, Err, refl}
use Rattle.std.specs.Prelude.{IfOk, Result}
use Rattle.cx_asm_operations.specs.declared.operations.Operation.{Operation}
use Rattle.cx_asm_expressions.specs.declared.faults.FaultKind.{FaultKind}
use Rattle.cx_asm.specs.Parts.Passing.{WithUsing}
use Rattle.cx_asm_operands.specs.Bases.{Bases, none_in_use}
use Rattle.cx_asm_operations.specs.declared.operations.Directive.{Directive}
use Rattle.cx_asm_operations.specs.declared.operations.Directive.TheVariants as directive
use Rattle.cx_asm_pass1.specs.Roles.{directive_role}
use Rattle.cx_asm_pass2.specs.Statements.{PlacedStatement}
use Rattle.cx_asm_pass2.specs.Whole.{Whole}
use Rattle.cx_asm.specs.Resolving.{role_standing}

pub by_directive : (whole : Whole) (statements : List PlacedStatement) (bases : Bases) (s : PlacedStatement) (d : Directive)
    → role_standing whole statements bases s (directive_role d) ≡ role_standing whole statements none_in_use s (directive_role d)
by_directive whole statements bases s directive.Csect = refl
by_directive whole statements bases s directive.Start = refl
by_directive whole statements bases s directive.Dsect = refl
by_directive whole statements bases s directive.Equ = refl
by_directive whole statements bases s directive.Ds = refl
by_directive whole statements bases s directive.Dc = refl
by_directive whole statements bases s directive.Ltorg = refl
by_directive whole statements bases s directive.Dfhregs = refl
by_directive whole statements bases s directive.Copy = refl
by_directive whole statements bases s directive.Using = refl
by_directive whole statements bases s directive.Drop = refl
by_directive whole statements bases s directive.End = refl
by_directive whole statements bases s directive.Title = refl
by_directive whole statements bases s directive.Print = refl
by_directive whole statements bases s directive.Eject = refl
by_directive whole statements bases s directive.Space = refl

-- what a directive's fault is whatever the bases and the number, it is for these
pub with_these : {E : Type 0} (whole : Whole) (bases : Bases) (number : ℕ) (s : PlacedStatement) (o : Option Operation) (r : Result (Option FaultKind) E)
    → IfOk r (λ fault. (b : Bases) → (n : ℕ) → WithUsing whole b n s o fault) → IfOk r (λ fault. WithUsing whole bases number s o fault)
with_these whole bases number s o (Ok fault) h = h bases number
with_these whole bases number s o (Err error) h = tt
