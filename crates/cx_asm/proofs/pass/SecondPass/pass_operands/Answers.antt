use Rattle.std.proofs.Common.{◌≡◌, Option, Some, rules, subst, sym}
use Rattle.std.specs.Prelude.{IfOk}
use Rattle.cx_asm_operations.specs.declared.operations.Operation.{Operation}
use Rattle.cx_asm_operations.specs.declared.operations.Operation.TheVariants as operation
use Rattle.cx_asm_pass2.specs.Statements.{operation_of}
use Rattle.cx_asm_pass2.specs.Whole.{whole_by}
use Rattle.cx_asm.specs.Parts.Passing.{WithUsing}
use Rattle.cx_asm.proofs.RoleLemmas.{with_these}
use Rattle.cx_asm.proofs.pass.SecondPass.pass_operands.Goals as goal

pub returns-in-Some-Directive-clause-fault : goal.returns-in-Some-Directive-clause-fault
returns-in-Some-Directive-clause-fault c =
    let whole = whole_by c.args.self.now.places.now in
    let s = c.args.statement.now in
    let one : Option Operation = Some (operation.Directive c.in-Some-Directive.directive) in
    let named : operation_of s ≡ one = search rules in
    subst (λ (o : Option Operation). IfOk c.pass_directive.result (λ fault. WithUsing whole c.args.bases.now c.args.number s o fault)) (sym named)
    (with_these whole c.args.bases.now c.args.number s one c.pass_directive.result c.pass_directive.ensures.fault)
