use Rattle.std.proofs.Common.{sym, ◌∙◌}
use Rattle.cx_asm_operands.specs.Forms.{operands_of}
use Rattle.cx_asm_operands.proofs.FormLemmas.{resolved_well}
use Rattle.cx_asm_operands.specs.Context.{lookup_context}
use Rattle.cx_asm_operands.proofs.forms.resolve.Goals as goal

pub instruction-requires : goal.instruction-requires
instruction-requires c =
    resolved_well c.args.operation c.in-Some.op c.in-Some-of.form (lookup_context c.args.c.now) (operands_of c.args.operand.now) c.in-Ok.fields
    (sym c.in-Some.ensures) (sym c.in-Some-of.ensures) c.bases-bases.ensures.sixteen (sym c.in_ok-fields.ensures ∙ c.in-Ok.is)
