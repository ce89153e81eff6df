use Rattle.std.proofs.Math.Path.{fun_ext}
use Rattle.cx_look_xref.proofs.StepLemmas.{statement_step, statements_done}
use Rattle.cx_look_xref.proofs.literals.lines_by_literal.Goals as goal

pub loop-statement-preserved : goal.loop-statement-preserved
loop-statement-preserved c =
    λ number text. statement_step number text c.args.statements.now c.loop-statement.statement-index _ _ _ _ _ c.loop-statement-test.true c.statement-item.is
    (c.in_ok-put_statement.ensures number text) (c.loop-statement.invariant number text)

pub returns : goal.returns
returns c = fun_ext
    (λ number. fun_ext
    (λ text. statements_done number text c.args.statements.now c.loop-statement.statement-index _ _ c.loop-statement-test.false
    (c.loop-statement.invariant number text)))
