use Rattle.std.proofs.Common.{rules, ◌≡◌}
use Rattle.cx_code.specs.declared.table.Op.TheVariants as op
use Rattle.cx_exec.proofs.stepping.run.Goals as goal

pub execute_found-requires-clause-performed : goal.execute_found-requires-clause-performed
execute_found-requires-clause-performed g c = let same : c.in-Some.found.op ≡ op.Ex = search rules in rw same at c.in-Some.ensures.performed
