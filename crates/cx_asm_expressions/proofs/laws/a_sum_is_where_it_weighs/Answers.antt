use Rattle.cx_asm_expressions.proofs.WeighLemmas.{where_it_weighs}
use Rattle.cx_asm_expressions.proofs.laws.a_sum_is_where_it_weighs.Goals as goal

pub returns : goal.returns
returns c = where_it_weighs
