use Rattle.std.proofs.Common.{◌<◌, arith}
use Rattle.cx_script_actions.proofs.HexLemmas.{power_bound}
use Rattle.cx_script_actions.proofs.alterations.number_in.Goals as goal

pub overflow_mul-number : goal.overflow_mul-number
overflow_mul-number c =
    let few : c.loop-byte.byte-index < 4 = omega arith in
    omega (arith, power_bound c.loop-byte.byte-index few)
