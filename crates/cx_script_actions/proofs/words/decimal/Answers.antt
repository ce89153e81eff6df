use Rattle.std.proofs.Common.{◌<◌, arith}
use Rattle.cx_script_actions.proofs.WordLemmas.{digit_at, power_bound}
use Rattle.cx_script_actions.proofs.words.decimal.Goals as goal

pub overflow_mul-number : goal.overflow_mul-number
overflow_mul-number c =
    let few : c.loop-digit.digit-index < 9 = omega arith in
    omega (arith, power_bound c.loop-digit.digit-index few)

pub overflow_add-number : goal.overflow_add-number
overflow_add-number c =
    let few : c.loop-digit.digit-index < 9 = omega arith in
    let digit = digit_at c.args.digits.now c.loop-digit.digit-index 0 c.requires.digits c.loop-digit-test.true in
    let from = c.from.ensures in
    omega (arith, power_bound c.loop-digit.digit-index few)
