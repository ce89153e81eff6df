use Rattle.std.proofs.Common.{◌≤◌, ◌^◌, arith, lit<}
use Rattle.std.proofs.Math.Nat.{pow-le-pow_right}
use Rattle.cx_look_fields.proofs.numbers.number_of_digits.Goals as goal

pub overflow_mul-number : goal.overflow_mul-number
overflow_mul-number c =
    let few : c.loop-digit.digit-index ≤ 31 = omega arith in
    let wide : 10 ^ c.loop-digit.digit-index ≤ 10 ^ 31 = pow-le-pow_right (lit< tt) few in
    omega (arith, wide, c.loop-digit.invariant.1)

pub overflow_add-number : goal.overflow_add-number
overflow_add-number c =
    let few : c.loop-digit.digit-index ≤ 31 = omega arith in
    let wide : 10 ^ c.loop-digit.digit-index ≤ 10 ^ 31 = pow-le-pow_right (lit< tt) few in
    omega (arith, wide, c.loop-digit.invariant.1)

pub returns-clause-small : goal.returns-clause-small
returns-clause-small c =
    let few : c.loop-digit.digit-index ≤ 32 = omega arith in
    let wide : 10 ^ c.loop-digit.digit-index ≤ 10 ^ 32 = pow-le-pow_right (lit< tt) few in
    omega (arith, wide, c.loop-digit.invariant.1)
