use Rattle.std.proofs.Common.{◌≤◌, ◌^◌, arith, lit<}
use Rattle.std.proofs.Math.Nat.{pow-le-pow_right}
use Rattle.cx_exec.proofs.decimal.digits.Goals as goal

pub overflow_mul-number : goal.overflow_mul-number
overflow_mul-number c =
    let few : c.loop-i.i ≤ 14 = omega arith in
    let wide : 10 ^ c.loop-i.i ≤ 10 ^ 14 = pow-le-pow_right (lit< tt) few in
    omega (arith, wide, c.loop-i.invariant.2)

pub overflow_add-number : goal.overflow_add-number
overflow_add-number c =
    let few : c.loop-i.i ≤ 14 = omega arith in
    let wide : 10 ^ c.loop-i.i ≤ 10 ^ 14 = pow-le-pow_right (lit< tt) few in
    omega (arith, wide, c.loop-i.invariant.2, c.from.ensures)
