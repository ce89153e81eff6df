use Rattle.std.proofs.Common.{◌≡◌, ◌<◌, ◌+◌, ◌*◌, suc, length, drop, map, get_or, arith, rules}
use Rattle.std.proofs.Math.Seq.{drop-cons}
use Rattle.std.proofs.lemmas.Grind.{common_steps}
use Rattle.std.specs.Int.Digits.{number_from_digits_after}
use Rattle.cx_asm_expressions.specs.Digits.{digit_value, number_in, bound}
use Rattle.cx_asm_expressions.proofs.NumberLemmas.{past_bound}
use Rattle.cx_asm_expressions.proofs.digits.number.Goals as goal

pub returns-then-number-gt-BOUND : goal.returns-then-number-gt-BOUND
returns-then-number-gt-BOUND c =
    let text = c.args.text.now in
    let i = c.loop-c.c-index in
    let next = c.loop-c.number * c.args.base + digit_value (get_or text i 0) in
    let within : i < length text = omega arith in
    let e : number_from_digits_after c.args.base next (map digit_value (drop (suc i) text)) ≡ number_in c.args.base text =
    rw (drop-cons text i 0) at c.loop-c.invariant.goes_on in
    let past : bound < next = first_of (search rules, grind (arith, common_steps)) in
    past_bound c.args.base next (map digit_value (drop (suc i) text)) (number_in c.args.base text) (omega arith) past e
