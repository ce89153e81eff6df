use Rattle.std.proofs.Common.{◌≡◌, ◌<◌, ◌+◌, ◌*◌, ◌&&◌, false, sym, ◌∙◌, suc, length, drop, map, get_or, arith, rules}
use Rattle.std.proofs.Math.Seq.{drop-cons}
use Rattle.std.proofs.lemmas.Grind.{common_steps}
use Rattle.std.specs.Int.Digits.{number_from_digits_after}
use Rattle.cx_asm_expressions.specs.Digits.{bound}
use Rattle.cx_asm_expressions.specs.Texts.{code, single, is_doubled_mark, character_number}
use Rattle.cx_asm_expressions.proofs.NumberLemmas.{past_bound}
use Rattle.cx_asm_expressions.proofs.texts.character_number.Goals as goal

pub returns-then-number-gt-BOUND : goal.returns-then-number-gt-BOUND
returns-then-number-gt-BOUND c =
    let body = c.args.body.now in
    let i = c.loop-c.c-index in
    let next = c.loop-c.number * 256 + code (get_or body i 0) in
    let within : i < length body = omega arith in
    let second : (c.loop-c.opened && is_doubled_mark (get_or body i 0)) ≡ false = sym c.repeats.ensures ∙ c.if-repeats.false in
    let e : number_from_digits_after 256 next (map code (single (is_doubled_mark (get_or body i 0)) (drop (suc i) body))) ≡ character_number body =
    rw (drop-cons body i 0, second) at c.loop-c.invariant.goes_on in
    let past : bound < next = first_of (search rules, grind (arith, common_steps)) in
    past_bound 256 next (map code (single (is_doubled_mark (get_or body i 0)) (drop (suc i) body))) (character_number body) (omega arith) past e
