use Rattle.std.proofs.Common.{◌≡◌, ◌-◌, ◌++◌, length, drop, arith, refl, sym, ap, ◌∙◌, subst}
use Rattle.std.proofs.lemmas.List.{length-set}
use Rattle.cx_base.specs.Digits.{digits}
use Rattle.cx_base.proofs.DigitLemmas.{all_places, no_place, one_more}
use Rattle.cx_base.proofs.digits.fill.Goals as goal

pub loop-at-init : goal.loop-at-init
loop-at-init c = (omega arith, refl, all_places c.args.base c.args.n c.args.text.now)

pub loop-at-preserved : goal.loop-at-preserved
loop-at-preserved c =
    let kept = length-set c.loop-at.text (c.loop-at.at - 1) c.last_digit.result in (
      omega (arith, kept, c.loop-at.invariant.0),
      kept ∙ c.loop-at.invariant.1,
      one_more c.args.base c.loop-at.at c.loop-at.rest c.last_digit.result c.loop-at.text _ c.last_digit.ensures c.loop-at-test.true c.loop-at.invariant.0 c.loop-at.invariant.2
          ∙ ap (λ n. digits c.args.base n c.args.n) (sym kept),
    )

pub returns : goal.returns
returns c =
    let none : c.loop-at.at ≡ 0 = omega arith in
    no_place c.args.base c.loop-at.rest c.loop-at.text _
    (subst (λ n. digits c.args.base n c.loop-at.rest ++ drop n c.loop-at.text ≡ digits c.args.base (length c.loop-at.text) c.args.n) none c.loop-at.invariant.2)
    ∙ ap (λ n. digits c.args.base n c.args.n) c.loop-at.invariant.1
