use Rattle.std.proofs.Common.{◌≡◌, ◌<◌, ◌&&◌, true, false, length, get_or, arith, rules}
use Rattle.cx_asm_expressions.specs.Terms.{is_sign}
use Rattle.cx_asm_expressions.proofs.TermLemmas.{cut_more, kept_more}
use Rattle.cx_asm_expressions.proofs.terms.parts_of.Goals as goal
use Rattle.cx_asm_expressions.proofs.terms.parts_of.Goals.{then-cuts+in_ok-push, else-cuts}

pub loop-i-preserved : goal.loop-i-preserved
loop-i-preserved c =
    let text = c.args.text.now in
    let outs = c.in_ok-outs.outs.items in
    let i = c.loop-i.i in
    let out = c.index.result.now in
    let within : i < length text = omega arith in
    let inside : i < length outs = omega (arith, c.loop-i.invariant.level) in
    elim c.if-cuts.branch [
      | then-cuts+in_ok-push w ↦
          let cut : (out && is_sign (get_or text i 0)) ≡ true = search rules in
          let e = cut_more c.loop-i.found.items c.loop-i.sign c.loop-i.start text outs i out _ within inside c.index.ensures cut c.loop-i.invariant.goes_on in
          search (rules, e)
      | else-cuts w ↦
          let kept : (out && is_sign (get_or text i 0)) ≡ false = search rules in
          let e = kept_more c.loop-i.found.items c.loop-i.sign c.loop-i.start text outs i out _ c.loop-i.invariant.begun within inside c.index.ensures kept c.loop-i.invariant.goes_on in
          search (rules, e)
    ]
