use Rattle.std.proofs.Common.{◌∙◌, ap, length, nat_le, sym}
use Rattle.cx_look_steps.specs.Script.{with_text}
use Rattle.cx_look_steps.proofs.CommentLemmas.{beginning, fitting}
use Rattle.cx_look_steps.proofs.script.comment_on.Goals as goal

pub returns-then-fits : goal.returns-then-fits
returns-then-fits c = λ texts.
    fitting c.args.report.now c.args.line.items c.in_ok-longer.longer.items c.args.text.now texts
    (ap (λ l. nat_le (length (with_text l c.args.text.now)) 100) (sym c.as_slice.ensures.value) ∙ sym c.fits.ensures ∙ c.if-fits.true)
    c.in_ok-longer.ensures

pub returns : goal.returns
returns c = λ texts.
    beginning c.args.report.now c.push.new.self c.args.line.items c.in_ok-next.next.items c.args.text.now texts
    (ap (λ l. nat_le (length (with_text l c.args.text.now)) 100) (sym c.as_slice.ensures.value) ∙ sym c.fits.ensures ∙ c.if-fits.false)
    c.in_ok-push.ensures c.in_ok-next.ensures
