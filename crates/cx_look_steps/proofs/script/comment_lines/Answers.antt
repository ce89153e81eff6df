use Rattle.std.proofs.Common.{◌∙◌, ◌≡◌, ◌++◌, [], ◌∷◌, ap, sym}
use Rattle.std.proofs.lemmas.List.{drop_all}
use Rattle.cx_look_steps.specs.Script.{comment_lines, comments_on}
use Rattle.cx_look_steps.proofs.CommentLemmas.{none_left}
use Rattle.cx_look_steps.specs.Facts.Lists.{ok_on}
use Rattle.cx_look_steps.proofs.script.comment_lines.Goals as goal

pub returns : goal.returns
returns c =
    let l = c.loop-text in
    ok_on (λ _. c.push.new.self ≡ l.report ++ l.line.items ∷ []) (λ _. c.push.new.self ≡ c.args.report.now ++ comment_lines c.args.texts.now) c.push.result
    (λ _ e.
    e ∙ ap (λ ls. l.report ++ ls) (sym (none_left l.line.items))
    ∙ ap (λ ts. l.report ++ comments_on l.line.items ts) (sym (drop_all l.text-index c.in-Some.others.now c.loop-text-test.false))
    ∙ l.invariant)
    c.push.ensures
