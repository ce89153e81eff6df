use Rattle.std.proofs.Common.{◌≡◌, ◌∙◌, ◌++◌, [], ap, append-nil, sym}
use Rattle.std.specs.Option.{option_copied}
use Rattle.std.specs.Prelude.{unwrap_or}
use Rattle.cx_look_choices.specs.Report.{screen_lines}
use Rattle.cx_look_steps.specs.Facts.Lists.{ok_on}
use Rattle.cx_look_choices.proofs.ReportLemmas.{screen_is}
use Rattle.cx_look_choices.proofs.report.screen_lines.Goals as goal

pub returns-in_default : goal.returns-in_default
returns-in_default c =
    let old = c.args.report.now in
    sym
    (ap (λ ls. old ++ ls)
    (screen_is c.args.texts.now c.args.came c.args.screen c.if-screen-came.false ∙ ap (λ o. unwrap_or o []) (sym c.text_at.ensures ∙ ap option_copied c.in_default.is))
    ∙ append-nil old)

pub returns : goal.returns
returns c =
    let old = c.args.report.now in
    let texts = c.args.texts.now in
    ok_on (λ _. c.append.new.self ≡ old ++ c.in-Some.text.now) (λ _. c.append.new.self ≡ old ++ screen_lines texts c.args.came c.args.screen) c.append.result
    (λ _ e.
    e ∙ ap (λ ls. old ++ ls)
    (ap (λ o. unwrap_or o []) (sym (sym c.text_at.ensures ∙ ap option_copied c.in-Some.is)) ∙ sym (screen_is texts c.args.came c.args.screen c.if-screen-came.false)))
    c.append.ensures
