use Rattle.std.proofs.Common.{◌≡◌, ◌∙◌, ◌++◌, [], ◌∷◌, ap, codes, length, subst, sym}
use Rattle.std.specs.Fmt.{decimal}
use Rattle.std.specs.Prelude.{◌==◌, OnOk}
use Rattle.cx_look_lines.specs.Words.{look_line}
use Rattle.cx_look_orders.proofs.HeadLemmas.{said, unsaid}
use Rattle.cx_look_orders.proofs.report.whole_line.Goals as goal

pub returns-then-is_empty : goal.returns-then-is_empty
returns-then-is_empty c =
    let keys = c.args.keys.now in
    let none = ap (λ lines. length lines == 0) (sym c.as_slice.ensures) ∙ sym c.is_empty.ensures ∙ c.if-is_empty.true in
    subst
    (λ words. OnOk c.line.result (c.line.new.self ≡ c.args.report.now ++ look_line (codes "ORDERS STATES" ∷ decimal c.args.states ∷ codes "OUTCOMES" ∷ decimal c.args.outcomes ∷ words)))
    (sym (unsaid keys none))
    (subst
    (λ states. OnOk c.line.result (c.line.new.self ≡ c.args.report.now ++ look_line (codes "ORDERS STATES" ∷ states ∷ codes "OUTCOMES" ∷ decimal c.args.outcomes ∷ [])))
    (c.as_slice-then-is_empty.ensures.value ∙ c.in_ok-states.ensures)
    (subst
    (λ outcomes. OnOk c.line.result (c.line.new.self ≡ c.args.report.now ++ look_line (codes "ORDERS STATES" ∷ c.as_slice-then-is_empty.result.now ∷ codes "OUTCOMES" ∷ outcomes ∷ [])))
    (c.as_slice-then-is_empty-2.ensures.value ∙ c.in_ok-outcomes.ensures) c.line.ensures))

pub returns : goal.returns
returns c =
    let keys = c.args.keys.now in
    let some = ap (λ lines. length lines == 0) (sym c.as_slice.ensures) ∙ sym c.is_empty.ensures ∙ c.if-is_empty.false in
    subst
    (λ words. OnOk c.line-2.result (c.line-2.new.self ≡ c.args.report.now ++ look_line (codes "ORDERS STATES" ∷ decimal c.args.states ∷ codes "OUTCOMES" ∷ decimal c.args.outcomes ∷ words)))
    (sym (said keys some))
    (subst
    (λ when. OnOk c.line-2.result (c.line-2.new.self ≡ c.args.report.now ++ look_line (codes "ORDERS STATES" ∷ decimal c.args.states ∷ codes "OUTCOMES" ∷ decimal c.args.outcomes ∷ when ∷ [])))
    c.when_words.ensures
    (subst
    (λ states. OnOk c.line-2.result (c.line-2.new.self ≡ c.args.report.now ++ look_line (codes "ORDERS STATES" ∷ states ∷ codes "OUTCOMES" ∷ decimal c.args.outcomes ∷ c.when_words.result.now ∷ [])))
    (c.as_slice-2.ensures.value ∙ c.in_ok-states.ensures)
    (subst
    (λ outcomes. OnOk c.line-2.result (c.line-2.new.self ≡ c.args.report.now ++ look_line (codes "ORDERS STATES" ∷ c.as_slice-2.result.now ∷ codes "OUTCOMES" ∷ outcomes ∷ c.when_words.result.now ∷ [])))
    (c.as_slice-3.ensures.value ∙ c.in_ok-outcomes.ensures) c.line-2.ensures)))
