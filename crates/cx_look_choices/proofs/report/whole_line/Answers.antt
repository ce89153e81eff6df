use Rattle.std.proofs.Common.{◌≡◌, ◌∙◌, ◌++◌, [], ◌∷◌, ap, codes}
use Rattle.std.specs.Fmt.{decimal}
use Rattle.cx_look_lines.specs.Words.{joined_line}
use Rattle.cx_look_choices.specs.Report.{closed_words, number_words, screens_words}
use Rattle.cx_look_steps.specs.Facts.Lists.{ok_on}
use Rattle.cx_look_choices.proofs.ReportLemmas.{four_added}
use Rattle.cx_look_choices.proofs.report.whole_line.Goals as goal

pub returns : goal.returns
returns c =
    let keys = c.as_slice.ensures.value ∙ c.in_ok-keys.ensures in
    let states = c.as_slice-2.ensures.value ∙ c.in_ok-states.ensures in
    let tail = screens_words c.args.counts.screens ++ number_words c.args.one_number c.args.counts.shows ++ closed_words c.args.is_closed in
    let line = four_added (codes "CHOICES KEYS") c.in_ok-line.line.items c.push_words.new.text.items c.push_screens.new.line.items c.push_number.new.line.items c.push_closed.new.line.items
    (c.as_slice.result.now ∷ codes "STATES" ∷ c.as_slice-2.result.now ∷ []) (screens_words c.args.counts.screens)
    (number_words c.args.one_number c.args.counts.shows) (closed_words c.args.is_closed) (c.in_ok-line.ensures.items_if_clones_equal (λ x y e. e))
    c.in_ok-push_words.ensures c.in_ok-push_screens.ensures c.in_ok-push_number.ensures c.in_ok-push_closed.ensures in
    ok_on (λ _. c.push.new.self ≡ c.args.report.now ++ c.push_closed.new.line.items ∷ [])
    (λ _. c.push.new.self ≡ c.args.report.now
    ++ joined_line (codes "CHOICES KEYS" ∷ decimal c.args.counts.keys ∷ codes "STATES" ∷ decimal c.args.counts.states ∷ tail) ∷ []) c.push.result
    (λ _ e.
    e ∙ ap (λ l. c.args.report.now ++ l ∷ []) line
    ∙ ap (λ k. c.args.report.now ++ joined_line (codes "CHOICES KEYS" ∷ k ∷ codes "STATES" ∷ c.as_slice-2.result.now ∷ tail) ∷ []) keys
    ∙ ap (λ s. c.args.report.now ++ joined_line (codes "CHOICES KEYS" ∷ decimal c.args.counts.keys ∷ codes "STATES" ∷ s ∷ tail) ∷ []) states)
    c.push.ensures
