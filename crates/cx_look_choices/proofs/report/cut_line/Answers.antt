use Rattle.std.proofs.Common.{◌≡◌, ◌∙◌, ◌++◌, [], ◌∷◌, ap, codes}
use Rattle.std.specs.Fmt.{decimal}
use Rattle.cx_look_lines.specs.Words.{joined_line}
use Rattle.cx_look_choices.specs.Report.{number_words, screens_words}
use Rattle.cx_look_steps.specs.Facts.Lists.{ok_on}
use Rattle.cx_look_choices.proofs.ReportLemmas.{three_added}
use Rattle.cx_look_choices.proofs.report.cut_line.Goals as goal

pub returns : goal.returns
returns c =
    let most = c.as_slice.ensures.value ∙ c.in_ok-most.ensures in
    let keys = c.as_slice-2.ensures.value ∙ c.in_ok-keys.ensures in
    let tail = screens_words c.args.screens ++ number_words c.args.one_number c.args.shows in
    let line = three_added (codes "CHOICES MORE THAN") c.in_ok-line.line.items c.push_words.new.text.items c.push_screens.new.line.items c.push_number.new.line.items
    (c.as_slice.result.now ∷ codes "STATES, ALL OF" ∷ c.as_slice-2.result.now ∷ codes "KEYS" ∷ []) (screens_words c.args.screens)
    (number_words c.args.one_number c.args.shows) (c.in_ok-line.ensures.items_if_clones_equal (λ x y e. e))
    c.in_ok-push_words.ensures c.in_ok-push_screens.ensures c.in_ok-push_number.ensures in
    ok_on (λ _. c.push.new.self ≡ c.args.report.now ++ c.push_number.new.line.items ∷ [])
    (λ _. c.push.new.self ≡ c.args.report.now
    ++ joined_line (codes "CHOICES MORE THAN" ∷ decimal c.args.most ∷ codes "STATES, ALL OF" ∷ decimal c.args.keys ∷ codes "KEYS" ∷ tail) ∷ []) c.push.result
    (λ _ e.
    e ∙ ap (λ l. c.args.report.now ++ l ∷ []) line
    ∙ ap (λ m. c.args.report.now ++ joined_line (codes "CHOICES MORE THAN" ∷ m ∷ codes "STATES, ALL OF" ∷ c.as_slice-2.result.now ∷ codes "KEYS" ∷ tail) ∷ []) most
    ∙ ap (λ k. c.args.report.now ++ joined_line (codes "CHOICES MORE THAN" ∷ decimal c.args.most ∷ codes "STATES, ALL OF" ∷ k ∷ codes "KEYS" ∷ tail) ∷ []) keys)
    c.push.ensures
