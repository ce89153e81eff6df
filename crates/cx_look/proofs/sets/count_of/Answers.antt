use Rattle.std.proofs.Common.{◌≤◌, ◌<◌, ap, length, subst, sym, ◌∙◌}
use Rattle.cx_look.specs.Parts.{few, texts_behind}
use Rattle.cx_look.proofs.SetLemmas.{meant_few, meant_many, meant_none}
use Rattle.cx_look.proofs.sets.count_of.Goals as goal

pub returns-in_default-clause-value : goal.returns-in_default-clause-value
returns-in_default-clause-value c = sym (ap length (meant_none c.args.text.now (sym c.place_of.ensures ∙ c.in_default.is)))

pub returns-then-count-gt-MOST_TEXTS-clause-value :
    goal.returns-then-count-gt-MOST_TEXTS-clause-value
returns-then-count-gt-MOST_TEXTS-clause-value c =
    let counted = c.count_behind-count.ensures ∙ ap (λ rest. few (length (texts_behind rest))) c.split_at.ensures.back in
    meant_many c.args.text.now c.in-Some.place (sym c.place_of.ensures ∙ c.in-Some.is)
    (subst (λ n. 10000 < n) counted c.if-count-gt-MOST_TEXTS.true)

pub returns-else-count-gt-MOST_TEXTS-clause-value :
    goal.returns-else-count-gt-MOST_TEXTS-clause-value
returns-else-count-gt-MOST_TEXTS-clause-value c =
    let counted = c.count_behind-count.ensures ∙ ap (λ rest. few (length (texts_behind rest))) c.split_at.ensures.back in
    counted ∙ (meant_few c.args.text.now c.in-Some.place (sym c.place_of.ensures ∙ c.in-Some.is)
    (subst (λ n. n ≤ 10000) counted c.if-count-gt-MOST_TEXTS.false)).1
