use Rattle.cx_look_choices.specs.Facts.Decides as lemmas
use Rattle.cx_look_choices.proofs.laws.reports_decide.Goals as goal

pub returns : goal.returns
returns g c =
    lemmas.reports_decide c.choices_decide.ensures.passages c.one_list_is_sooner.ensures c.texts_decide.ensures.waits
    (g.V.Seen.shows c.args.seen.now) c.shows_decide.ensures
