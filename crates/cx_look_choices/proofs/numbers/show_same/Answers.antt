use Rattle.cx_look_choices.proofs.NumberLemmas.{shown_by}
use Rattle.cx_look_choices.proofs.numbers.show_same.Goals as goal

pub returns : goal.returns
returns g c =
    shown_by c.texts_decide.ensures.waits (g.V.Seen.shows c.args.seen.now) c.shows_decide.ensures c.args.one.now c.args.other.now
    c.in_ok-first.first c.in_ok-second.second c.in_ok-first.ensures c.in_ok-second.ensures c.is_same-same.result c.is_same-same.ensures
