use Rattle.cx_look.proofs.ChoiceLemmas.{room_is}
use Rattle.cx_look.proofs.choices.are_few.Goals as goal

pub returns : goal.returns
returns c =
    room_is c.args.lines.now c.args.text.now c.count_among.result c.count_meant.result c.plus.result c.count_among.ensures
    c.count_meant.ensures.value c.plus.ensures
